pub mod AnswerTexts
pub mod Calls
pub mod Lines
pub mod Names
pub mod Shares
pub mod Texts
