mod ShareFacts
mod TextFacts
