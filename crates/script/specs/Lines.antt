-- What a line of a script is.
use Rattle.std.specs.Prelude.{ℕ, Bool, true, cond, List, [], ◌∷◌, Some, codes, Option, ◌==◌}
use Rattle.std.specs.Option.{option_map}
use Rattle.std.specs.Str.{bytes_eq}
use Rattle.script.specs.declared.calls.Call.{Call}
use Rattle.script.specs.declared.lines.Line.{Line}
use Rattle.script.specs.declared.lines.Line.TheVariants as line
use Rattle.script.specs.Calls.{call_of}
use Rattle.script.specs.Shares.{Asked, asked, share_call}

-- what a line tells: nothing, a division of a level, or another call
pub data Told : Type 0 where
  silence : Told
  division : Asked → Told
  call : Call → Told

-- an empty word, and the first of a comment, which begins with the sign 35, `#`
abbrev pub silent : List ℕ → Bool
silent [] = true
silent (b ∷ bs) = b == 35

abbrev pub line_of : List (List ℕ) → Option Told
line_of [] = Some silence
line_of (first ∷ words) = cond (silent first) (Some silence) (cond (bytes_eq first (codes "share")) (option_map division (share_call (first ∷ words))) (option_map call (call_of (first ∷ words))))

abbrev pub told : Line → Told
told line.Silent = silence
told (line.Share s) = division (asked s)
told (line.Call c) = call c
