-- One row more of a level that words tell.
use Rattle.std.proofs.Common.{◌≡◌, ℕ, Bool, true, cond, List, [], ◌∷◌, ◌++◌, map, length, get_or, is_ok, Some, None, Option, sym, ap, ◌∙◌, arith}
use Rattle.sharing.specs.declared.level.Holding.{Holding}
use Rattle.sharing.specs.Holdings.{push_answer}
use Rattle.script.specs.Names.{and_then}
use Rattle.script.specs.Shares.{holding_of, rows_from}

-- what comes of one row more, before the words that follow it
abbrev joined : List Holding → List (List ℕ) → Holding → Option (List Holding)
joined rows more h = cond (is_ok (push_answer rows h)) (rows_from (rows ++ h ∷ []) more) None

rows_next : (rows : List Holding) (c n : List ℕ) (more : List (List ℕ)) (h : Holding) → Some h ≡ holding_of c n → is_ok (push_answer rows h) ≡ true → rows_from rows (c ∷ n ∷ more) ≡ rows_from (rows ++ h ∷ []) more
rows_next rows c n more h e taken = ap (λ (o : Option Holding). and_then o (joined rows more)) (sym e) ∙ ap (λ (b : Bool). cond b (rows_from (rows ++ h ∷ []) more) None) taken

-- two words more are a row more
pub rows_chunk : {A : Type 0} (f : A → List ℕ) (rows : List Holding) (pair rest all : List A) (d : A) (h : Holding) (whole : Option (List Holding)) → all ≡ pair ++ rest → length pair ≡ 2 → Some h ≡ holding_of (f (get_or pair 0 d)) (f (get_or pair 1 d)) → is_ok (push_answer rows h) ≡ true → rows_from rows (map f all) ≡ whole → rows_from (rows ++ h ∷ []) (map f rest) ≡ whole
rows_chunk f rows [] rest all d h whole e two holds taken inv = absurd (omega arith)
rows_chunk f rows (x ∷ []) rest all d h whole e two holds taken inv = absurd (omega arith)
rows_chunk f rows (x ∷ y ∷ []) rest all d h whole e two holds taken inv = sym (rows_next rows (f x) (f y) (map f rest) h holds taken) ∙ ap (λ ws. rows_from rows (map f ws)) (sym e) ∙ inv
rows_chunk f rows (x ∷ y ∷ z ∷ zs) rest all d h whole e two holds taken inv = absurd (omega arith)
