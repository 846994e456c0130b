use Rattle.std.proofs.Common.{◌≡◌, ℕ, ◌<◌, ◌≤◌, true, false, eqb, List, sym, ap, ◌∙◌, subst, arith}
use Rattle.std.proofs.lemmas.Bool.{eq-eqb, ne_eqb}
use Rattle.book.specs.declared.row.Row.{Row}
use Rattle.book.specs.declared.book.Book.{Book}
use Rattle.book.specs.Rows.{sound_table}
use Rattle.book.specs.Books.{rows_of}
use Rattle.book.specs.Edits.{placed, bid_row, offer_row, quoted}
use Rattle.book.proofs.EditFacts.{good-quote, sound-bid, sound-offer, sound-both, put-offer, put_both}
use Rattle.book.proofs.book.Book.put_quote.Goals as goal
use Rattle.book.proofs.book.Book.put_quote.Goals.{then-quote-gt0, else-quote-gt0}

some-bid : (bid : ℕ) → 0 < bid → eqb bid 0 ≡ false
some-bid bid h = ne_eqb bid 0 (λ e. omega arith)

no-bid : (bid : ℕ) → bid ≤ 0 → eqb bid 0 ≡ true
no-bid bid h = eq-eqb bid 0 (omega arith)

pub insert-requires : goal.insert-requires
insert-requires c =
    let b = c.args.self.now in
    let q = c.args.quote in
    subst (λ (r : Row). sound_table (placed r (rows_of b)) ≡ true) (sym c.quoted.ensures) (sound-bid c.args.maker q (rows_of b) b.sound (good-quote c.args.maker q c.requires.good) c.requires.fresh (some-bid q.bid c.if-quote-gt0.true))

pub insert-requires-2 : goal.insert-requires-2
insert-requires-2 c =
    let b = c.args.self.now in
    let m = c.args.maker in
    let q = c.args.quote in
    let good = good-quote m q c.requires.good in
    let then : sound_table (placed (offer_row m q) (rows_of c.if-quote-gt0.self)) ≡ true = elim c.if-quote-gt0.branch [
      | then-quote-gt0 w ↦
          let is : rows_of c.if-quote-gt0.self ≡ placed (bid_row m q) (rows_of b) = ap rows_of w.self-is ∙ w.insert.ensures ∙ ap (λ (r : Row). placed r (rows_of b)) w.quoted.ensures in
          subst (λ (xs : List Row). sound_table (placed (offer_row m q) xs) ≡ true) (sym is) (sound-both m q (rows_of b) b.sound good c.requires.fresh (some-bid q.bid w.if-quote-gt0.true))
      | else-quote-gt0 w ↦ subst (λ (s : Book). sound_table (placed (offer_row m q) (rows_of s)) ≡ true) (sym w.self-is) (sound-offer m q (rows_of b) b.sound good c.requires.fresh)
    ] in
    subst (λ (r : Row). sound_table (placed r (rows_of c.if-quote-gt0.self)) ≡ true) (sym c.quoted-2.ensures) then

pub returns : goal.returns
returns c =
    let b = c.args.self.now in
    let m = c.args.maker in
    let q = c.args.quote in
    let low = (good-quote m q c.requires.good).low in
    let put : placed (offer_row m q) (rows_of c.if-quote-gt0.self) ≡ quoted m q (rows_of b) = elim c.if-quote-gt0.branch [
      | then-quote-gt0 w ↦
          let is : rows_of c.if-quote-gt0.self ≡ placed (bid_row m q) (rows_of b) = ap rows_of w.self-is ∙ w.insert.ensures ∙ ap (λ (r : Row). placed r (rows_of b)) w.quoted.ensures in
          ap (placed (offer_row m q)) is ∙ put_both m q (rows_of b) low c.requires.fresh (some-bid q.bid w.if-quote-gt0.true)
      | else-quote-gt0 w ↦ ap (λ (s : Book). placed (offer_row m q) (rows_of s)) w.self-is ∙ put-offer m q (rows_of b) low c.requires.fresh (no-bid q.bid w.if-quote-gt0.false)
    ] in
    c.insert-2.ensures ∙ ap (λ (r : Row). placed r (rows_of c.if-quote-gt0.self)) c.quoted-2.ensures ∙ put
