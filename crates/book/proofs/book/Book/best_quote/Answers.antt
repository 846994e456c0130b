use Rattle.std.proofs.Common.{◌≡◌, sym, subst, rules, tests}
use Rattle.std.proofs.lemmas.Iterator.{YieldsList-from_slice}
use Rattle.std.proofs.lemmas.Iterator.Consumers.{YieldsList-at, YieldsList-from_filter_map}
use Rattle.book.specs.Books.{rows_of}
use Rattle.book.specs.Reads.{better, quote_price, best_quote, BestQuote}
use Rattle.book.proofs.ReadFacts.{best-tells}
use Rattle.book.proofs.Reduces.{reduced_from_yields_List}
use Rattle.book.proofs.book.Book.best_quote.Goals as goal

pub returns : goal.returns
returns c =
    let side = c.args.side in
    let rows = rows_of c.args.self.now in
    let is : c.reduce.result ≡ best_quote side rows =
    reduced_from_yields_List _ (better side) _ _ c.reduce.ensures.ran
    (YieldsList-from_filter_map _ (quote_price side) (YieldsList-at c.filter_map.ensures.source (YieldsList-from_slice rows cc)) c.filter_map.ensures.closure (λ x r q k. search (rules, tests)))
    (λ a x b q k. search (rules, tests)) in
    record { equation = is; best = subst (BestQuote side rows) (sym is) (best-tells side rows c.args.self.now.sound) }
