-- The law over whole runs, at this auction.
use Rattle.std.proofs.Common.{ap, arith}
use Rattle.book.specs.declared.row.Totals.{Totals}
use Rattle.runs.proofs.Law.{law, shut}
use Rattle.auction.specs.Auctions.{view, terms_of}
use Rattle.auction.proofs.auction.Auction.totals.Goals as goal

pub returns : goal.returns
returns g c =
    let a = c.args.self.now in
    let terms = terms_of g.L.Ladder.permitted g.R.SharingRule.shares a in
    let within = g.met.L.Ladder.within a.ladder in
    let is = c.totals.ensures.equation in
    record {
      equation = is;
      law = λ h run. law {terms = terms} {h = h} {s = view a} within run;
      shut = shut terms (view a);
      balance = λ h run. omega (
        arith,
        (law {terms = terms} {h = h} {s = view a} within run).balance c.args.side,
        ap (λ (t : Totals). t.traded) is,
        ap (λ (t : Totals). t.routed) is,
        ap (λ (t : Totals). t.cancelled) is,
        ap (λ (t : Totals). t.left) is,
      );
    }
