-- The laws of sharing by size.
use Rattle.std.specs.Prelude.{◌≡◌, ℕ, ◌-◌, ◌<◌, ◌≤◌, min, Bool, true, List, [], length, slice_index}
use Rattle.std.proofs.Common.{ap, ◌∙◌, inl, inr, arith}
use Rattle.std.proofs.lemmas.List.{length-map, get_or_past}
use Rattle.std.proofs.lemmas.Bool.{cases_lt, and_parts, ltb-true}
use Rattle.sharing.specs.declared.level.Holding.{Holding}
use Rattle.sharing.specs.Totals.{total, contracts, EachAtMost, padded}
use Rattle.sharing.specs.Sizes.{of_customer, of_other, size_where, sizes_where}
use Rattle.sharing.specs.InOrder.{in_order}
use Rattle.sharing.specs.ProRata.{part, pro_rata, after_customers, size_shares}
use Rattle.sharing.specs.Promises.{customer_at, other_at, others_total, to_others, part_at, served_before, customer_before, shares_where, SharedBySize}
use Rattle.sharing.specs.InOrders.{order-length, order-within, order-whole, order-full}
use Rattle.sharing.specs.PartFacts.{part-le, part-mono, part-covers, part-least, parts-cover}
use Rattle.sharing.specs.Claims.{at-le-total}
use Rattle.sharing.specs.RankTotals.{rank-whole, rank-length, rank-within}
use Rattle.sharing.specs.RankPlaces.{rank-part, rank_left, rank-larger, rank-earlier}
use Rattle.sharing.specs.Choosings.{sizes-whole, chosen-length, chosen-within, chosen-whole, chosen-other, chosen-customer, where-others, where-customers}
use Rattle.sharing.specs.Turns.{order-turn, rank-turn, where-padded, before-earlier, before-later, before-sized, customer-earlier, customer-later}
use Rattle.sharing.specs.Pads.{pad-at}

pub rata-length : (q : ℕ) (ns : List ℕ) → length (pro_rata q ns) ≡ length ns
rata-length q ns = rank-length _ _ [] ns

pub rata-within : (q : ℕ) (ns : List ℕ) → EachAtMost (pro_rata q ns) ns
rata-within q ns = rank-within _ _ (λ n. part-le (min q (total ns)) (total ns) n (omega arith)) [] ns

pub rata-whole : (q : ℕ) (ns : List ℕ) → total (pro_rata q ns) ≡ min q (total ns)
rata-whole q ns =
    let given = min q (total ns) in
    omega (arith, rank-whole (part given (total ns)) given ns, parts-cover given ns (omega arith))

module _ (q : ℕ) (rows : List Holding) where
  pub long-customers : length (in_order q (sizes_where of_customer rows)) ≡ length rows
  long-customers = order-length q (sizes_where of_customer rows) ∙ length-map rows (size_where of_customer)

  pub long-others : length (pro_rata (after_customers q rows) (sizes_where of_other rows)) ≡ length rows
  long-others = rata-length (after_customers q rows) (sizes_where of_other rows) ∙ length-map rows (size_where of_other)

  pub size-length : length (size_shares q rows) ≡ length rows
  size-length = chosen-length rows (in_order q (sizes_where of_customer rows)) (pro_rata (after_customers q rows) (sizes_where of_other rows)) long-customers long-others

  pub size-within : EachAtMost (size_shares q rows) (contracts rows)
  size-within = chosen-within rows (in_order q (sizes_where of_customer rows)) (pro_rata (after_customers q rows) (sizes_where of_other rows)) (order-within q (sizes_where of_customer rows)) (rata-within (after_customers q rows) (sizes_where of_other rows))

  pub size-whole : total (size_shares q rows) ≡ min q (total (contracts rows))
  size-whole =
      let both = chosen-whole rows (in_order q (sizes_where of_customer rows)) (pro_rata (after_customers q rows) (sizes_where of_other rows)) long-customers long-others (order-within q (sizes_where of_customer rows)) (rata-within (after_customers q rows) (sizes_where of_other rows)) in
      omega (arith, both, order-whole q (sizes_where of_customer rows), rata-whole (after_customers q rows) (sizes_where of_other rows), sizes-whole rows)

  other-is : (i : ℕ) → 0 < other_at rows i → slice_index (size_shares q rows) i ≡ slice_index (pro_rata (after_customers q rows) (sizes_where of_other rows)) i
  other-is i lt = chosen-other rows (in_order q (sizes_where of_customer rows)) (pro_rata (after_customers q rows) (sizes_where of_other rows)) i long-customers long-others lt

  customer-is : (i : ℕ) → 0 < customer_at rows i → slice_index (size_shares q rows) i ≡ slice_index (in_order q (sizes_where of_customer rows)) i
  customer-is i lt = chosen-customer rows (in_order q (sizes_where of_customer rows)) (pro_rata (after_customers q rows) (sizes_where of_other rows)) i long-customers long-others lt

  there : (i : ℕ) → 0 < other_at rows i → i < length (sizes_where of_other rows)
  there i lt = elim (cases_lt i (length (sizes_where of_other rows))) [
    | inl less ↦ less
    | inr past ↦ absurd (omega (arith, get_or_past (sizes_where of_other rows) i 0 past))
  ]

  -- what the rows that pass a test get, where only customers or only others pass it
  where-is-customers : (t : ℕ → Bool) → ((j : ℕ) → t j ≡ true → 0 < customer_at rows j) → shares_where t (size_shares q rows) ≡ shares_where t (in_order q (sizes_where of_customer rows))
  where-is-customers t h = where-customers t rows (in_order q (sizes_where of_customer rows)) (pro_rata (after_customers q rows) (sizes_where of_other rows)) long-customers long-others h

  where-is-others : (t : ℕ → Bool) → ((j : ℕ) → t j ≡ true → 0 < other_at rows j) → shares_where t (size_shares q rows) ≡ shares_where t (pro_rata (after_customers q rows) (sizes_where of_other rows))
  where-is-others t h = where-others t rows (in_order q (sizes_where of_customer rows)) (pro_rata (after_customers q rows) (sizes_where of_other rows)) long-customers long-others h

  customers-turn : (i : ℕ) → 0 < customer_at rows i → slice_index (size_shares q rows) i ≡ min (customer_at rows i) (q - shares_where (customer_before rows i) (size_shares q rows))
  customers-turn i customer =
      let turn = order-turn q (sizes_where of_customer rows) (customer_before rows i) i (λ j lt. customer-earlier (customer_at rows j) j i lt) (λ j le. customer-later (customer_at rows j) j i le) in
      omega (arith, customer-is i customer, turn, where-is-customers (customer_before rows i) (λ j e. ltb-true 0 (customer_at rows j) (and_parts _ _ e).0))

  others-turn : (i : ℕ) → 0 < other_at rows i → slice_index (size_shares q rows) i ≡ min (part_at q rows i) (to_others q rows - shares_where (served_before rows i) (size_shares q rows))
  others-turn i other =
      let given = to_others q rows in
      let turn = rank-turn (part given (others_total rows)) given (sizes_where of_other rows) (served_before rows i) i (there i other) (λ j lt. before-earlier (other_at rows j) (other_at rows i) j i lt) (λ j le. before-later (other_at rows j) (other_at rows i) j i le) in
      omega (arith, other-is i other, turn, where-is-others (served_before rows i) (λ j e. before-sized (other_at rows j) (other_at rows i) j i other e))

  some-others : (i : ℕ) → 0 < other_at rows i → 0 < others_total rows
  some-others i other = omega (arith, at-le-total (sizes_where of_other rows) i)

  pub shared-by-size : SharedBySize q rows (size_shares q rows)
  shared-by-size =
      let given = to_others q rows in
      let whole = others_total rows in
      record {
        customers_in_turn = customers-turn;
        others_in_turn = others-turn;
        parts_round_up = λ i other. record { enough = part-covers given whole (other_at rows i) (some-others i other); least = λ m le. part-least given whole (other_at rows i) m (some-others i other) le };
        customers_first = λ i j customer other share.
            let some : total (sizes_where of_customer rows) ≤ q = omega (arith, other-is j other, rank_left (part given whole) given [] (sizes_where of_other rows) j) in
            customer-is i customer ∙ ap (λ (w : List ℕ). slice_index w i) (order-full q (sizes_where of_customer rows) some);
        at_most_part = λ i other. omega (arith, other-is i other, rank-part (part given whole) given [] (sizes_where of_other rows) i);
        larger_first = λ i j other less.
            let more = rank-larger (part given whole) given (λ m n le. part-mono given whole m n le) (sizes_where of_other rows) i j (there i (omega arith)) less in
            omega (arith, other-is j other, other-is i (omega arith), more);
        earlier_first = λ i j before other e.
            let more = rank-earlier (part given whole) given [] (sizes_where of_other rows) i j before (there j other) e in
            omega (arith, other-is j other, other-is i (omega arith), more);
      }

  pub padded-by-size : SharedBySize q rows (padded (size_shares q rows))
  padded-by-size =
      let shares = size_shares q rows in
      let k = shared-by-size in
      record {
        customers_in_turn = λ i customer. omega (arith, pad-at shares i, k.customers_in_turn i customer, where-padded (customer_before rows i) shares);
        others_in_turn = λ i other. omega (arith, pad-at shares i, k.others_in_turn i other, where-padded (served_before rows i) shares);
        parts_round_up = k.parts_round_up;
        customers_first = λ i j customer other share. pad-at shares i ∙ k.customers_first i j customer other (omega (arith, pad-at shares j));
        at_most_part = λ i other. omega (arith, pad-at shares i, k.at_most_part i other);
        larger_first = λ i j other less. omega (arith, pad-at shares i, pad-at shares j, k.larger_first i j other less);
        earlier_first = λ i j before other e. omega (arith, pad-at shares i, pad-at shares j, k.earlier_first i j before other e);
      }
