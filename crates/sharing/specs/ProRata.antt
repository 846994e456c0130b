-- Sharing by size.
use Rattle.std.specs.Prelude.{ℕ, suc, ◌+◌, ◌-◌, ◌*◌, ◌/◌, ◌%◌, min, cond, List, [], ◌∷◌, ◌++◌, nat_le}
use Rattle.sharing.specs.declared.level.Holding.{Holding}
use Rattle.sharing.specs.Totals.{total}
use Rattle.sharing.specs.Sizes.{of_customer, of_other, sizes_where}
use Rattle.sharing.specs.InOrder.{in_order}

-- size × quantity / whole, rounded up: one more where something is left over
abbrev pub part : ℕ → ℕ → ℕ → ℕ
part quantity whole size = (size * quantity) / whole + min 1 ((size * quantity) % whole)

-- the parts of the sizes that are `from` or larger
abbrev pub claimed : (ℕ → ℕ) → ℕ → List ℕ → ℕ
claimed p from [] = 0
claimed p from (n ∷ ns) = cond (nat_le from n) (p n) 0 + claimed p from ns

-- The largest first, the earlier among equals: each gets its part, or what is left of the quantity once those before it
-- have theirs. Before a size n come the earlier ones that are as large and the later ones that are larger.
abbrev pub by_rank : (ℕ → ℕ) → ℕ → List ℕ → List ℕ → List ℕ
by_rank p q earlier [] = []
by_rank p q earlier (n ∷ later) = min (p n) (q - (claimed p n earlier + claimed p (suc n) later)) ∷ by_rank p q (earlier ++ n ∷ []) later

-- a quantity, or the whole if that is less, in proportion to the sizes
abbrev pub pro_rata : ℕ → List ℕ → List ℕ
pro_rata quantity sizes = by_rank (part (min quantity (total sizes)) (total sizes)) (min quantity (total sizes)) [] sizes

-- a customer's share from the first list, another's from the second
abbrev pub chosen : List Holding → List ℕ → List ℕ → List ℕ
chosen [] cs os = []
chosen (h ∷ rows) [] os = []
chosen (h ∷ rows) (c ∷ cs) [] = []
chosen (h ∷ rows) (c ∷ cs) (o ∷ os) = cond (of_customer h.class) c o ∷ chosen rows cs os

-- what is left of a quantity after the customers
abbrev pub after_customers : ℕ → List Holding → ℕ
after_customers q rows = q - total (sizes_where of_customer rows)

-- the customers in order, and what is left in proportion to the sizes of the others
abbrev pub size_shares : ℕ → List Holding → List ℕ
size_shares q rows = chosen rows (in_order q (sizes_where of_customer rows)) (pro_rata (after_customers q rows) (sizes_where of_other rows))
