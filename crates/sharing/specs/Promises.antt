-- What sharing by size comes to, row by row.
use Rattle.std.specs.Prelude.{◌≡◌, ℕ, suc, ◌+◌, ◌-◌, ◌*◌, ◌<◌, ◌≤◌, min, Bool, cond, ◌&&◌, ◌||◌, List, [], ◌∷◌, ◌==◌, nat_lt, slice_index}
use Rattle.sharing.specs.declared.level.Holding.{Holding}
use Rattle.sharing.specs.Totals.{total}
use Rattle.sharing.specs.Sizes.{of_customer, of_other, sizes_where}
use Rattle.sharing.specs.ProRata.{part, after_customers}

-- the size of the row at a place if it is a customer's, or another's: else 0
abbrev pub customer_at : List Holding → ℕ → ℕ
customer_at rows i = slice_index (sizes_where of_customer rows) i

abbrev pub other_at : List Holding → ℕ → ℕ
other_at rows i = slice_index (sizes_where of_other rows) i

-- the contracts of the others, and how many contracts go to them
abbrev pub others_total : List Holding → ℕ
others_total rows = total (sizes_where of_other rows)

abbrev pub to_others : ℕ → List Holding → ℕ
to_others q rows = min (after_customers q rows) (others_total rows)

-- another's part: its size × what goes to the others / the others' contracts, rounded up
abbrev pub part_at : ℕ → List Holding → ℕ → ℕ
part_at q rows i = part (to_others q rows) (others_total rows) (other_at rows i)

-- of the others, j is served before i: it is larger, or as large and earlier
abbrev pub served_before : List Holding → ℕ → ℕ → Bool
served_before rows i j = nat_lt (other_at rows i) (other_at rows j) || (other_at rows j == other_at rows i && nat_lt j i)

-- of the customers, j is served before i: it is earlier
abbrev pub customer_before : List Holding → ℕ → ℕ → Bool
customer_before rows i j = nat_lt 0 (customer_at rows j) && nat_lt j i

-- what the rows that pass a test get together
abbrev pub shares_where : (ℕ → Bool) → List ℕ → ℕ
shares_where test [] = 0
shares_where test (x ∷ xs) = cond (test 0) x 0 + shares_where (λ j. test (suc j)) xs

-- n contracts are the least that is not below size × quantity / whole
pub record RoundedUp (quantity whole size n : ℕ) : Type 0 where
  pub enough : size * quantity ≤ n * whole
  pub least : (m : ℕ) → size * quantity ≤ m * whole → n ≤ m

pub record SharedBySize (q : ℕ) (rows : List Holding) (shares : List ℕ) : Type 0 where
  -- a customer gets its size, or what remains after the customers before it
  pub customers_in_turn : (i : ℕ) → 0 < customer_at rows i → slice_index shares i ≡ min (customer_at rows i) (q - shares_where (customer_before rows i) shares)
  -- another gets its part, or what remains after the others served before it
  pub others_in_turn : (i : ℕ) → 0 < other_at rows i → slice_index shares i ≡ min (part_at q rows i) (to_others q rows - shares_where (served_before rows i) shares)
  -- the part is the quotient rounded up
  pub parts_round_up : (i : ℕ) → 0 < other_at rows i → RoundedUp (to_others q rows) (others_total rows) (other_at rows i) (part_at q rows i)
  -- where another gets a contract, every customer is filled
  pub customers_first : (i j : ℕ) → 0 < customer_at rows i → 0 < other_at rows j → 0 < slice_index shares j → slice_index shares i ≡ customer_at rows i
  -- another gets at most its part
  pub at_most_part : (i : ℕ) → 0 < other_at rows i → slice_index shares i ≤ part_at q rows i
  -- the larger of two others gets no less
  pub larger_first : (i j : ℕ) → 0 < other_at rows j → other_at rows j < other_at rows i → slice_index shares j ≤ slice_index shares i
  -- and the earlier of two equal ones
  pub earlier_first : (i j : ℕ) → i < j → 0 < other_at rows j → other_at rows j ≡ other_at rows i → slice_index shares j ≤ slice_index shares i
