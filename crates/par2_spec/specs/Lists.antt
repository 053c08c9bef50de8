-- All lists of a given length over given values.
use Rattle.std.specs.Prelude.{ℕ, zero, suc, ◌^◌, List, [], ◌∷◌, map, flat_map}
use Rattle.std.specs.List.{range_with_len}

-- all lists of n of these values
unfoldable pub all_lists : {A : Type 0} → List A → ℕ → List (List A)
all_lists values zero = [] ∷ []
all_lists values (suc n) = flat_map (λ rest. map (λ x. x ∷ rest) values) (all_lists values n)

-- the numbers below n
unfoldable pub all_below : ℕ → List ℕ
all_below n = range_with_len 0 n

-- all vectors of n elements of the field
abbrev pub vectors : ℕ → List (List ℕ)
vectors n = all_lists (all_below (2 ^ 16)) n

-- all buffers of n bytes
abbrev pub all_buffers : ℕ → List (List ℕ)
all_buffers n = all_lists (all_below (2 ^ 8)) n
