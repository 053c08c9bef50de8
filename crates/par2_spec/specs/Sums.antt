-- Sums in the field, and lists of lists by position. Elimination and products of slices share them.
use Rattle.std.specs.Prelude.{ℕ, zero, suc, ◌^◌, ◌<◌, ◌≡◌, ◌≢◌, bit_xor, List, [], length, map, slice_index_or, Vec}
use Rattle.std.specs.declared.alloc.Global.{Global}
use Rattle.par2_spec.specs.Field.{mul}
use Rattle.par2_spec.specs.Slices.{word}

-- the sum of f 0 to f (n - 1) in the field
unfoldable pub field_sum : ℕ → (ℕ → ℕ) → ℕ
field_sum zero f = 0
field_sum (suc n) f = bit_xor (field_sum n f) (f n)

-- the dot product of a row's first n words and the values of f
abbrev pub row_sum : ℕ → List ℕ → (ℕ → ℕ) → ℕ
row_sum n row f = field_sum n (λ i. mul (word i row) (f i))

-- every value of f is an element of the field
abbrev pub GivesElements : (ℕ → ℕ) → Type 0
GivesElements f = (i : ℕ) → f i < 2 ^ 16

-- list i of a list of lists, or the empty one
abbrev pub list_at : List (List ℕ) → ℕ → List ℕ
list_at lists i = slice_index_or lists i []

-- the lists of a vector of vectors
abbrev pub lists_of : {A : Type 0} → List (Vec A Global) → List (List A)
lists_of vs = map (λ v. v.items) vs

-- at most list p was changed
pub record OneChanged (old new : List (List ℕ)) (p : ℕ) : Type 0 where
  pub count : length new ≡ length old
  pub others : (i : ℕ) → i ≢ p → list_at new i ≡ list_at old i
