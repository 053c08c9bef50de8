-- Sums of products by the error locator of lost slices (W. W. Peterson, "Encoding and error-correction procedures for
-- the Bose-Chaudhuri codes", 1960; G. D. Forney, "On decoding BCH codes", 1965). `sequence` has the coefficients from
-- 1 on of a polynomial whose roots are the points. Its quotients are those on division by z minus one of them.
use Rattle.std.specs.Prelude.{ℕ, ◌≡◌, ◌<◌, ◌≤◌, ◌+◌, ◌*◌, ◌^◌, List, length, slice_index}
use Rattle.par2_spec.specs.Prelude.{mul, field_sum, GivesElements}
use Rattle.par2_transform.specs.Rows.{within, Grid, column}
use Rattle.par2_transform.specs.Chirps.{AreWeights, words_at}
use Rattle.par2_transform.specs.Polynomials.{combined, IsListed, value, from, point}

-- coefficient s of the quotient for point j, times the point's factor
abbrev pub quotient_coefficient : (sequence points factors : List ℕ) → ℕ → ℕ → ℕ
quotient_coefficient sequence points factors j s =
    mul (slice_index factors j) (value (length sequence) (from s (slice_index sequence)) (slice_index points j))

-- the sum of the words, each times its coefficient of the quotient
abbrev pub quotient_sum : (sequence points factors : List ℕ) → (ℕ → ℕ) → ℕ → ℕ
quotient_sum sequence points factors words j = field_sum (length sequence) (λ s. mul (quotient_coefficient sequence points factors j s) (words s))

-- coefficient t of the numerator, the error evaluator (Forney 1965), if the words are syndromes
abbrev pub numerator : List ℕ → (ℕ → ℕ) → ℕ → ℕ
numerator sequence words t = field_sum (length sequence) (λ s. mul (slice_index sequence (s + t)) (words s))

-- the sequence has the power sums of the weights over subspace k
pub record IsWeighed (k : ℕ) (sequence weights : List ℕ) : Type 0 where
  pub count : length weights ≡ 2 ^ k
  pub fit : GivesElements (slice_index weights)
  pub are : AreWeights k (slice_index sequence) 0 (slice_index weights)

-- `numbers` has the number of each point, and `next` lists these numbers
pub record AreNumbered (points numbers next : List ℕ) : Type 0 where
  pub count : length numbers ≡ length points
  pub small : (j : ℕ) → slice_index numbers j < 65536
  pub places : length next ≡ 65536
  pub points_are : (j : ℕ) → j < length points → point (slice_index numbers j) ≡ slice_index points j
  pub listed : (j : ℕ) → j < length points → IsListed (slice_index next) (slice_index numbers j)

-- word c of row u has become `given c u` in the first n rows, and 0 in the others
pub record HaveFirst (n : ℕ) (given : ℕ → ℕ → ℕ) (old new : Grid) : Type 0 where
  pub levels : new.levels ≡ old.levels
  pub words : new.words ≡ old.words
  pub first : (c u : ℕ) → c < old.words → u < n → column new c u ≡ given c u
  pub none : (c u : ℕ) → n ≤ u → column new c u ≡ 0

-- the first n rows are the numerators over the sources' words from `at` on
pub record AreNumerators (n : ℕ) (sequence : List ℕ) (sources : List (List ℕ)) (at : ℕ) (old new : Grid) : Type 0 where
  pub levels : new.levels ≡ old.levels
  pub words : new.words ≡ old.words
  pub each : (c t : ℕ) → c < old.words → t < n → column new c t ≡ numerator sequence (words_at sources (at + c)) t

-- the combinations are the numerators over the sources' words from `at` on
abbrev pub HoldNumerators : ℕ → List ℕ → List (List ℕ) → ℕ → Grid → Type 0
HoldNumerators k sequence sources at combinations =
    (c x : ℕ) → c < combinations.words → x < 2 ^ 16 → combined k (column combinations c) x ≡ value (length sequence) (numerator sequence (words_at sources (at + c))) x

-- x if point j is in the coset, and 0 otherwise
abbrev pub in_coset : List ℕ → ℕ → ℕ → ℕ → ℕ → ℕ
in_coset numbers k coset j x = within (coset * 2 ^ k) (coset * 2 ^ k + 2 ^ k) (slice_index numbers j) x
