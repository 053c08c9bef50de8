-- Exponents that are close together, and runs of consecutive exponents. They give the rank without elimination, because
-- the rows of consecutive exponents are a Vandermonde matrix with scaled columns.
use Rattle.std.specs.Prelude.{ℕ, ◌+◌, ◌<◌, List}
use Rattle.std.specs.List.{AllByRecursion, Contains}
use Rattle.std.specs.List.Sorted.{IsStrictlyIncreasing}
use Rattle.par2_spec.specs.Field.{max_slices}

-- increasing numbers of input slices, all of which have a constant
pub record AreSlices (numbers : List ℕ) : Type 0 where
  pub rise : IsStrictlyIncreasing numbers
  pub below : AllByRecursion (λ k. k < max_slices) numbers

-- any two of the exponents differ by less than n
abbrev pub AreClose : ℕ → List ℕ → Type 0
AreClose n exponents = (e f : ℕ) → Contains exponents e → Contains exponents f → f < e + n

-- the n exponents from f on are among these
abbrev pub HasRun : ℕ → ℕ → List ℕ → Type 0
HasRun f n exponents = (i : ℕ) → i < n → Contains exponents (f + i)
