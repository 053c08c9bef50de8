-- Polynomials over the field, as lists of coefficients, the constant one first. In characteristic 2 a difference is a
-- sum, so `z - c` is `z + c`.
use Rattle.std.specs.Prelude.{ℕ, ◌<◌, ◌^◌, bit_xor, nat_eq, List, [], ◌∷◌, map}
use Rattle.std.specs.List.{AllByRecursion, IsDistinct}
use Rattle.par2_spec.specs.Field.{mul}

-- the value at z, by Horner's rule
unfoldable pub value : List ℕ → ℕ → ℕ
unfolding mul
value [] z = 0
value (c ∷ p) z = bit_xor c (mul z (value p z))

-- the sum of two polynomials
unfoldable pub plus : List ℕ → List ℕ → List ℕ
plus [] q = q
plus (a ∷ p) [] = a ∷ p
plus (a ∷ p) (b ∷ q) = bit_xor a b ∷ plus p q

-- a polynomial times the element k
abbrev pub times : ℕ → List ℕ → List ℕ
times k p = map (mul k) p

-- the product with the linear factor z - c: c times the polynomial, plus z times it
abbrev pub times_root : ℕ → List ℕ → List ℕ
times_root c p = plus (times c p) (0 ∷ p)

-- the product of z - c over these points: the error locator, if the points are the constants of the lost slices
-- (Peterson 1960)
unfoldable pub with_roots : List ℕ → List ℕ
unfolding plus
with_roots [] = 1 ∷ []
with_roots (c ∷ points) = times_root c (with_roots points)

-- the quotient on division by z - c, by synthetic division (Horner's scheme): each coefficient is the value at c of the
-- polynomial of the coefficients after it. The remainder is the value at c
unfoldable pub quotient : ℕ → List ℕ → List ℕ
unfolding value
quotient c [] = []
quotient c (a ∷ []) = []
quotient c (a ∷ b ∷ p) = value (b ∷ p) c ∷ quotient c (b ∷ p)

-- all coefficients are elements of the field
abbrev pub AreElements : List ℕ → Type 0
AreElements p = AllByRecursion (λ c. c < 2 ^ 16) p

-- distinct elements of the field
pub record ArePoints (points : List ℕ) : Type 0 where
  pub elements : AreElements points
  pub distinct : IsDistinct nat_eq points
