-- Subspaces of the field and their subspace polynomials, by a Cantor basis (D. G. Cantor, "On arithmetical algorithms
-- over finite fields", 1989). Subspace i has 2 ^ i points.
use Rattle.std.specs.Prelude.{ℕ, zero, suc, ◌*◌, bit_xor, List, [], ◌∷◌, slice_index, ◌≡◌, ◌<◌, ◌+◌, ◌^◌, ◌≤◌, ◌-◌, None, Option, Some}
use Rattle.par2_spec.specs.Prelude.{bit_at, Bor, mul, pow, field_sum}

-- a Cantor basis (Cantor 1989): the first element is 1, and each is the sum of the next one and its square
unfoldable pub basis : List ℕ
basis = 0x1 ∷ 0x15E ∷ 0x1A ∷ 0x1CF2 ∷ 0x169A ∷ 0xBBAC ∷ 0xFDE2 ∷ 0x468A ∷ 0x712 ∷ 0x1B76 ∷ 0xAD6C ∷ 0x4640 ∷ 0xA79E ∷ 0xF2B4 ∷ 0xF77A ∷ 0x7FE2 ∷ []

-- point u: the sum of the basis elements at the set bits of u
unfoldable pub point : ℕ → ℕ
unfolding basis field_sum
point u = field_sum 16 (λ i. bit_at u i * slice_index basis i)

-- for each bit of an element, the number of the point that has this bit alone
unfoldable pub bit_numbers : List ℕ
bit_numbers = 0x1 ∷ 0x1F70 ∷ 0x10C8 ∷ 0x7D8 ∷ 0x18AC ∷ 0x48DC ∷ 0x434 ∷ 0x141C ∷ 0x14FA ∷ 0x7E94 ∷ 0x6CB2 ∷ 0x35BC ∷ 0x62E ∷ 0xECD8 ∷ 0x1E12 ∷ 0xFED4 ∷ []

-- the number of a point, the inverse of `point`
unfoldable pub point_number : ℕ → ℕ
unfolding bit_numbers field_sum
point_number x = field_sum 16 (λ i. bit_at x i * slice_index bit_numbers i)

-- subspace polynomial i (Cantor 1989), whose roots are the points below 2 ^ i
unfoldable pub vanishing : ℕ → ℕ → ℕ
unfolding mul
vanishing zero x = x
vanishing (suc i) x = bit_xor (mul (vanishing i x) (vanishing i x)) (vanishing i x)

-- the powers of subspace polynomial i, a sum of some x ^ (2 ^ j): bit j says whether this one is in it
unfoldable pub powers_in : ℕ → ℕ
powers_in zero = 1
powers_in (suc i) = bit_xor (powers_in i * 2) (powers_in i)

-- the sum over coset q of subspace i of each point's weight times its power e
unfoldable pub power_sum : ℕ → ℕ → (ℕ → ℕ) → ℕ → ℕ
unfolding field_sum mul pow point
power_sum i q weight e = field_sum (2 ^ i) (λ u. mul (weight u) (pow (point (q * 2 ^ i + u)) e))

-- the sums of the first 2 ^ i powers of the points of a coset, the transpose of the additive FFT
abbrev pub ArePowerSums : ℕ → ℕ → (ℕ → ℕ) → (ℕ → ℕ) → Type 0
ArePowerSums i q weight sums = (e : ℕ) → e < 2 ^ i → sums e ≡ power_sum i q weight e

-- the sum of the values e + 2 ^ j, for the powers 2 ^ j below 2 ^ i of subspace polynomial i
abbrev pub sum_ahead : ℕ → (ℕ → ℕ) → ℕ → ℕ
sum_ahead i values e = field_sum i (λ j. bit_at (powers_in i) j * values (e + 2 ^ j))

-- the transpose's butterfly: merges two runs of 2 ^ i values. The subspace polynomial is c on the first coset
pub record IsMerged (i c : ℕ) (split merged : ℕ → ℕ) : Type 0 where
  pub low : (e : ℕ) → e < 2 ^ i → merged e ≡ bit_xor (split e) (split (2 ^ i + e))
  pub high : (e : ℕ) → e < 2 ^ i → merged (2 ^ i + e) ≡ bit_xor (split (2 ^ i + e)) (bit_xor (mul c (merged e)) (sum_ahead i merged e))

-- the value at x of the polynomial with these first n coefficients
abbrev pub value : ℕ → (ℕ → ℕ) → ℕ → ℕ
value n coefficients x = field_sum n (λ m. mul (coefficients m) (pow x m))

-- of 2 ^ k coefficients, those from number n on are 0
abbrev pub AreZeroFrom : ℕ → ℕ → (ℕ → ℕ) → Type 0
AreZeroFrom n k coefficients = (m : ℕ) → n ≤ m → m < 2 ^ k → coefficients m ≡ 0

-- the values, at the points of subspace k, of the polynomial with 2 ^ k coefficients, if those from number n on are 0
abbrev pub AreValues : ℕ → ℕ → (ℕ → ℕ) → (ℕ → ℕ) → Type 0
AreValues n k coefficients values = AreZeroFrom n k coefficients → (u : ℕ) → u < 2 ^ k → values u ≡ value (2 ^ k) coefficients (point u)

-- the values from place a on
abbrev pub from : ℕ → (ℕ → ℕ) → ℕ → ℕ
from a values e = values (a + e)

-- the value at x of a combination of products of subspace polynomials, those at the set bits of a coefficient's number
-- (S.-J. Lin, W.-H. Chung and Y. S. Han, "Novel polynomial basis and its application to Reed-Solomon erasure codes", 2014)
unfoldable pub combined : ℕ → (ℕ → ℕ) → ℕ → ℕ
unfolding mul
combined zero coefficients x = coefficients 0
combined (suc i) coefficients x = bit_xor (combined i coefficients x) (mul (vanishing i x) (combined i (from (2 ^ i) coefficients) x))

-- the butterfly: where the subspace polynomial is c, the lower half is the whole combination, and where c + 1 the upper
pub record IsSplit (i c : ℕ) (whole split : ℕ → ℕ) : Type 0 where
  pub divided : (x : ℕ) → x < 2 ^ 16 → combined (suc i) whole x
      ≡ bit_xor (combined i split x) (mul (bit_xor (vanishing i x) c) (bit_xor (combined i split x) (combined i (from (2 ^ i) split) x)))

-- a polynomial of degree below n, divided by the subspace polynomial: remainder in the lower half, quotient in the upper
pub record Halves (n i : ℕ) (whole halves : ℕ → ℕ) : Type 0 where
  pub divided : (x : ℕ) → x < 2 ^ 16 → value (2 ^ suc i) whole x
      ≡ bit_xor (value (2 ^ i) halves x) (mul (vanishing i x) (value (2 ^ i) (from (2 ^ i) halves) x))
  pub remainder : AreZeroFrom n i halves
  pub quotient : AreZeroFrom (n - 2 ^ i) i (from (2 ^ i) halves)

abbrev pub IsHalved : ℕ → ℕ → (ℕ → ℕ) → (ℕ → ℕ) → Type 0
IsHalved n i whole halves = AreZeroFrom n (suc i) whole → Halves n i whole halves

-- the combination is the polynomial with these 2 ^ i coefficients, if those from number n on are 0
abbrev pub IsCombination : ℕ → ℕ → (ℕ → ℕ) → (ℕ → ℕ) → Type 0
IsCombination n i coefficients combination = AreZeroFrom n i coefficients → (x : ℕ) → x < 2 ^ 16 → combined i combination x ≡ value (2 ^ i) coefficients x

-- n is in the list: the entry of each number up to n is at most n
abbrev pub IsListed : (ℕ → ℕ) → ℕ → Type 0
IsListed next n = (a : ℕ) → a ≤ n → next a ≤ n

-- the list of the wanted points, which has all points if none is given
abbrev pub listed_by : Option (Bor (List ℕ)) → ℕ → ℕ
listed_by None n = n
listed_by (Some list) n = slice_index list.now n

-- the values, at the listed points of a coset of subspace k, of the combination with these 2 ^ k coefficients
abbrev pub AreListedValues : (ℕ → ℕ) → ℕ → ℕ → (ℕ → ℕ) → (ℕ → ℕ) → Type 0
AreListedValues next k coset coefficients values =
    (u : ℕ) → u < 2 ^ k → IsListed next (coset * 2 ^ k + u) → values u ≡ combined k coefficients (point (coset * 2 ^ k + u))
