-- Chirps: a power of 2 whose exponent is a product, as a product of powers that depend on one number each (L. I.
-- Bluestein, "A linear filtering approach to the computation of the discrete Fourier transform", 1970).
use Rattle.std.specs.Prelude.{ℕ, zero, suc, ◌≡◌, ◌<◌, ◌≤◌, ◌+◌, ◌*◌, ◌^◌, if◌then◌else◌, List, length, slice_index, map}
use Rattle.par2_spec.specs.Prelude.{Bor, mul, pow, is_coprime, coefficient, field_sum, GivesElements, list_at, word}
use Rattle.par2_transform.specs.Polynomials.{point, value}

-- the sum of the numbers below n, a triangular number
unfoldable pub triangle : ℕ → ℕ
triangle zero = 0
triangle (suc n) = triangle n + n

-- chirp m of step d (Bluestein 1970)
unfoldable pub chirp : ℕ → ℕ → ℕ
unfolding triangle pow
chirp d m = pow 2 (d * triangle m)

-- the multiplicative inverse of chirp m of step d
unfoldable pub chirp_inverse : ℕ → ℕ → ℕ
unfolding chirp pow
chirp_inverse d m = pow (chirp d m) 65534

-- the list has the first n values of f
pub record Tabulates (f : ℕ → ℕ) (n : ℕ) (values : List ℕ) : Type 0 where
  pub count : length values ≡ n
  pub each : (m : ℕ) → m < n → slice_index values m ≡ f m

-- how many numbers below n are coprime to 65,535, and so exponents of slices' constants
unfoldable pub coprimes_below : ℕ → ℕ
coprimes_below zero = 0
coprimes_below (suc n) = if is_coprime n then suc (coprimes_below n) else coprimes_below n

-- the word of the slice whose constant is 2 ^ n, or 0 if there is none
unfoldable pub word_at_power : (ℕ → ℕ) → ℕ → ℕ
unfolding coprimes_below
word_at_power words n = if is_coprime n then words (coprimes_below n) else 0

-- the weights have the values of the sequence from b on as power sums over subspace k
abbrev pub AreWeights : ℕ → (ℕ → ℕ) → ℕ → (ℕ → ℕ) → Type 0
AreWeights k sequence b weights =
    (e : ℕ) → e < 2 ^ k → sequence (b + e) ≡ field_sum (2 ^ k) (λ u. mul (weights u) (pow (point u) e))

-- the words of n slices, 0 past the last one
pub record AreWordsOfFirst (n : ℕ) (words : ℕ → ℕ) : Type 0 where
  pub few : n ≤ 32768
  pub none : (i : ℕ) → n ≤ i → words i ≡ 0
  pub fit : GivesElements words

-- how a sum is cut: residue classes of the constants' exponents, windows of numbers in each, and 2 ^ `levels` points
pub record Cut : Type 0 where
  pub classes : ℕ
  pub windows : ℕ
  pub window : ℕ
  pub levels : ℕ

-- the cut covers the exponents of the constants of n slices
abbrev pub Reaches : ℕ → Cut → Type 0
Reaches n cut = n ≤ coprimes_below (cut.classes * (cut.windows * cut.window))

-- number m of class r as a coefficient: the word of its slice, divided by chirp m
abbrev pub coefficient_of : Cut → (ℕ → ℕ) → ℕ → ℕ → ℕ
coefficient_of cut words r m = mul (chirp_inverse cut.classes m) (word_at_power words (cut.classes * m + r))

-- the value of window a of class r at point u
abbrev pub window_value : Cut → (ℕ → ℕ) → ℕ → ℕ → ℕ → ℕ
window_value cut words r a u = value cut.window (λ m. coefficient_of cut words r (a * cut.window + m)) (point u)

-- the sum of the values of all windows of class r at point u, each times its weight
abbrev pub gathered : Cut → (ℕ → ℕ → ℕ) → (ℕ → ℕ) → ℕ → ℕ → ℕ
gathered cut weights words r u = field_sum cut.windows (λ a. mul (weights a u) (window_value cut words r a u))

-- the power sums of each window's weights are the chirps from the window's first number plus e on
pub record HasWeights (cut : Cut) (e : ℕ) (weights : ℕ → ℕ → ℕ) : Type 0 where
  pub fit : (a : ℕ) → GivesElements (weights a)
  pub are : (a : ℕ) → a < cut.windows → AreWeights cut.levels (chirp cut.classes) (a * cut.window + e) (weights a)

-- the part of class r in a word of the recovery slice of exponent e + t: power sum t of the gathered sums, times a factor
abbrev pub from_gathered : Cut → (ℕ → ℕ) → ℕ → ℕ → ℕ → ℕ
from_gathered cut sums e t r =
    mul (mul (pow 2 ((e + t) * r)) (chirp_inverse cut.classes (e + t))) (field_sum (2 ^ cut.levels) (λ u. mul (sums u) (pow (point u) t)))

-- the bytes of each buffer
abbrev pub byte_lists : List (Bor (List ℕ)) → List (List ℕ)
byte_lists buffers = map (λ bytes. bytes.now) buffers

-- all entries of all lists are bytes
abbrev pub AreByteLists : List (List ℕ) → Type 0
AreByteLists lists = (i k : ℕ) → slice_index (list_at lists i) k < 2 ^ 8

-- word p of each buffer
abbrev pub words_at : List (List ℕ) → ℕ → ℕ → ℕ
words_at buffers p i = word p (list_at buffers i)

-- word c of row m: coefficient m of window a of class r
abbrev pub coefficients_from : Cut → List (List ℕ) → ℕ → ℕ → ℕ → ℕ → ℕ → ℕ
coefficients_from cut slices r a from c m = coefficient_of cut (words_at slices (from + c)) r (a * cut.window + m)

-- for each exponent, the number of the slice whose constant has it, and 65,535 if none has; up to the last of n slices
pub record AreNumbers (n : ℕ) (numbers : List ℕ) : Type 0 where
  pub few : length numbers ≤ 65536
  pub reach : n ≤ coprimes_below (length numbers)
  pub each : (m : ℕ) → m < length numbers → slice_index numbers m ≡ (if is_coprime m then coprimes_below m else 65535)

-- word p of the recovery slice of exponent e over the slices
abbrev pub recovered : List (List ℕ) → ℕ → ℕ → ℕ
recovered slices e p = field_sum (length slices) (λ i. mul (coefficient e i) (words_at slices p i))
