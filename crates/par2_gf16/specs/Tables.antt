-- The tables of the field, inverses, and what is added to the words of a buffer.
use Rattle.std.specs.Prelude.{ℕ, ◌+◌, ◌<◌, ◌≡◌, List, length, slice_index, map, filter, ◌*◌, ◌^◌, bit_xor}
use Rattle.par2_spec.specs.Prelude.{range_with_len, pow, is_coprime, constant_powers, mul, word}

-- the powers of 2 from 2 ^ 0 on
pub record PowersBelow (powers : List ℕ) (n : ℕ) : Type 0 where
  pub count : length powers ≡ n
  pub each : (i : ℕ) → i < n → slice_index powers i ≡ pow 2 i

-- the entry at each power of 2 below 2 ^ n is its exponent, the logarithm
pub record LogsBelow (logs : List ℕ) (n : ℕ) : Type 0 where
  pub count : length logs ≡ 65536
  pub each : (i : ℕ) → i < n → slice_index logs (pow 2 i) ≡ i

-- the powers of 2 whose exponents are below n and coprime to 65,535, as those of slice constants are (PAR2 2.0)
unfoldable pub constants_below : ℕ → List ℕ
constants_below n = map (pow 2) (filter is_coprime (range_with_len 0 n))

-- the powers are there twice, so that the sum of two logarithms needs no remainder
pub record AreTables (logs powers constants : List ℕ) : Type 0 where
  pub logs_are : LogsBelow logs 65535
  pub powers_are : PowersBelow powers 131070
  pub constants_are : constants ≡ map (pow 2) constant_powers

-- the powers below 2 ^ i are in the tables
pub record FirstRound (logs powers constants : List ℕ) (x i : ℕ) : Type 0 where
  pub logs_are : LogsBelow logs i
  pub powers_are : PowersBelow powers i
  pub constants_are : constants ≡ constants_below i
  pub next : x ≡ pow 2 i

-- j powers of the second round are in the table
pub record SecondRound (powers : List ℕ) (x j : ℕ) : Type 0 where
  pub powers_are : PowersBelow powers (65535 + j)
  pub next : x ≡ pow 2 (65535 + j)

-- b is the one element whose product with a is 1
pub record IsInverse (a b : ℕ) : Type 0 where
  pub is_one : mul a b ≡ 1
  pub only : (c : ℕ) → c < 2 ^ 16 → mul a c ≡ 1 → c ≡ b

-- to each word p, `other p` is added
pub record AddsTo (other : ℕ → ℕ) (old new : List ℕ) : Type 0 where
  pub same_length : length new ≡ length old
  pub each : (p : ℕ) → 2 * p + 1 < length old → word p new ≡ bit_xor (word p old) (other p)

-- to each word, the product of c and the word of src is added
abbrev pub AddsProducts : ℕ → List ℕ → List ℕ → List ℕ → Type 0
AddsProducts c src = AddsTo (λ p. mul c (word p src))
