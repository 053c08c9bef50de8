-- The finite field GF(2^16) of 65,536 elements (Parity Volume Set Specification 2.0, "The Galois field"). An element is
-- a number below 2 ^ 16, read as a polynomial over GF(2): bit i is the coefficient of x ^ i. The sum is `bit_xor`.
use Rattle.std.specs.Prelude.{ℕ, zero, suc, ◌+◌, ◌*◌, ◌%◌, ◌^◌, ◌==◌, ◌&&◌, Bool, not, bit_xor, List, filter, slice_index}
use Rattle.std.specs.Int.{bit_at}
use Rattle.std.specs.List.{range_with_len}

-- the generator polynomial of the field, x ^ 16 + x ^ 12 + x ^ 3 + x + 1
abbrev pub modulus : ℕ
modulus = 0x1100B

-- the product of polynomials over GF(2) (carry-less product), b of degree below n: the sum of copies of a, each shifted
-- to the position of a coefficient of b and multiplied by it
unfoldable pub product : ℕ → ℕ → ℕ → ℕ
product a b zero = 0
product a b (suc n) = bit_xor (product a b n) (bit_at b n * (a * 2 ^ n))

-- the remainder of a polynomial of degree below 16 + n on division by the modulus (long division)
unfoldable pub remainder : ℕ → ℕ → ℕ
remainder p zero = p
remainder p (suc n) = remainder (bit_xor p (bit_at p (16 + n) * (modulus * 2 ^ n))) n

-- the product of two elements: the product of the polynomials, reduced by the modulus
unfoldable pub mul : ℕ → ℕ → ℕ
unfolding product remainder
mul a b = remainder (product a b 16) 15

-- a to the power e
unfoldable pub pow : ℕ → ℕ → ℕ
unfolding mul
pow a zero = 1
pow a (suc e) = mul a (pow a e)

-- n is coprime to 65,535 = 3 * 5 * 17 * 257. Exactly then 2 to the power n has order 65,535, so it is a primitive
-- element
abbrev pub is_coprime : ℕ → Bool
is_coprime n = not (n % 3 == 0) && not (n % 5 == 0) && not (n % 17 == 0) && not (n % 257 == 0)

-- the most input slices of a set: there are no more constants
abbrev pub max_slices : ℕ
max_slices = 32768

-- the numbers from 1 to 65,535 that are coprime to 65,535, in order: there are `max_slices` (Euler's totient)
unfoldable pub constant_powers : List ℕ
constant_powers = filter is_coprime (range_with_len 1 65535)

-- the constant of input slice k (Parity Volume Set Specification 2.0), for k below `max_slices`
unfoldable pub constant : ℕ → ℕ
unfolding constant_powers pow
constant k = pow 2 (slice_index constant_powers k)

-- the factor of input slice k in the recovery slice of exponent e: an entry of the Vandermonde matrix of the constants
unfoldable pub coefficient : ℕ → ℕ → ℕ
unfolding constant pow
coefficient e k = pow (constant k) e
