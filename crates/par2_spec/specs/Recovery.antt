-- Linear combinations over the field, and recovery slices (Parity Volume Set Specification 2.0, "Recovery
-- Slice packet").
use Rattle.std.specs.Prelude.{ℕ, ◌/◌, bit_xor, List, [], ◌∷◌, length, map, flat_map}
use Rattle.std.specs.Int.{w16, to_le_bytes}
use Rattle.std.specs.List.{range_with_len}
use Rattle.par2_spec.specs.Field.{mul, coefficient}
use Rattle.par2_spec.specs.Slices.{word}

-- the dot product of a row and a vector
unfoldable pub dot : List ℕ → List ℕ → ℕ
unfolding mul
dot [] v = 0
dot (c ∷ row) [] = 0
dot (c ∷ row) (x ∷ v) = bit_xor (mul c x) (dot row v)

-- the row of exponent e over these input slices, in the Vandermonde matrix of their constants
abbrev pub coefficients : List ℕ → ℕ → List ℕ
coefficients slices e = map (coefficient e) slices

-- the linear combination of buffers of s bytes by a row, word by word; s is even
unfoldable pub combination : ℕ → List ℕ → List (List ℕ) → List ℕ
unfolding dot
combination s row buffers = flat_map (λ p. to_le_bytes w16 (dot row (map (word p) buffers))) (range_with_len 0 (s / 2))

-- the recovery slice of exponent e over at most 32,768 slices of s bytes, by a Reed-Solomon code ("Recovery Slice
-- packet")
unfoldable pub recovery : ℕ → List (List ℕ) → ℕ → List ℕ
unfolding combination coefficient
recovery s slices e = combination s (coefficients (range_with_len 0 (length slices)) e) slices
