-- Input file slices: the pieces of equal size into which a file is cut (Parity Volume Set Specification 2.0,
-- "Description of the algorithm"). A file is a list of bytes.
use Rattle.std.specs.Prelude.{ℕ, ◌+◌, ◌-◌, ◌*◌, ◌/◌, List, ◌++◌, length, take, drop, map, replicate, slice_index}
use Rattle.std.specs.Int.{div_ceil}
use Rattle.std.specs.List.{range_with_len}

-- the bytes, padded with zeros to s bytes
abbrev pub padded : ℕ → List ℕ → List ℕ
padded s bytes = bytes ++ replicate (s - length bytes) 0

-- how many slices of s bytes a file of n bytes has
abbrev pub slice_count : ℕ → ℕ → ℕ
slice_count s n = div_ceil n s

-- slice j of a file: the s bytes from `j * s` on, the last slice padded with zeros
abbrev pub slice_at : ℕ → List ℕ → ℕ → List ℕ
slice_at s bytes j = padded s (take s (drop (j * s) bytes))

-- the slices of a file, in order
abbrev pub slices : ℕ → List ℕ → List (List ℕ)
slices s bytes = map (slice_at s bytes) (range_with_len 0 (slice_count s (length bytes)))

-- word p of a slice, an element of the field: bytes 2 * p and 2 * p + 1 as a little-endian number
abbrev pub word : ℕ → List ℕ → ℕ
word p slice = slice_index slice (2 * p) + 256 * slice_index slice (2 * p + 1)

-- the words of a slice
abbrev pub words : List ℕ → List ℕ
words slice = map (λ p. word p slice) (range_with_len 0 (length slice / 2))
