-- Sliding windows over a file, which are compared with the checksums of a slice (Parity Volume Set Specification 2.0,
-- "Input File Slice Checksum packet"). How slices are searched is a rule of this program.
use Rattle.std.specs.Prelude.{ℕ, ◌==◌, ◌&&◌, Bool, IsTrue, List, length, take, drop, map, flat_map, find, Option}
use Rattle.std.specs.List.{range_with_len}
use Rattle.std.specs.Str.{bytes_eq}
use Rattle.md5.specs.Md5.{md5}
use Rattle.par2_spec.specs.Checksums.{Pair, crc32}
use Rattle.par2_spec.specs.Slices.{padded}

-- the window at offset o: s bytes from there on, padded with zeros past the end
abbrev pub window : ℕ → List ℕ → ℕ → List ℕ
window s bytes o = padded s (take s (drop o bytes))

-- the windows at every offset of a file, in order
abbrev pub windows : ℕ → List ℕ → List (List ℕ)
windows s bytes = map (window s bytes) (range_with_len 0 (length bytes))

-- whether a window has these checksums
abbrev pub is_match : Pair → List ℕ → Bool
is_match pair slice = crc32 slice == pair.1 && bytes_eq (md5 slice) pair.0

-- a window has these checksums
abbrev pub Matches : Pair → List ℕ → Type 0
Matches pair slice = IsTrue (is_match pair slice)

-- the least offset at which the window has these checksums
abbrev pub first_match : ℕ → List ℕ → Pair → Option ℕ
first_match s bytes pair = find (λ o. is_match pair (window s bytes o)) (range_with_len 0 (length bytes))

-- the slice with these checksums, if the files contain it: the first window that matches, by file and then by offset
abbrev pub found : ℕ → List (List ℕ) → Pair → Option (List ℕ)
found s buffers pair = find (is_match pair) (flat_map (windows s) buffers)
