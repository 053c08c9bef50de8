-- The two checksums of a slice, MD5 (RFC 1321) and CRC-32 (ISO 3309), in that order (Parity Volume Set
-- Specification 2.0, "Input File Slice Checksum packet").
use Rattle.std.specs.Prelude.{ℕ, zero, suc, ◌*◌, ◌/◌, ◌%◌, bit_xor, List, fold, ◌≡◌, ◌<◌, ◌^◌, length}
use Rattle.md5.specs.Md5.{md5}

-- one bit of CRC-32 (ISO 3309), lowest bit first: the highest coefficient is shifted out and, if it is 1, the generator
-- polynomial is added
abbrev pub crc_step : ℕ → ℕ
crc_step c = bit_xor (c / 2) (c % 2 * 0xEDB88320)

-- n bits of CRC-32
abbrev pub crc_steps : ℕ → ℕ → ℕ
crc_steps zero c = c
crc_steps (suc n) c = crc_steps n (crc_step c)

-- the remainder after one more byte
abbrev pub crc_byte : ℕ → ℕ → ℕ
crc_byte c byte = crc_steps 8 (bit_xor c byte)

-- CRC-32 (ISO 3309): the remainder begins as all ones and is complemented at the end
unfoldable pub crc32 : List ℕ → ℕ
crc32 bytes = bit_xor (fold crc_byte 0xFFFFFFFF bytes) 0xFFFFFFFF

-- the checksums that an IFSC packet gives for a slice: MD5, then CRC-32
abbrev pub Pair : Type 0
Pair = List ℕ × ℕ

-- the checksums of a slice
abbrev pub pair_of : List ℕ → Pair
pair_of slice = (md5 slice, crc32 slice)

-- a digest of sixteen bytes and a checksum of 32 bits
abbrev pub IsPair : Pair → Type 0
IsPair pair = (length pair.0 ≡ 16) × (pair.1 < 2 ^ 32)
