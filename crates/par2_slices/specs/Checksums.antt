-- Checksums, sets of groups of them, and the pairs that a search looks for. No type whose view cites them is imported.
use Rattle.std.specs.Prelude.{◌≡◌, ◌≢◌, ◌⊎◌, ℕ, ◌-◌, ◌*◌, ◌/◌, ◌%◌, ◌^◌, ◌<◌, ◌==◌, ◌&&◌, ◌+◌, ◌≤◌, Bool, List, Option, None, [], ◌∷◌, bit_xor, length, map, slice_index, slice_index_or}
use Rattle.par2_spec.specs.Prelude.{bit_at, range_with_len, IsNonDecreasingBy, is_none, Pair, crc32, crc_byte, crc_steps, pair_of, slice_at}
use Rattle.md5.specs.Md5.{md5}
use Rattle.par2_md5_lanes.specs.Messages.{digest_at}
use Rattle.par2_slices.specs.declared.search.Position.{Position}
use Rattle.par2_slices.specs.declared.wanted.PairPlace.{PairPlace}

-- the remainder after n more zero bits
unfoldable pub steps : ℕ → ℕ → ℕ
steps n c = crc_steps n c

-- the size of its windows and a checksum
pub record Roll : Type 0 where
  pub size : ℕ
  pub value : ℕ

-- what the byte that leaves a window of s bytes adds to the checksum
unfoldable pub leaving : ℕ → ℕ → ℕ
leaving s byte = bit_xor (steps (8 * s) (crc32 (byte ∷ []))) (crc32 (0 ∷ []))

-- the table has for each byte what it adds when it leaves
abbrev pub IsLeaving : ℕ → List ℕ → Type 0
IsLeaving s table = (byte : ℕ) → byte < 256 → slice_index table byte ≡ leaving s byte

-- the checksum of a window of s bytes after `out` has left it and `next` has entered
unfoldable pub after_slide : ℕ → ℕ → ℕ → ℕ → ℕ
after_slide s value out next = bit_xor (crc_byte value next) (leaving s out)

-- the checksums of the first n slices of a file
abbrev pub first_pairs : ℕ → List ℕ → ℕ → List Pair
first_pairs s bytes n = map pair_of (map (slice_at s bytes) (range_with_len 0 n))

-- the first of the digests are those of `count` slices from slice `first` on
abbrev pub AreMd5s : ℕ → List ℕ → ℕ → ℕ → List (List ℕ) → Type 0
AreMd5s s bytes first count md5s = (k : ℕ) → k < count → digest_at md5s k ≡ md5 (slice_at s bytes (first + k))

-- checksums that have the same bits from bit `shift` on share a byte, in which each three low bits have one bit
pub record Groups : Type 0 where
  pub shift : ℕ
  pub bytes : List ℕ

-- there is a byte for each value of the bits from bit `shift` on
pub record IsLong (shift : ℕ) (bytes : List ℕ) : Type 0 where
  pub either : (shift ≡ 13) ⊎ (shift ≡ 15)
  pub len : length bytes ≡ 2 ^ (32 - shift)

-- the group of a checksum is in the set
pub record Includes (groups : Groups) (crc : ℕ) : Type 0 where
  pub bit : bit_at (slice_index groups.bytes (crc / 2 ^ groups.shift)) (crc % 8) ≡ 1

-- the checksums are of one group
abbrev pub AreAlike : ℕ → ℕ → ℕ → Type 0
AreAlike shift crc other = (other / 2 ^ shift ≡ crc / 2 ^ shift) × (other % 8 ≡ crc % 8)

-- the summary's bit for the byte at this place is set
abbrev pub HasBit : List ℕ → ℕ → Type 0
HasBit summary place = bit_at (slice_index summary (place / 32)) (place % 32) ≡ 1

-- the summary has a bit for each byte, which is set if the byte isn't 0
pub record Summarizes (bytes summary : List ℕ) : Type 0 where
  pub len : 32 * length summary ≡ length bytes
  pub bits : (place : ℕ) → slice_index bytes place ≢ 0 → HasBit summary place

-- pair i of a list, or a pair without bytes past the end; the others are the same for their lists
abbrev pub pair_at : List Pair → ℕ → Pair
pair_at pairs i = slice_index_or pairs i ([], 0)

abbrev pub pair_place_at : List PairPlace → ℕ → PairPlace
pair_place_at places k = slice_index_or places k (record { crc = 0; index = 0 })

-- the position of pair i, if it is found
abbrev pub answer_at : List (Option Position) → ℕ → Option Position
answer_at found i = slice_index_or found i None

-- the indices of pairs, with their checksums
abbrev pub ArePlaces : List Pair → List PairPlace → Type 0
ArePlaces pairs places =
    (k : ℕ) → k < length places → let place = pair_place_at places k in (place.index < length pairs) × ((pair_at pairs place.index).1 ≡ place.crc)

-- the indices of all pairs, by ascending checksums
pub record IsIndex (pairs : List Pair) (places : List PairPlace) : Type 0 where
  pub rising : IsNonDecreasingBy (λ place. place.crc) places
  pub each : ArePlaces pairs places
  pub whole : (i : ℕ) → i < length pairs → (k : ℕ) × (k < length places) × ((pair_place_at places k).index ≡ i)

-- the places of this group and of those above it begin here; the checksums of a group have the same bits from bit 17 on
pub record IsStart (places : List PairPlace) (group start : ℕ) : Type 0 where
  pub bound : start ≤ length places
  pub below : (k : ℕ) → k < start → (pair_place_at places k).crc / 2 ^ 17 < group
  pub above : (k : ℕ) → start ≤ k → k < length places → group ≤ (pair_place_at places k).crc / 2 ^ 17

-- where the places of each group begin, and where those of the last group end
pub record AreStarts (places : List PairPlace) (starts : List ℕ) : Type 0 where
  pub len : length starts ≡ 2 ^ 15 + 1
  pub each : (group : ℕ) → group < 2 ^ 15 + 1 → IsStart places group (slice_index starts group)

-- these places are those of the pairs whose checksums are of the group
pub record HoldsGroup (pairs : List Pair) (crc : ℕ) (group : List PairPlace) : Type 0 where
  pub only : (k : ℕ) → k < length group → (pair_place_at group k).crc / 2 ^ 17 ≡ crc / 2 ^ 17
  pub each : ArePlaces pairs group
  pub whole : (i : ℕ) → i < length pairs → (pair_at pairs i).1 / 2 ^ 17 ≡ crc / 2 ^ 17 → (k : ℕ) × (k < length group) × ((pair_place_at group k).index ≡ i)

-- whether the pair of a place has this checksum and is open
abbrev pub is_awaited : ℕ → List (Option Position) → PairPlace → Bool
is_awaited crc found place = place.crc == crc && is_none (answer_at found place.index)
