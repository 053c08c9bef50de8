-- Words: added in bytes, multiplied in lanes, and read from vectors of thirty-two.
use Rattle.std.specs.Prelude.{ℕ, ◌+◌, ◌*◌, ◌^◌, ◌<◌, ◌≤◌, ◌≡◌, ◌/◌, ◌%◌, List, length, map, slice_index, bit_xor, [], slice_index_or}
use Rattle.par2_spec.specs.Prelude.{mul, pow, word}
use Rattle.par2_gf16.specs.declared.vectors.WordVector.{WordVector}

-- to the words `from` up to `to`, `other i` is added to word i, and the others are unchanged
pub record AddsEach (other : ℕ → ℕ) (old new : List ℕ) (from to : ℕ) : Type 0 where
  pub same_length : length new ≡ length old
  pub inside : (i : ℕ) → from ≤ i → i < to → 2 * i + 1 < length old → word i new ≡ bit_xor (word i old) (other i)
  pub below : (i : ℕ) → i < from → word i new ≡ word i old
  pub above : (i : ℕ) → to ≤ i → word i new ≡ word i old

-- after j steps over the lanes v: the low j bits of each lane have been multiplied by c
pub record LanesSoFar (c : ℕ) (v sum rest : List ℕ) (k j : ℕ) : Type 0 where
  pub added : sum ≡ map (λ x. mul c (x % 2 ^ j)) v
  pub left : rest ≡ map (λ x. x / 2 ^ j) v
  pub copy : k ≡ mul c (pow 2 j)

-- the bytes before `from` and from `to` on are unchanged
pub record SameOutside (old new : List ℕ) (from to : ℕ) : Type 0 where
  pub same_length : length new ≡ length old
  pub below : (k : ℕ) → k < from → slice_index new k ≡ slice_index old k
  pub above : (k : ℕ) → to ≤ k → slice_index new k ≡ slice_index old k

-- a table of f at each nibble, twice
pub record IsTable (f : ℕ → ℕ) (table : List ℕ) : Type 0 where
  pub count : length table ≡ 32
  pub each : (n : ℕ) → n < 32 → slice_index table n ≡ f (n % 16)

-- the lane of word j of a block of thirty-two: the quarters in the middle change places
abbrev pub lane_of : ℕ → ℕ
lane_of j = j % 8 + 8 * (j / 8 % 2 * 2 + j / 16)

-- the bytes are those of thirty-two words whose lower and higher bytes are in the lanes of low and of high
pub record IsInterleaving (low high bytes : List ℕ) : Type 0 where
  pub low_count : length low ≡ 32
  pub high_count : length high ≡ 32
  pub lows : (j : ℕ) → j < 32 → slice_index bytes (2 * j) ≡ slice_index low (lane_of j)
  pub highs : (j : ℕ) → j < 32 → slice_index bytes (2 * j + 1) ≡ slice_index high (lane_of j)

-- to the n bytes from `at` on, the bytes of v are added
pub record AddsLanes (old new : List ℕ) (at n : ℕ) (v : List ℕ) : Type 0 where
  pub count : length v ≡ n
  pub others : SameOutside old new at (at + n)
  pub fit : (j : ℕ) → j < n → slice_index old (at + j) < 256
  pub each : (j : ℕ) → j < n → slice_index new (at + j) ≡ bit_xor (slice_index old (at + j)) (slice_index v j)

-- word j of those whose bytes are in these lanes
abbrev pub in_lane : List ℕ → List ℕ → ℕ → ℕ
in_lane low high j = slice_index low (lane_of j) + 256 * slice_index high (lane_of j)

-- word j of a vector
abbrev pub word_in : WordVector → ℕ → ℕ
word_in vector j = in_lane vector.low vector.high j

-- word p of vectors of thirty-two words each, or 0 past their end
abbrev pub word_of : List WordVector → ℕ → ℕ
word_of vectors p = word_in (slice_index_or vectors (p / 32) (record { low = []; high = [] })) (p % 32)
