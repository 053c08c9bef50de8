-- The search for slices by their checksums, and the files that match targets. A pair is open until it is found.
use Rattle.std.specs.Prelude.{◌≡◌, ◌≢◌, ◌⊎◌, ℕ, List, length, slice_index, [], ◌∷◌, ◌<◌, ◌==◌, ◌&&◌, ◌+◌, ◌*◌, ◌≤◌, Bool, cond, Option, Some, None, IfSome, option_map, slice_index_or, map, filter, find, fold, not}
use Rattle.par2_spec.specs.Prelude.{Bor, All, count_by, range_with_len, is_none, option_or, bytes_eq, Pair, crc32, Folder, bytes_of, is_intact, matched, padded, slice_at, first_match, is_match, window}
use Rattle.std.specs.List.{IsDistinct}
use Rattle.std.specs.Option.{ForSome}
use Rattle.md5.specs.Md5.{md5}
pub use Rattle.par2_md5_lanes.specs.Messages.{buffers_of}
use Rattle.par2_slices.specs.Checksums.{AreAlike, Groups, Includes, answer_at, pair_at, pair_place_at}
use Rattle.par2_slices.specs.declared.matching.Target.{Target}
use Rattle.par2_slices.specs.declared.search.Row.{Row}
use Rattle.par2_slices.specs.declared.search.Scan.{Scan}
use Rattle.par2_slices.specs.declared.search.Candidate.{Candidate}
use Rattle.par2_slices.specs.declared.search.Position.{Position}
use Rattle.par2_slices.specs.declared.search.Search.{Search}
use Rattle.par2_slices.specs.declared.wanted.PairPlace.{PairPlace}
use Rattle.par2_spec.specs.Sets as sets

-- candidate k of a batch
abbrev pub candidate_at : List Candidate → ℕ → Candidate
candidate_at candidates k = slice_index_or candidates k (record { position = record { buffer = 0; offset = 0 }; crc = 0 })

-- each pair of this checksum is found
abbrev pub HaveAnswers : List Pair → List (Option Position) → ℕ → Type 0
HaveAnswers pairs found crc = (i : ℕ) → i < length pairs → (pair_at pairs i).1 ≡ crc → answer_at found i ≢ None

-- an open pair of the group has a checksum that the filter doesn't distinguish from this one
abbrev pub IsWaiting : ℕ → List PairPlace → ℕ → List (Option Position) → Type 0
IsWaiting shift group crc found = (k : ℕ) × (k < length group) × (AreAlike shift crc (pair_place_at group k).crc) × (answer_at found (pair_place_at group k).index ≡ None)

-- the position of a pair after one more window: an open pair gets the window's if it matches
abbrev pub after_window : Bool → Position → Option Position → Option Position
after_window matches position answer = option_or answer (cond matches (Some position) None)

-- whether these are the checksums of the pair
abbrev pub has_checksums : List ℕ → ℕ → Pair → Bool
has_checksums md5 crc pair = crc == pair.1 && bytes_eq md5 pair.0

-- the new positions of the pairs follow from the old ones and a window with these checksums
abbrev pub Follow : List Pair → List ℕ → Candidate → List (Option Position) → List (Option Position) → Type 0
Follow pairs md5 window old new =
    (i : ℕ) → i < length pairs → answer_at new i ≡ after_window (has_checksums md5 window.crc (pair_at pairs i)) window.position (answer_at old i)

-- this offset in this buffer
abbrev pub position_in : ℕ → ℕ → Position
position_in bytes offset = record { buffer = bytes; offset = offset }

-- the first buffer with a window that has these checksums, and the least offset there; the buffers are counted from n on
abbrev pub first_position_from : ℕ → ℕ → List (List ℕ) → Pair → Option Position
first_position_from n s [] pair = None
first_position_from n s (bytes ∷ buffers) pair =
    option_or (option_map (position_in n) (first_match s bytes pair)) (first_position_from (n + 1) s buffers pair)

-- the first position of a slice with these checksums, in buffers from number 0 on
abbrev pub first_position : ℕ → List (List ℕ) → Pair → Option Position
first_position s buffers pair = first_position_from 0 s buffers pair

-- how many pairs are open; the filter has the groups of their checksums, and no others
pub record IsTally (pairs : List Pair) (found : List (Option Position)) (left : ℕ) (filter : Groups) : Type 0 where
  pub len : length found ≡ length pairs
  pub count : left ≡ count_by is_none found
  pub included : (i : ℕ) → i < length pairs → answer_at found i ≡ None → Includes filter (pair_at pairs i).1
  pub only : (crc : ℕ) → Includes filter crc → (i : ℕ) × (i < length pairs) × (answer_at found i ≡ None) × AreAlike filter.shift (pair_at pairs i).1 crc
  pub fine : filter.shift ≤ 17

-- the window of a buffer at an offset, its checksum, and whether it lies in the buffer
abbrev pub window_of : Scan → ℕ → List ℕ
window_of scan offset = window scan.rolling.now.size scan.bytes.now offset

abbrev pub crc_of : Scan → ℕ → ℕ
crc_of scan offset = crc32 (window_of scan offset)

abbrev pub IsWhole : Scan → ℕ → Type 0
IsWhole scan offset = offset + scan.rolling.now.size ≤ length scan.bytes.now

-- the least offset below `offset` at which the window matches the pair
unfoldable pub first_below : Scan → ℕ → Pair → Option ℕ
first_below scan offset pair = find (λ o. is_match pair (window_of scan o)) (range_with_len 0 offset)

-- the position of the pair in the buffers before this one
abbrev pub earlier_answer : Scan → Pair → Option Position
earlier_answer scan pair = first_position scan.rolling.now.size (map (λ bytes. bytes.now) scan.earlier.now) pair

-- the position of the pair in the buffers before this one, or else the least offset below `offset` in this one
abbrev pub answer_below : Scan → ℕ → Pair → Option Position
answer_below scan offset pair =
    option_or (earlier_answer scan pair) (option_map (position_in (length scan.earlier.now)) (first_below scan offset pair))

-- each pair of this checksum is found below `offset`
abbrev pub AreAnswered : Scan → ℕ → ℕ → Type 0
AreAnswered scan offset crc = (i : ℕ) → i < length scan.wanted.now → (pair_at scan.wanted.now i).1 ≡ crc → answer_below scan offset (pair_at scan.wanted.now i) ≢ None

-- a window that lies in the buffer, and its checksum
pub record IsWindow (scan : Scan) (candidate : Candidate) : Type 0 where
  pub whole : IsWhole scan candidate.position.offset
  pub crc : candidate.crc ≡ crc_of scan candidate.position.offset

-- a position after the windows of the candidates were compared with the pair, one after the other
unfoldable pub after_candidates : Scan → Pair → List Candidate → Option Position → Option Position
after_candidates scan pair candidates answer = fold (λ so_far candidate. after_window (is_match pair (window_of scan candidate.position.offset)) candidate.position so_far) answer candidates

-- the search's count and filter are those of its open pairs
abbrev pub IsTallied : List Pair → Search → Type 0
IsTallied pairs search = IsTally pairs search.found.items search.left search.filter

-- a search of the offsets below `offset`: what it has found, and what the candidates will add
pub record IsScannedTo (scan : Scan) (offset : ℕ) (found : List (Option Position)) (left : ℕ) (filter : Groups) (batch : List Candidate) : Type 0 where
  pub tally : IsTally scan.wanted.now found left filter
  pub answers : (i : ℕ) → i < length scan.wanted.now → after_candidates scan (pair_at scan.wanted.now i) batch (answer_at found i) ≡ answer_below scan offset (pair_at scan.wanted.now i)
  pub candidates : All (IsWindow scan) batch

-- the offsets below `offset` are searched; matches may still be in the batch (IsScannedTo, for the fields of a search)
abbrev pub IsSearching : Scan → ℕ → Search → Type 0
IsSearching scan offset search = IsScannedTo scan offset search.found.items search.left search.filter search.batch.items

-- the search is at a window of the buffer that has this checksum
pub record IsAtWindow (scan : Scan) (offset value : ℕ) (search : Search) : Type 0 where
  pub at : IsSearching scan offset search
  pub within : offset < length scan.bytes.now
  pub crc : value ≡ crc_of scan offset

-- row j of a list
abbrev pub row_at : List Row → ℕ → Row
row_at rows j = slice_index_or rows j (record { at = 0; crcs = [] })

-- the checksums of the windows `at` bytes into each of four stretches of `len` offsets from `start` on
abbrev pub AreCrcs : ℕ → List ℕ → ℕ → ℕ → ℕ → List ℕ → Type 0
AreCrcs s bytes start len at crcs = (k : ℕ) → k < 4 → slice_index crcs k ≡ crc32 (window s bytes (start + k * len + at))

-- of the first `count` rows, those in which an open pair may have the checksum of a window
pub record AreCandidateRows (scan : Scan) (start len count : ℕ) (rows : List Row) : Type 0 where
  pub rising : (i j : ℕ) → i < j → j < length rows → (row_at rows i).at < (row_at rows j).at
  pub below : (j : ℕ) → j < length rows → (row_at rows j).at < count
  pub crcs : (j : ℕ) → j < length rows → AreCrcs scan.rolling.now.size scan.bytes.now start len (row_at rows j).at (row_at rows j).crcs
  pub others : (at : ℕ) → at < count → ((j : ℕ) × (j < length rows) × ((row_at rows j).at ≡ at)) ⊎ ((k : ℕ) → k < 4 → AreAnswered scan start (crc_of scan (start + k * len + at)))

-- buffer i of a list, or name i
abbrev pub listed_at : List (List ℕ) → ℕ → List ℕ
listed_at buffers i = slice_index_or buffers i []

-- the CRC-32 of the first slice of a buffer that isn't empty
pub record IsFirst (s : ℕ) (bytes : List ℕ) (value : ℕ) : Type 0 where
  pub some : 0 < length bytes
  pub crc : value ≡ crc32 (slice_at s bytes 0)

-- for each buffer the CRC-32 of its first slice, or nothing
pub record AreFirst (s : ℕ) (buffers : List (List ℕ)) (firsts : List (Option ℕ)) : Type 0 where
  pub count : length firsts ≡ length buffers
  pub each : (i : ℕ) → i < length buffers → ForSome (slice_index_or firsts i None) (IsFirst s (listed_at buffers i))

-- the target of the specification, t, has the length and the pairs of the code's
pub record Describes (target : Target) (t : sets.Target) : Type 0 where
  pub length : t.length ≡ target.length
  pub pairs : t.pairs ≡ target.pairs.now

-- the lists are as long as each other, and each target is described by its counterpart
abbrev pub Describe : List Target → List sets.Target → Type 0
Describe [] [] = Unit {0}
Describe (target ∷ targets) (t ∷ ts) = Describes target t × Describe targets ts
Describe [] (t ∷ ts) = ⊥
Describe (target ∷ targets) [] = ⊥

-- the first of these buffers, by their numbers, that is intact for the target
abbrev pub first_intact : ℕ → List (List ℕ) → sets.Target → List ℕ → Option ℕ
first_intact s buffers t free = find (λ i. is_intact s t (listed_at buffers i)) free

-- the numbers without the one that was taken
abbrev pub without_number : Option ℕ → List ℕ → List ℕ
without_number None free = free
without_number (Some taken) free = filter (λ i. not (i == taken)) free

-- for each target the first of these buffers that is intact for it, by its number; each number is used once
abbrev pub matched_from : ℕ → List (List ℕ) → List ℕ → List sets.Target → List (Option ℕ)
matched_from s buffers free [] = []
matched_from s buffers free (t ∷ ts) =
    let first = first_intact s buffers t free in first ∷ matched_from s buffers (without_number first free) ts

-- for each target the number of the first buffer that is intact for it; each buffer is used once
abbrev pub matched_numbers : ℕ → List (List ℕ) → List sets.Target → List (Option ℕ)
matched_numbers s buffers ts = matched_from s buffers (range_with_len 0 (length buffers)) ts

-- if names are distinct, the matches by their numbers are those by the names
abbrev pub NumbersAreNames : Folder → ℕ → List (List ℕ) → List sets.Target → Type 0
NumbersAreNames folder s names ts =
    let numbers = matched_numbers s (map (bytes_of folder) names) ts in
    IsDistinct bytes_eq names → map (option_map (listed_at names)) numbers ≡ matched folder s names ts

-- each pair has the CRC-32 of its slice
abbrev pub HaveCrc32s : ℕ → List ℕ → List Pair → Type 0
HaveCrc32s s bytes pairs = (j : ℕ) → j < length pairs → crc32 (slice_at s bytes j) ≡ (pair_at pairs j).1

-- the pairs from pair a up to pair b have the MD5s of their slices
abbrev pub HaveMd5s : ℕ → List ℕ → List Pair → ℕ → ℕ → Type 0
HaveMd5s s bytes pairs a b = (j : ℕ) → a ≤ j → j < b → md5 (slice_at s bytes j) ≡ (pair_at pairs j).0

-- if a window was found, those of its bytes that lie in the buffer
abbrev pub Window : Type 0
Window = Option (Bor (List ℕ))

-- a window with the zeros that pad it past the end of its buffer
abbrev pub padded_window : ℕ → Window → Option (List ℕ)
padded_window s window = option_map (λ bytes. padded s bytes.now) window

abbrev pub padded_windows : ℕ → List Window → List (Option (List ℕ))
padded_windows s windows = map (padded_window s) windows

-- no window is longer than s bytes
abbrev pub AreShort : ℕ → List Window → Type 0
AreShort s windows = All (λ window. IfSome window (λ bytes. length bytes.now ≤ s)) windows

-- the position is in one of the buffers
pub record IsWithin (buffers : List (List ℕ)) (position : Position) : Type 0 where
  pub bytes : position.buffer < length buffers
  pub offset : position.offset < length (listed_at buffers position.buffer)

-- the window at a position
abbrev pub window_in : ℕ → List (List ℕ) → Position → List ℕ
window_in s buffers position = window s (listed_at buffers position.buffer) position.offset
