-- Additions to buffers word by word, rows of words, and changes of a column. A word is two bytes, the lower one first.
use Rattle.std.specs.Prelude.{None, Option, Some, ℕ, ◌≡◌, ◌<◌, ◌≤◌, ◌+◌, ◌*◌, ◌&&◌, nat_le, nat_lt, bit_xor, List, length, drop, slice_index, slice_index_or, if◌then◌else◌, suc, ◌≢◌, ◌-◌, ◌^◌, ◌⊎◌}
use Rattle.par2_spec.specs.Prelude.{bit_at, word, list_at, GivesElements, field_sum, mul, pow, Bor}
use Rattle.par2_gf16.specs.Words.{word_of}
use Rattle.par2_transform.specs.declared.outputs.Place.{Place}
use Rattle.par2_gf16.specs.declared.vectors.WordVector.{WordVector}
use Rattle.par2_transform.specs.Polynomials.{powers_in, sum_ahead, value, from, AreZeroFrom}

-- x if p is from `from` up to `to`, and 0 otherwise
abbrev pub within : ℕ → ℕ → ℕ → ℕ → ℕ
within from to p x = if nat_le from p && nat_lt p to then x else 0

-- an element, multiplied by the factor if there is one
abbrev pub times : Option (Bor ℕ) → ℕ → ℕ
times None = λ x. x
times (Some factor) = mul factor.now

-- to word p of buffer t, `other t p` is added
pub record AddsToEach (other : ℕ → ℕ → ℕ) (old new : List (List ℕ)) : Type 0 where
  pub count : length new ≡ length old
  pub sizes : (t : ℕ) → length (list_at new t) ≡ length (list_at old t)
  pub each : (t p : ℕ) → t < length old → 2 * p + 1 < length (list_at old t) → word p (list_at new t) ≡ bit_xor (word p (list_at old t)) (other t p)

-- all buffers have this many words
abbrev pub HaveWords : ℕ → List (List ℕ) → Type 0
HaveWords words buffers = (t : ℕ) → t < length buffers → length (list_at buffers t) ≡ 2 * words

-- place t, or the beginning of the first buffer past the end
abbrev pub place_at : List Place → ℕ → Place
place_at places t = slice_index_or places t (record { buffer = 0; at = 0 })

-- word p of the output at place t
abbrev pub output_word : List Place → ℕ → ℕ → List (List ℕ) → ℕ
output_word places t p buffers = word p (drop (place_at places t).at (list_at buffers (place_at places t).buffer))

-- byte k of buffer i belongs to the output of this many words at this place
abbrev pub HasByte : ℕ → Place → ℕ → ℕ → Type 0
HasByte words place i k = (place.buffer ≡ i) × ((place.at ≤ k) × (k < place.at + 2 * words))

-- no two outputs overlap: a byte of two outputs is one of the same output
abbrev pub AreApart : ℕ → List Place → Type 0
AreApart words places =
    (s t i k : ℕ) → s < length places → t < length places → HasByte words (place_at places s) i k → HasByte words (place_at places t) i k → s ≡ t

-- the buffers have all bytes of the outputs
abbrev pub LieWithin : ℕ → List Place → List (List ℕ) → Type 0
LieWithin words places buffers =
    (t : ℕ) → t < length places → ((place_at places t).buffer < length buffers) × ((place_at places t).at + 2 * words ≤ length (list_at buffers (place_at places t).buffer))

-- to word p of output t, `other t p` is added, and nothing else in the buffers changes
pub record AddsAt (places : List Place) (words : ℕ) (other : ℕ → ℕ → ℕ) (old new : List (List ℕ)) : Type 0 where
  pub count : length new ≡ length old
  pub sizes : (i : ℕ) → length (list_at new i) ≡ length (list_at old i)
  pub each : (t p : ℕ) → t < length places → p < words → output_word places t p new ≡ bit_xor (output_word places t p old) (other t p)
  pub others : (i k : ℕ) → ((t : ℕ) → t < length places → HasByte words (place_at places t) i k → ⊥) → slice_index (list_at new i) k ≡ slice_index (list_at old i) k

-- output t is the whole of buffer t
pub record AreWholeBuffers (n : ℕ) (places : List Place) : Type 0 where
  pub count : length places ≡ n
  pub each : (t : ℕ) → t < n → ((place_at places t).buffer ≡ t) × ((place_at places t).at ≡ 0)

-- 2 ^ levels rows of `words` words each, one after the other
pub record Grid : Type 0 where
  pub levels : ℕ
  pub words : ℕ
  pub vectors : List WordVector

-- word c of each row, or 0 past the end of a row
abbrev pub column : Grid → ℕ → ℕ → ℕ
column grid c u = within 0 grid.words c (word_of grid.vectors (u * grid.words + c))

-- run q of level i, which is the 2 ^ i values from value q * 2 ^ i on, is one of 2 ^ levels values, at most 65,536
pub record IsRun (levels i q : ℕ) : Type 0 where
  pub few : levels ≤ 16
  pub level : i ≤ levels
  pub run : q < 2 ^ (levels - i)

-- two runs of level i, the 2 ^ (i + 1) values from `start` on, are some of 2 ^ levels values, at most 65,536
pub record IsPair (levels i start : ℕ) : Type 0 where
  pub few : levels ≤ 16
  pub level : i < levels
  pub fits : start + 2 ^ suc i ≤ 2 ^ levels

-- of n values, the `count` values from a on and those from b on don't overlap
pub record AreTwoRuns (n a b count : ℕ) : Type 0 where
  pub from : a + count ≤ n
  pub to : b + count ≤ n
  pub apart : (a + count ≤ b) ⊎ (b + count ≤ a)

-- there are 2 ^ k rows of n words each
pub record HasSize (k n : ℕ) (grid : Grid) : Type 0 where
  pub levels : grid.levels ≡ k
  pub words : grid.words ≡ n

-- the vectors are 2 ^ levels rows of this many
pub record AreRows (levels width : ℕ) (vectors : List WordVector) : Type 0 where
  pub few : levels ≤ 16
  pub count : length vectors ≡ 2 ^ levels * width
  pub fit : GivesElements (word_of vectors)

-- there are as many vectors as before, and their words still fit if they did
pub record AreRewritten (old new : List WordVector) : Type 0 where
  pub same_length : length new ≡ length old
  pub fit : GivesElements (word_of old) → GivesElements (word_of new)

-- the first n vectors are those of src, and the rest is unchanged
pub record CopiesVectors (n : ℕ) (src old new : List WordVector) : Type 0 where
  pub same_length : length new ≡ length old
  pub first : (p : ℕ) → p < 32 * n → word_of new p ≡ word_of src p
  pub rest : (p : ℕ) → 32 * n ≤ p → word_of new p ≡ word_of old p

-- the first n rows are those of the other rows, and the rest is unchanged
pub record AreCopied (n : ℕ) (other old new : Grid) : Type 0 where
  pub levels : new.levels ≡ old.levels
  pub words : new.words ≡ old.words
  pub first : (c u : ℕ) → u < n → column new c u ≡ column other c u
  pub rest : (c u : ℕ) → n ≤ u → column new c u ≡ column old c u

-- to word c of row `to`, `other c` is added, and no other row changes
pub record IsAdded (old new : Grid) (to : ℕ) (other : ℕ → ℕ) : Type 0 where
  pub levels : new.levels ≡ old.levels
  pub words : new.words ≡ old.words
  pub others : (c u : ℕ) → u ≢ to → column new c u ≡ column old c u
  pub here : (c : ℕ) → c < old.words → column new c to ≡ bit_xor (column old c to) (other c)

-- each column changes by the relation
pub record EachColumn (relation : (ℕ → ℕ) → (ℕ → ℕ) → Type 0) (old new : Grid) : Type 0 where
  pub levels : new.levels ≡ old.levels
  pub words : new.words ≡ old.words
  pub columns : (c : ℕ) → c < old.words → relation (column old c) (column new c)

-- the values below a and from b on are unchanged
pub record SameValuesOutside (a b : ℕ) (old new : ℕ → ℕ) : Type 0 where
  pub below : (u : ℕ) → u < a → new u ≡ old u
  pub above : (u : ℕ) → b ≤ u → new u ≡ old u

-- the values of a run change by the relation, and nothing else changes
pub record OneRun (start count : ℕ) (relation : (ℕ → ℕ) → (ℕ → ℕ) → Type 0) (old new : ℕ → ℕ) : Type 0 where
  pub others : SameValuesOutside start (start + count) old new
  pub run : relation (from start old) (from start new)

-- run q of level i changes by the relation, and nothing else changes
abbrev pub RunBecomes : ℕ → ℕ → ((ℕ → ℕ) → (ℕ → ℕ) → Type 0) → (ℕ → ℕ) → (ℕ → ℕ) → Type 0
RunBecomes i q = OneRun (q * 2 ^ i) (2 ^ i)

-- to the n values from `to` on, those of `other` are added
pub record AddsToRun (to n : ℕ) (other old new : ℕ → ℕ) : Type 0 where
  pub others : SameValuesOutside to (to + n) old new
  pub run : (e : ℕ) → e < n → new (to + e) ≡ bit_xor (old (to + e)) (other e)

-- to the n values from `to` on, f of the values from `at` on is added
abbrev pub RunAddedBy : (ℕ → ℕ) → ℕ → ℕ → ℕ → (ℕ → ℕ) → (ℕ → ℕ) → Type 0
RunAddedBy f at to n old = AddsToRun to n (λ e. f (old (at + e))) old

-- the butterfly: f of the n values from `high` on is added to those from `low` on, and then the new ones to the former
pub record IsButterfly (f : ℕ → ℕ) (low high n : ℕ) (old new : ℕ → ℕ) : Type 0 where
  pub below : (u : ℕ) → u < low → new u ≡ old u
  pub between : (u : ℕ) → low + n ≤ u → u < high → new u ≡ old u
  pub above : (u : ℕ) → high + n ≤ u → new u ≡ old u
  pub lower : (e : ℕ) → e < n → new (low + e) ≡ bit_xor (old (low + e)) (f (old (high + e)))
  pub upper : (e : ℕ) → e < n → new (high + e) ≡ bit_xor (old (high + e)) (new (low + e))

-- to value 2 ^ i + e, the values e + 2 ^ j from a up to b are added, for the first n powers of the subspace polynomial
pub record AheadAdded (i start a b n : ℕ) (old new : ℕ → ℕ) : Type 0 where
  pub others : SameValuesOutside (start + 2 ^ i) (start + 2 ^ suc i) old new
  pub run : (e : ℕ) → e < 2 ^ i → from start new (2 ^ i + e)
      ≡ bit_xor (from start old (2 ^ i + e)) (field_sum n (λ j. bit_at (powers_in i) j * within a b (e + 2 ^ j) (from start old (e + 2 ^ j))))

-- to value 2 ^ i + e of a run, c times value e and the values ahead are added, for e from m on: x ^ (2 ^ i) is the
-- subspace polynomial plus its lower powers
pub record IsRaised (i c start m : ℕ) (old new : ℕ → ℕ) : Type 0 where
  pub others : SameValuesOutside (start + 2 ^ i + m) (start + 2 ^ suc i) old new
  pub run : (e : ℕ) → m ≤ e → e < 2 ^ i
      → from start new (2 ^ i + e) ≡ bit_xor (from start old (2 ^ i + e)) (bit_xor (mul c (from start new e)) (sum_ahead i (from start new) e))

-- coefficient 2 ^ i + e is added to coefficient e + 2 ^ j in the upper half, for the first n powers 2 ^ j
pub record IsSpreadAbove (i start n : ℕ) (old new : ℕ → ℕ) : Type 0 where
  pub others : SameValuesOutside (start + 2 ^ i) (start + 2 ^ suc i) old new
  pub kept : (e : ℕ) → 2 ^ i ≤ 2 * e → from start new (2 ^ i + e) ≡ from start old (2 ^ i + e)
  pub short : (m : ℕ) → 2 ^ i ≤ m → AreZeroFrom m (suc i) (from start old) → AreZeroFrom m (suc i) (from start new)
  pub fit : GivesElements old → GivesElements new
  pub values : (x : ℕ) → value (2 ^ suc i) (from start new) x
      ≡ bit_xor (value (2 ^ suc i) (from start old) x) (field_sum n (λ j. bit_at (powers_in i) j * field_sum (2 ^ j) (λ d. mul (from (2 ^ i) (from start old) (2 ^ i - 2 ^ j + d)) (pow x (2 ^ i + d)))))

-- coefficient 2 ^ i + e is added to coefficient e + 2 ^ j in the lower half, for the first n powers 2 ^ j
pub record IsSpreadBelow (i start n : ℕ) (old new : ℕ → ℕ) : Type 0 where
  pub others : SameValuesOutside start (start + 2 ^ i) old new
  pub fit : GivesElements old → GivesElements new
  pub values : (x : ℕ) → value (2 ^ suc i) (from start new) x
      ≡ bit_xor (value (2 ^ suc i) (from start old) x) (field_sum n (λ j. bit_at (powers_in i) j * field_sum (2 ^ i - 2 ^ j) (λ d. mul (from (2 ^ i) (from start old) d) (pow x (2 ^ j + d)))))
