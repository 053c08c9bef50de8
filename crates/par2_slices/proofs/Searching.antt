-- The filter as a set of groups of checksums, what a search has found before an offset, and the windows of four
-- stretches that it passes over.
use Rattle.par2_slices.proofs.Common.{All-push, below_more, length-set, ◌≡◌, ◌≢◌, ℕ, zero, suc, ◌+◌, ◌-◌, ◌*◌, ◌^◌, ◌<◌, ◌%◌, ◌/◌, List, length, get_or, set, replicate, refl, subst, sym, ap, ◌∙◌, get_or-set_same, get_or-set_other, arith, inl, inr, ◌⊎◌, bit_and, bit_or, w8, bit_at, bit_not, cases_eq, get_or_read, shr_below, suc-ne-zero, Groups, IsLong, Includes, shr-shr, ◌≤◌, Bool, true, false, cond, [], ◌∷◌, ◌++◌, map, drop, ◌==◌, Option, Some, None, find, option_map, count_by, list_all, range_with_len, is_none, option_or, bytes_eq, and_from, and_left, and_right, cases_lt, eq-eqb, ne_eqb, length-replicate, length-map, get_or-map, ext_get_or, get_or_append_left, get_or_at, get_or-le-sum_by, get_or_push, length_push, drop_more, find-append, sum_by-zero, sum_by-replicate, list_all_at, md5, Pair, is_match, first_match, range-append, or_nothing, AreAlike, no_pair, IsOfOpenPair, no_place, no_candidate, pair_at, pair_place_at, candidate_at, answer_at, answer_below, position_in, first_position, first_position_from, HoldsGroup, is_awaited, after_window, has_checksums, IsWindow, IsTally, IsScannedTo, after_candidates, first_below, Candidate, Position, PairPlace, sum_by-set, Scan, window_of, crc_of, earlier_answer, AreAnswered, HaveAnswers, Bor, and_parts, false_from_ne_true, none_from, eqb-true, All-from_get_or, IsWhole, get_or-drop, after_slide, AreCrcs, AreCandidateRows, IsNoted, row_at, Row, no_row, Width, bit_at_or, bit_at_set_same, bit_at_set_other, bit_at_clear_same, bit_at_clear_other, list_all-from_AllPass, bits}
use Rattle.std.specs.Prelude.{◌&&◌}
use Rattle.std.proofs.lemmas.List.Sums.{fold-append}
use Rattle.par2_slices.proofs.Checksums.{slid_window}

pub within : (crc shift : ℕ) → crc < 2 ^ 32 → shift < 32 → crc / 2 ^ shift < 2 ^ (32 - shift)
within crc shift fits low =
    let split : 32 ≡ 32 - shift + shift = omega (arith, low) in
    shr_below crc (32 - shift) shift (subst (λ (k : ℕ). crc < 2 ^ k) split fits)

pub below : {shift : ℕ} → (shift ≡ 13) ⊎ (shift ≡ 15) → (n : ℕ) → 15 < n → shift < n
below (inl few) n low = omega (arith, few, low)
below (inr many) n low = omega (arith, many, low)

pub replicate_at : {X : Type 0} (n i : ℕ) (x : X) → get_or (replicate n x) i x ≡ x
replicate_at zero i x = refl
replicate_at (suc n) zero x = refl
replicate_at (suc n) (suc i) x = replicate_at n i x

-- the bytes with the group's bit set, and with the bit cleared
abbrev pub with_bit : ℕ → ℕ → List ℕ → Groups
with_bit shift crc bytes = record { shift = shift; bytes = set bytes (crc / 2 ^ shift) (bit_or (get_or bytes (crc / 2 ^ shift) 0) (1 * 2 ^ (crc % 8) % 2 ^ 8)) }

abbrev pub without_bit : ℕ → ℕ → List ℕ → Groups
without_bit shift crc bytes = record { shift = shift; bytes = set bytes (crc / 2 ^ shift) (bit_and (get_or bytes (crc / 2 ^ shift) 0) (bit_not w8 (1 * 2 ^ (crc % 8) % 2 ^ 8))) }

-- a group's bit after another byte was written at its index, or at another one
in_place : (shift crc other byte : ℕ) (bytes : List ℕ) → crc / 2 ^ shift < length bytes → other / 2 ^ shift ≡ crc / 2 ^ shift → bit_at (get_or (set bytes (crc / 2 ^ shift) byte) (other / 2 ^ shift) 0) (other % 8) ≡ bit_at byte (other % 8)
in_place shift crc other byte bytes place same = rw (same, get_or-set_same bytes (crc / 2 ^ shift) byte 0 place) refl

elsewhere : (shift crc other byte : ℕ) (bytes : List ℕ) → other / 2 ^ shift ≢ crc / 2 ^ shift → bit_at (get_or (set bytes (crc / 2 ^ shift) byte) (other / 2 ^ shift) 0) (other % 8) ≡ bit_at (get_or bytes (other / 2 ^ shift) 0) (other % 8)
elsewhere shift crc other byte bytes apart = ap (λ w. bit_at w (other % 8)) (get_or-set_other bytes (crc / 2 ^ shift) (other / 2 ^ shift) byte 0 apart)

-- the bit in the byte at the same index
here : (shift crc other : ℕ) (bytes : List ℕ) → other / 2 ^ shift ≡ crc / 2 ^ shift → bit_at (get_or bytes (other / 2 ^ shift) 0) (other % 8) ≡ bit_at (get_or bytes (crc / 2 ^ shift) 0) (other % 8)
here shift crc other bytes same = ap (λ i. bit_at (get_or bytes i 0) (other % 8)) same

pub included : (shift crc : ℕ) (bytes : List ℕ) → crc / 2 ^ shift < length bytes → Includes (with_bit shift crc bytes) crc
included shift crc bytes place =
    record { bit = in_place shift crc crc _ bytes place refl ∙ bit_at_set_same w8 (get_or bytes (crc / 2 ^ shift) 0) (crc % 8) (omega arith) }

-- a bit of a word stays set when another is set
pub kept_by_set : (w : Width) (words : List ℕ) (i k : ℕ) → i < length words → k < bits w → (j l : ℕ) → bit_at (get_or words j 0) l ≡ 1 → bit_at (get_or (set words i (bit_or (get_or words i 0) (1 * 2 ^ k % 2 ^ bits w))) j 0) l ≡ 1
kept_by_set w words i k place low j l is = grind (arith, get_or-set_same, get_or-set_other, bit_at_set_same, bit_at_set_other)

pub kept_by_insert : (shift crc : ℕ) (bytes : List ℕ) → crc / 2 ^ shift < length bytes → (other : ℕ) → Includes (record { shift = shift; bytes = bytes }) other → Includes (with_bit shift crc bytes) other
kept_by_insert shift crc bytes place other is = record { bit = kept_by_set w8 bytes (crc / 2 ^ shift) (crc % 8) place (omega arith) (other / 2 ^ shift) (other % 8) is.bit }

pub only_by_insert : (shift crc : ℕ) (bytes : List ℕ) → crc / 2 ^ shift < length bytes → (other : ℕ) → Includes (with_bit shift crc bytes) other → (other / 2 ^ shift ≡ crc / 2 ^ shift) × (other % 8 ≡ crc % 8) ⊎ Includes (record { shift = shift; bytes = bytes }) other
only_by_insert shift crc bytes place other is = elim (cases_eq (other / 2 ^ shift) (crc / 2 ^ shift)) [
  | inl same ↦ elim (cases_eq (other % 8) (crc % 8)) [
    | inl low ↦ inl (same, low)
    | inr apart ↦ inr (record { bit = here shift crc other bytes same ∙ sym (bit_at_set_other w8 (get_or bytes (crc / 2 ^ shift) 0) (crc % 8) (omega arith) (other % 8) apart) ∙ sym (in_place shift crc other _ bytes place same) ∙ is.bit })
  ]
  | inr apart ↦ inr (record { bit = sym (elsewhere shift crc other _ bytes apart) ∙ is.bit })
]

pub gone : (shift crc : ℕ) (bytes : List ℕ) → crc / 2 ^ shift < length bytes → Includes (without_bit shift crc bytes) crc → ⊥
gone shift crc bytes place is =
    suc-ne-zero 0 (sym is.bit ∙ in_place shift crc crc _ bytes place refl ∙ bit_at_clear_same w8 (get_or bytes (crc / 2 ^ shift) 0) (crc % 8) (omega arith))

-- a bit of a word stays set when another is cleared
pub kept_by_clear : (w : Width) (words : List ℕ) (i k : ℕ) → i < length words → k < bits w → (j l : ℕ) → l < bits w → ((j ≡ i) × (l ≡ k) → ⊥) → bit_at (get_or words j 0) l ≡ 1 → bit_at (get_or (set words i (bit_and (get_or words i 0) (bit_not w (1 * 2 ^ k % 2 ^ bits w)))) j 0) l ≡ 1
kept_by_clear w words i k place low j l within differs is = grind (arith, get_or-set_same, get_or-set_other, bit_at_clear_other)

pub kept_by_remove : (shift crc : ℕ) (bytes : List ℕ) → crc / 2 ^ shift < length bytes → (other : ℕ) → ((other / 2 ^ shift ≡ crc / 2 ^ shift) × (other % 8 ≡ crc % 8) → ⊥) → Includes (record { shift = shift; bytes = bytes }) other → Includes (without_bit shift crc bytes) other
kept_by_remove shift crc bytes place other differs is = record { bit = kept_by_clear w8 bytes (crc / 2 ^ shift) (crc % 8) place (omega arith) (other / 2 ^ shift) (other % 8) (omega arith) differs is.bit }

pub only_by_remove : (shift crc : ℕ) (bytes : List ℕ) → crc / 2 ^ shift < length bytes → (other : ℕ) → Includes (without_bit shift crc bytes) other → Includes (record { shift = shift; bytes = bytes }) other
only_by_remove shift crc bytes place other is = elim (cases_eq (other / 2 ^ shift) (crc / 2 ^ shift)) [
  | inl same ↦
      let byte : ℕ = get_or bytes (crc / 2 ^ shift) 0 in
      let cleared : ℕ = bit_and byte (bit_not w8 (1 * 2 ^ (crc % 8) % 2 ^ 8)) in
      let still : bit_at cleared (other % 8) ≡ 1 = sym (in_place shift crc other cleared bytes place same) ∙ is.bit in
      let apart : other % 8 ≢ crc % 8 = λ low. suc-ne-zero 0 (sym still ∙ ap (bit_at cleared) low ∙ bit_at_clear_same w8 byte (crc % 8) (omega arith)) in
      record { bit = here shift crc other bytes same ∙ sym (bit_at_clear_other w8 byte (crc % 8) (omega arith) (other % 8) (omega arith) apart) ∙ still }
  | inr apart ↦ record { bit = sym (elsewhere shift crc other _ bytes apart) ∙ is.bit }
]

-- the union of two bytes is odd if one of them is
either : (a b : ℕ) → (a % 2 ≡ 1) ⊎ (b % 2 ≡ 1) → bit_or a b % 2 ≡ 1
either a b has = grind (arith, bit_at_or a b 0)

-- and that of four
pub one_of_four : (P : ℕ → Type 0) (a b c d : ℕ) → (P 0 → a % 2 ≡ 1) → (P 1 → b % 2 ≡ 1) → (P 2 → c % 2 ≡ 1) → (P 3 → d % 2 ≡ 1) → (k : ℕ) → k < 4 → P k → bit_or (bit_or a b) (bit_or c d) % 2 ≡ 1
one_of_four P a b c d first second third fourth zero low is = either (bit_or a b) (bit_or c d) (inl (either a b (inl (first is))))
one_of_four P a b c d first second third fourth (suc zero) low is = either (bit_or a b) (bit_or c d) (inl (either a b (inr (second is))))
one_of_four P a b c d first second third fourth (suc (suc zero)) low is = either (bit_or a b) (bit_or c d) (inr (either c d (inl (third is))))
one_of_four P a b c d first second third fourth (suc (suc (suc zero))) low is = either (bit_or a b) (bit_or c d) (inr (either c d (inr (fourth is))))
one_of_four P a b c d first second third fourth (suc (suc (suc (suc k)))) low is = absurd (omega (arith, low))

-- what a write of item k leaves of a list that a loop fills
pub ruleset writes = (length-set, below_more, get_or-set_other, get_or-set_same)

-- A search in progress.

first_below-more : (scan : Scan) (o : ℕ) (pair : Pair) → first_below scan (o + 1) pair ≡ option_or (first_below scan o pair) (cond (is_match pair (window_of scan o)) (Some o) None)
unfolding first_below
first_below-more scan o pair = grind (arith, range-append, find-append)

-- one more offset
pub below-more : (scan : Scan) (o : ℕ) (pair : Pair)
    → answer_below scan (o + 1) pair ≡ after_window (is_match pair (window_of scan o)) (position_in (length scan.earlier.now) o) (answer_below scan o pair)
below-more scan o pair =
    ap (λ f. option_or (earlier_answer scan pair) (option_map (position_in (length scan.earlier.now)) f)) (first_below-more scan o pair)
    ∙ step (earlier_answer scan pair) (first_below scan o pair) (is_match pair (window_of scan o))
  where
    step : (before : Option Position) (below : Option ℕ) (m : Bool)
        → option_or before (option_map (position_in (length scan.earlier.now)) (option_or below (cond m (Some o) None)))
        ≡ after_window m (position_in (length scan.earlier.now) o) (option_or before (option_map (position_in (length scan.earlier.now)) below))
    step (Some x) below m = refl
    step None (Some x) m = refl
    step None None true = refl
    step None None false = refl

-- a found position stays as it is
pub settled_some : (scan : Scan) (pair : Pair) (candidates : List Candidate) (x : Position) → after_candidates scan pair candidates (Some x) ≡ Some x
unfolding after_candidates
settled_some scan pair [] x = refl
settled_some scan pair (candidate ∷ rest) x = settled_some scan pair rest x

settled_open : (scan : Scan) (pair : Pair) (candidates : List Candidate) (answer : Option Position) → after_candidates scan pair candidates answer ≡ None → answer ≡ None
settled_open scan pair candidates None is = refl
settled_open scan pair candidates (Some x) is = sym (settled_some scan pair candidates x) ∙ is

pub none_settled : (scan : Scan) (pair : Pair) (candidates : List Candidate) (answer : Option Position) → length candidates ≡ 0 → after_candidates scan pair candidates answer ≡ answer
unfolding after_candidates
none_settled scan pair [] answer none = refl
none_settled scan pair (candidate ∷ rest) answer none = absurd (omega (arith, none))

-- one more candidate after the others
settled_more : (scan : Scan) (pair : Pair) (candidates : List Candidate) (candidate : Candidate) (answer : Option Position) → after_candidates scan pair (candidates ++ candidate ∷ []) answer ≡ after_window (is_match pair (window_of scan candidate.position.offset)) candidate.position (after_candidates scan pair candidates answer)
unfolding after_candidates
settled_more scan pair candidates candidate answer = fold-append (λ (so_far : Option Position) (c : Candidate). after_window (is_match pair (window_of scan c.position.offset)) c.position so_far) answer candidates (candidate ∷ [])

-- candidate k before those after it
pub settled_from : (scan : Scan) (pair : Pair) (candidates : List Candidate) (k : ℕ) (answer : Option Position) → k < length candidates →
    after_candidates scan pair (drop k candidates) answer ≡ after_candidates scan pair (drop (k + 1) candidates) (after_window (is_match pair (window_of scan (candidate_at candidates k).position.offset)) (candidate_at candidates k).position answer)
unfolding after_candidates
settled_from scan pair candidates k answer inside = ap (λ cs. after_candidates scan pair cs answer) (drop_more candidates k no_candidate inside)

-- a position stays if the pair is found or the window doesn't match
pub stays : (m : Bool) (position : Position) (old : Option Position) → (old ≡ None → m ≡ false) → old ≡ after_window m position old
stays m position None fails = ap (λ b. cond b (Some position) None) (sym (fails refl))
stays m position (Some x) fails = refl

-- the same if it may have been set before
kept : (m : Bool) (position : Position) (old now : Option Position) → (now ≡ old) ⊎ (now ≡ after_window m position old) → (now ≡ None → m ≡ false) → now ≡ after_window m position old
kept m position old now (inl same) fails = same ∙ stays m position old (λ none. fails (same ∙ none))
kept m position old now (inr done) fails = done

was_open : (m : Bool) (position : Position) (old now : Option Position) → (now ≡ old) ⊎ (now ≡ after_window m position old) → now ≡ None → old ≡ None
was_open m position old now either none = grind (arith)

pub no_crc : (pair : Pair) (md5 : List ℕ) (crc : ℕ) → (pair.1 ≡ crc → ⊥) → has_checksums md5 crc pair ≡ false
no_crc pair md5 crc other = and_left (crc == pair.1) _ (ne_eqb crc pair.1 (λ same. other (sym same)))

-- a window is passed over
pub passed-one : (scan : Scan) (o : ℕ) (found : List (Option Position)) (left : ℕ) (filter : Groups) (batch : List Candidate) → IsScannedTo scan o found left filter batch → AreAnswered scan o (crc_of scan o) → IsScannedTo scan (o + 1) found left filter batch
passed-one scan o found left filter batch at have = record {
  tally = at.tally;
  answers = λ i h.
      let pair : Pair = pair_at scan.wanted.now i in
      at.answers i h
      ∙ stays (is_match pair (window_of scan o)) (position_in (length scan.earlier.now) o) (answer_below scan o pair)
      (λ none. no_crc pair _ (crc_of scan o) (λ same. have i h same none))
      ∙ sym (below-more scan o pair);
  candidates = at.candidates;
}

-- what the search has found so far is below the offset
pub answered : (scan : Scan) (o : ℕ) (found : List (Option Position)) (left : ℕ) (filter : Groups) (batch : List Candidate) (crc : ℕ) → IsScannedTo scan o found left filter batch → HaveAnswers scan.wanted.now found crc → AreAnswered scan o crc
answered scan o found left filter batch crc at have i h its none =
    have i h its (settled_open scan (pair_at scan.wanted.now i) batch (answer_at found i) (at.answers i h ∙ none))

pub no_more : (scan : Scan) (o : ℕ) (found : List (Option Position)) (left : ℕ) (filter : Groups) (batch : List Candidate) (crc : ℕ) → IsScannedTo scan o found left filter batch → crc ≡ crc_of scan o → HaveAnswers scan.wanted.now found crc → IsScannedTo scan (o + 1) found left filter batch
no_more scan o found left filter batch crc at is have =
    passed-one scan o found left filter batch at (answered scan o found left filter batch (crc_of scan o) at (subst (HaveAnswers scan.wanted.now found) is have))

none_counted : (X : Type 0) (p : X → Bool) (xs : List X) (i : ℕ) (d : X) → count_by p xs ≡ 0 → i < length xs → p (get_or xs i d) ≡ true → ⊥
none_counted X p xs i d none h holds =
    let weight : X → ℕ = λ x. cond (p x) 1 0 in omega (arith, get_or-le-sum_by weight xs i d h, ap {B = ℕ} (λ b. cond b 1 0) holds, none)

-- no open pair has a checksum of a group that isn't in the filter
pub unmarked : (pairs : List Pair) (found : List (Option Position)) (left : ℕ) (filter : Groups) (crc : ℕ) → IsTally pairs found left filter → (Includes filter crc → ⊥) → HaveAnswers pairs found crc
unmarked pairs found left filter crc tally not_included i h same none = not_included (subst (λ (c : ℕ). Includes filter c) same (tally.included i h none))

-- no open pair has this checksum
pub unawaited : (pairs : List Pair) (found : List (Option Position)) (crc : ℕ) (group : List PairPlace) → HoldsGroup pairs crc group → count_by (is_awaited crc found) group ≡ 0 → HaveAnswers pairs found crc
unawaited pairs found crc group holds closed i h its none =
    let place = holds.whole i h (ap (λ c. c / 2 ^ 17) its) in
    let crc_is : (pair_place_at group place.0).crc ≡ crc = sym (holds.each place.0 place.1).1 ∙ ap (λ j. (pair_at pairs j).1) place.2 ∙ its in
    let unanswered : answer_at found (pair_place_at group place.0).index ≡ None = ap (answer_at found) place.2 ∙ none in
    none_counted PairPlace (is_awaited crc found) group place.0 no_place closed place.1
    (ap (λ b. b && is_none (answer_at found (pair_place_at group place.0).index)) (eq-eqb (pair_place_at group place.0).crc crc crc_is) ∙ ap is_none unanswered)

-- each pair that has this checksum is found
pub all_answered : (pairs : List Pair) (found : List (Option Position)) (crc : ℕ) (group : List PairPlace) → HoldsGroup pairs crc group → HaveAnswers pairs found crc → count_by (is_awaited crc found) group ≡ 0
all_answered pairs found crc group holds have =
    eqb-true _ 0 (sum_by-zero (λ place. cond (is_awaited crc found place) 1 0) group ∙ list_all-from_AllPass _ group (All-from_get_or (λ place. cond (is_awaited crc found place) 1 0 == 0 ≡ true) group no_place (λ k h.
    let place : PairPlace = pair_place_at group k in
    let its = holds.each k h in
    ap (λ b. cond b 1 0 == 0) (false_from_ne_true (is_awaited crc found place) (λ pending.
    let parts = and_parts (place.crc == crc) (is_none (answer_at found place.index)) pending in
    have place.index its.0 (its.1 ∙ eqb-true _ _ parts.0) (none_from (answer_at found place.index) parts.1))))))

-- the checksums are those of a window
pub matches : (scan : Scan) (o : ℕ) (digest : List ℕ) (crc : ℕ) (pair : Pair) → digest ≡ md5 (window_of scan o) → crc ≡ crc_of scan o → has_checksums digest crc pair ≡ is_match pair (window_of scan o)
matches scan o digest crc pair digest_is crc_is = rw (digest_is, crc_is) refl

-- the window at the offset has been compared, and the batch is empty
pub compared : (scan : Scan) (o : ℕ) (old new : List (Option Position)) (left after : ℕ) (filter included : Groups) (batch : List Candidate) (digest : List ℕ) (crc : ℕ) → IsScannedTo scan o old left filter batch → batch ≡ [] → digest ≡ md5 (window_of scan o) → crc ≡ crc_of scan o → IsTally scan.wanted.now new after included →
    ((i : ℕ) → i < length scan.wanted.now → answer_at new i ≡ after_window (has_checksums digest crc (pair_at scan.wanted.now i)) (position_in (length scan.earlier.now) o) (answer_at old i)) →
    IsScannedTo scan (o + 1) new after included batch
compared scan o old new left after filter included batch digest crc at empty digest_is crc_is tally all = record {
  tally = tally;
  answers = λ i h.
      let pair : Pair = pair_at scan.wanted.now i in
      let position : Position = position_in (length scan.earlier.now) o in
      let none : (answer : Option Position) → after_candidates scan pair batch answer ≡ answer = λ answer. none_settled scan pair batch answer (ap length empty) in
      none (answer_at new i)
      ∙ all i h
      ∙ ap (λ b. after_window b position (answer_at old i)) (matches scan o digest crc pair digest_is crc_is)
      ∙ ap (after_window (is_match pair (window_of scan o)) position) (sym (none (answer_at old i)) ∙ at.answers i h)
      ∙ sym (below-more scan o pair);
  candidates = at.candidates;
}

-- the window at the offset is added to the candidates
pub pushed : (scan : Scan) (o crc : ℕ) (found : List (Option Position)) (left : ℕ) (filter : Groups) (batch : List Candidate) → IsScannedTo scan o found left filter batch → IsWhole scan o → crc ≡ crc_of scan o → IsScannedTo scan (o + 1) found left filter (batch ++ record { position = position_in (length scan.earlier.now) o; crc = crc } ∷ [])
pushed scan o crc found left filter batch at whole crc_is = record {
  tally = at.tally;
  answers = λ i h.
      let pair : Pair = pair_at scan.wanted.now i in
      settled_more scan pair batch candidate (answer_at found i)
      ∙ ap (after_window (is_match pair (window_of scan o)) candidate.position) (at.answers i h)
      ∙ sym (below-more scan o pair);
  candidates = All-push (IsWindow scan) batch candidate at.candidates (record { whole = whole; crc = crc_is });
}
  where
    candidate : Candidate
    candidate = record { position = position_in (length scan.earlier.now) o; crc = crc }

-- the candidates have been compared
pub emptied : (scan : Scan) (o : ℕ) (old new : List (Option Position)) (left after : ℕ) (filter included : Groups) (candidates rest : List Candidate) → IsScannedTo scan o old left filter candidates → IsTally scan.wanted.now new after included → rest ≡ [] →
    ((i : ℕ) → i < length scan.wanted.now → answer_at new i ≡ after_candidates scan (pair_at scan.wanted.now i) candidates (answer_at old i)) →
    IsScannedTo scan o new after included rest
emptied scan o old new left after filter included candidates rest at tally empty all = record {
  tally = tally;
  answers = λ i h.
      none_settled scan (pair_at scan.wanted.now i) rest (answer_at new i) (ap length empty)
      ∙ all i h
      ∙ at.answers i h;
  candidates = λ k d h. absurd (omega (arith, h, ap length empty));
}

-- an open pair isn't in a group whose pairs are all found
pub not_closed : (shift : ℕ) (pairs : List Pair) (found : List (Option Position)) (crc : ℕ) (group : List PairPlace) → shift ≤ 17 → HoldsGroup pairs crc group → ((k : ℕ) → k < length group → AreAlike shift crc (pair_place_at group k).crc → answer_at found (pair_place_at group k).index ≡ None → ⊥)
    → (i : ℕ) → i < length pairs → answer_at found i ≡ None → AreAlike shift crc (pair_at pairs i).1 → ⊥
not_closed shift pairs found crc group fine holds closed i h none same =
    let coarser : (c : ℕ) → c / 2 ^ shift / 2 ^ (17 - shift) ≡ c / 2 ^ 17 = λ c. shr-shr c shift (17 - shift) ∙ ap (λ n. c / 2 ^ n) (let e : shift + (17 - shift) ≡ 17 = omega (arith, fine) in e) in
    let place = holds.whole i h (sym (coarser (pair_at pairs i).1) ∙ ap (λ b. b / 2 ^ (17 - shift)) same.0 ∙ coarser crc) in
    let its : (pair_place_at group place.0).crc ≡ (pair_at pairs i).1 = sym (holds.each place.0 place.1).1 ∙ ap (λ j. (pair_at pairs j).1) place.2 in
    closed place.0 place.1 (subst (AreAlike shift crc) (sym its) same) (ap (answer_at found) place.2 ∙ none)

-- a pair that keeps a group in the filter is of that group
pub waiting_pair : (shift : ℕ) (pairs : List Pair) (found : List (Option Position)) (crc : ℕ) (group : List PairPlace) → HoldsGroup pairs crc group → (k : ℕ) → k < length group → AreAlike shift crc (pair_place_at group k).crc → answer_at found (pair_place_at group k).index ≡ None
    → (other : ℕ) → AreAlike shift crc other → IsOfOpenPair shift pairs found other
waiting_pair shift pairs found crc group holds k h same none other alike =
    let place : PairPlace = pair_place_at group k in
    let its = holds.each k h in
    (place.index, its.0, none, subst (λ (c : ℕ). AreAlike shift c other) (sym its.1) (alike.0 ∙ sym same.0, alike.1 ∙ sym same.1))

pub included_alike : (groups : Groups) (crc other : ℕ) → AreAlike groups.shift crc other → Includes groups other → Includes groups crc
included_alike groups crc other alike is = record { bit = rw (← alike.0, ← alike.1) is.bit }

-- the checksum is of the group of a pair
abbrev IsOfPair : ℕ → List Pair → ℕ → Type 0
IsOfPair shift pairs crc = (i : ℕ) × (i < length pairs) × AreAlike shift (pair_at pairs i).1 crc

-- the checksums of the first n pairs were added to an empty filter
pub record IsFilled (pairs : List Pair) (n : ℕ) (filter : Groups) : Type 0 where
  pub included : (k : ℕ) → k < n → Includes filter (pair_at pairs k).1
  pub only : (crc : ℕ) → Includes filter crc → IsOfPair filter.shift pairs crc
  pub fine : filter.shift ≤ 17

-- one more checksum is added
pub filled_more : (pairs : List Pair) (n : ℕ) (before after : Groups) → IsFilled pairs n before → n < length pairs → (crc : ℕ)
    → after.shift ≡ before.shift → Includes after crc → ((other : ℕ) → Includes before other → Includes after other)
    → ((other : ℕ) → Includes after other → AreAlike before.shift crc other ⊎ Includes before other)
    → crc ≡ (pair_at pairs n).1 → IsFilled pairs (n + 1) after
filled_more pairs n before after filled low crc shift included kept only its = record {
  included = below_more (λ k. Includes after (pair_at pairs k).1) n (λ k h. kept (pair_at pairs k).1 (filled.included k h)) (subst (λ (c : ℕ). Includes after c) its included);
  only = λ other is. subst (λ (shift : ℕ). IsOfPair shift pairs other) (sym shift)
      (elim (only other is) [
        | inl alike ↦ (n, low, subst (λ (c : ℕ). AreAlike before.shift c other) its alike)
        | inr old ↦ filled.only other old
      ]);
  fine = omega (arith, shift, filled.fine);
}

-- before the first buffer
pub none_answered : (pairs : List Pair) (found : List (Option Position)) (left : ℕ) (filter : Groups) → found ≡ replicate (length pairs) None → left ≡ length pairs → IsFilled pairs (length pairs) filter → IsTally pairs found left filter
none_answered pairs found left filter found_is left_is filled = record {
  len = ap length found_is ∙ length-replicate (length pairs) None;
  count = rw (found_is, sum_by-replicate (λ (x : Option Position). cond (is_none x) 1 0) (length pairs) None) (omega (arith, left_is));
  included = λ i h none. filled.included i h;
  only = λ crc is.
      let its = filled.only crc is in
      (its.0, its.1, ap (λ f. answer_at f its.0) found_is ∙ replicate_at (length pairs) its.0 None, its.2);
  fine = filled.fine;
}

abbrev pub bytes_of : Bor (List ℕ) → List ℕ
bytes_of bytes = bytes.now

-- before the first offset
pub at_start : (scan : Scan) (found : List (Option Position)) (left : ℕ) (filter : Groups) (batch : List Candidate) → IsTally scan.wanted.now found left filter → ((i : ℕ) → i < length scan.wanted.now → answer_at found i ≡ earlier_answer scan (pair_at scan.wanted.now i)) → batch ≡ [] → IsScannedTo scan 0 found left filter batch
unfolding first_below
at_start scan found left filter batch tally before empty = record {
  tally = tally;
  answers = λ i h.
      let pair : Pair = pair_at scan.wanted.now i in
      none_settled scan pair batch (answer_at found i) (ap length empty) ∙ before i h ∙ or_nothing (earlier_answer scan pair);
  candidates = λ k d h. absurd (omega (arith, h, ap length empty));
}

-- if no pair is open, no further offset changes a position
pub none_left : (scan : Scan) (o n end : ℕ) (found : List (Option Position)) (left : ℕ) (filter : Groups) (batch : List Candidate) → IsScannedTo scan o found left filter batch → left ≡ 0 → o + n ≡ end → IsScannedTo scan end found left filter batch
none_left scan o zero end found left filter batch at none is =
    subst (λ (k : ℕ). IsScannedTo scan k found left filter batch) (let e : o ≡ end = omega (arith, is) in e) at
none_left scan o (suc n) end found left filter batch at none is =
    subst (λ (k : ℕ). IsScannedTo scan k found left filter batch) (let e : o + n + 1 ≡ end = omega (arith, is) in e)
    (no_more scan (o + n) found left filter batch (crc_of scan (o + n)) (none_left scan o n (o + n) found left filter batch at none refl) refl
    (λ i h same none_yet. none_counted (Option Position) is_none found i None (sym at.tally.count ∙ none) (omega (arith, h, at.tally.len)) (ap is_none none_yet)))

-- at the end, with an empty batch
finished : (scan : Scan) (found : List (Option Position)) (left : ℕ) (filter : Groups) (batch : List Candidate) (i : ℕ) → IsScannedTo scan (length scan.bytes.now) found left filter batch → batch ≡ [] → i < length scan.wanted.now
    → answer_at found i ≡ option_or (earlier_answer scan (pair_at scan.wanted.now i)) (option_map (position_in (length scan.earlier.now)) (first_match scan.rolling.now.size scan.bytes.now (pair_at scan.wanted.now i)))
unfolding first_below
finished scan found left filter batch i at empty inside =
    sym (none_settled scan (pair_at scan.wanted.now i) batch (answer_at found i) (ap length empty)) ∙ at.answers i inside

-- one more buffer
first_position-more : (n s : ℕ) (buffers : List (List ℕ)) (bytes : List ℕ) (pair : Pair)
    → first_position_from n s (buffers ++ bytes ∷ []) pair ≡ option_or (first_position_from n s buffers pair) (option_map (position_in (n + length buffers)) (first_match s bytes pair))
first_position-more n s [] bytes pair =
    sym (or_nothing (option_map (position_in n) (first_match s bytes pair)))
    ∙ ap (λ k. option_map (position_in k) (first_match s bytes pair)) (let e : n ≡ n + 0 = omega arith in e)
first_position-more n s (t ∷ buffers) bytes pair = rw (let e : n + suc (length buffers) ≡ n + 1 + length buffers = omega arith in e) (grind (arith, or_or, first_position-more (n + 1) s buffers bytes pair))
  where
    or_or : {A : Type 0} (a b c : Option A) → option_or a (option_or b c) ≡ option_or (option_or a b) c
    or_or None b c = refl
    or_or (Some x) b c = refl

-- one more buffer has been searched
pub bytes_done : (scan : Scan) (found : List (Option Position)) (left : ℕ) (filter : Groups) (batch : List Candidate) (i : ℕ) → IsScannedTo scan (length scan.bytes.now) found left filter batch → batch ≡ [] → i < length scan.wanted.now
    → answer_at found i ≡ first_position scan.rolling.now.size (map bytes_of scan.earlier.now ++ scan.bytes.now ∷ []) (pair_at scan.wanted.now i)
bytes_done scan found left filter batch i at empty inside =
    let pair : Pair = pair_at scan.wanted.now i in
    finished scan found left filter batch i at empty inside
    ∙ ap (λ n. option_or (earlier_answer scan pair) (option_map (position_in n) (first_match scan.rolling.now.size scan.bytes.now pair))) (let e : length scan.earlier.now ≡ 0 + length (map bytes_of scan.earlier.now) = omega (arith, length-map scan.earlier.now bytes_of) in e)
    ∙ sym (first_position-more 0 scan.rolling.now.size (map bytes_of scan.earlier.now) scan.bytes.now pair)

-- the positions once each buffer has been searched
pub all_done : (s : ℕ) (buffers : List (List ℕ)) (pairs : List Pair) (found : List (Option Position)) → length found ≡ length pairs → ((i : ℕ) → i < length pairs → answer_at found i ≡ first_position s buffers (pair_at pairs i)) → found ≡ map (first_position s buffers) pairs
all_done s buffers pairs found size each = ext_get_or None found (map (first_position s buffers) pairs) (omega (arith, length-map pairs (first_position s buffers))) (λ i h. grind (arith, each, length-map, get_or-map))

-- the invariant of the loop over the first n places of a group
pub record Settled (pairs : List Pair) (md5 : List ℕ) (crc : ℕ) (position : Position) (old : List (Option Position)) (group : List PairPlace) (n : ℕ) (found : List (Option Position)) (count : ℕ) : Type 0 where
  pub len : length found ≡ length old
  pub each : (i : ℕ) → i < length pairs → (answer_at found i ≡ answer_at old i) ⊎ (answer_at found i ≡ after_window (has_checksums md5 crc (pair_at pairs i)) position (answer_at old i))
  pub done : (k : ℕ) → k < n → answer_at found (pair_place_at group k).index ≡ after_window (has_checksums md5 crc (pair_at pairs (pair_place_at group k).index)) position (answer_at old (pair_place_at group k).index)
  pub total : count + count_by is_none found ≡ count_by is_none old

pub not_settled : (pairs : List Pair) (md5 : List ℕ) (crc : ℕ) (position : Position) (old : List (Option Position)) (group : List PairPlace) (n : ℕ) (found : List (Option Position)) (count : ℕ) → Settled pairs md5 crc position old group n found count → (pair_place_at group n).index < length pairs → (answer_at found (pair_place_at group n).index ≡ None → has_checksums md5 crc (pair_at pairs (pair_place_at group n).index) ≡ false) → Settled pairs md5 crc position old group (n + 1) found count
not_settled pairs md5 crc position old group n found count so_far inside fails =
    let i : ℕ = (pair_place_at group n).index in
    let m : Bool = has_checksums md5 crc (pair_at pairs i) in
    record {
      len = so_far.len;
      each = so_far.each;
      done = below_more (λ j. answer_at found (pair_place_at group j).index ≡ after_window (has_checksums md5 crc (pair_at pairs (pair_place_at group j).index)) position (answer_at old (pair_place_at group j).index)) n so_far.done
          (kept m position (answer_at old i) (answer_at found i) (so_far.each i inside) fails);
      total = so_far.total;
    }

pub one_settled : (pairs : List Pair) (md5 : List ℕ) (crc : ℕ) (position : Position) (old : List (Option Position)) (group : List PairPlace) (n : ℕ) (found : List (Option Position)) (count : ℕ) → Settled pairs md5 crc position old group n found count → length old ≡ length pairs → (pair_place_at group n).index < length pairs → answer_at found (pair_place_at group n).index ≡ None → has_checksums md5 crc (pair_at pairs (pair_place_at group n).index) ≡ true → Settled pairs md5 crc position old group (n + 1) (set found (pair_place_at group n).index (Some position)) (count + 1)
one_settled pairs md5 crc position old group n found count so_far size inside none match_is =
    let i : ℕ = (pair_place_at group n).index in
    let m : ℕ → Bool = λ j. has_checksums md5 crc (pair_at pairs j) in
    let within : i < length found = omega (arith, inside, size, so_far.len) in
    let new : List (Option Position) = set found i (Some position) in
    let Is : ℕ → Type 0 = λ j. answer_at new j ≡ after_window (m j) position (answer_at old j) in
    let here : Is i = (
    get_or-set_same found i (Some position) None within
    ∙ sym (ap (λ b. after_window b position (answer_at old i)) match_is ∙ ap (λ o. after_window true position o) (was_open (m i) position (answer_at old i) (answer_at found i) (so_far.each i inside) none))
    ) in
    let weight : Option Position → ℕ = λ x. cond (is_none x) 1 0 in
    let weighed : count_by is_none new + weight (answer_at found i) ≡ count_by is_none found + 0 = sum_by-set weight found i (Some position) None within in
    let heavy : weight (answer_at found i) ≡ 1 = ap weight none in
    record {
      len = length-set found i (Some position) ∙ so_far.len;
      each = λ j h. elim (cases_eq j i) [
        | inl same ↦ inr (subst Is (sym same) here)
        | inr other ↦ elim (so_far.each j h) [
          | inl stayed ↦ inl (get_or-set_other found i j (Some position) None other ∙ stayed)
          | inr moved ↦ inr (get_or-set_other found i j (Some position) None other ∙ moved)
        ]
      ];
      done = below_more (λ k. Is (pair_place_at group k).index) n (λ k early. elim (cases_eq (pair_place_at group k).index i) [
        | inl same ↦ subst Is (sym same) here
        | inr other ↦ get_or-set_other found i (pair_place_at group k).index (Some position) None other ∙ so_far.done k early
      ]) here;
      total = omega (arith, weighed, heavy, so_far.total);
    }

-- an open pair of another checksum stays open
still_open : (pair : Pair) (md5 : List ℕ) (crc : ℕ) (position : Position) (old new : Option Position) → (new ≡ old) ⊎ (new ≡ after_window (has_checksums md5 crc pair) position old) → (pair.1 ≡ crc → ⊥) → old ≡ None → new ≡ None
still_open pair md5 crc position old new either other none = grind (arith, no_crc)

-- the tally of the open pairs afterwards; the filter keeps the group if a pair of it is open
pub tally_settled : (pairs : List Pair) (md5 : List ℕ) (crc : ℕ) (position : Position) (old new : List (Option Position)) (left count : ℕ) (filter after : Groups) → IsTally pairs old left filter → length new ≡ length old
    → ((i : ℕ) → i < length pairs → (answer_at new i ≡ answer_at old i) ⊎ (answer_at new i ≡ after_window (has_checksums md5 crc (pair_at pairs i)) position (answer_at old i)))
    → count + count_by is_none new ≡ count_by is_none old
    → ((i : ℕ) → i < length pairs → answer_at new i ≡ None → Includes filter (pair_at pairs i).1 → Includes after (pair_at pairs i).1)
    → after.shift ≡ filter.shift
    → ((other : ℕ) → Includes after other → Includes filter other)
    → ((other : ℕ) → Includes after other → AreAlike filter.shift crc other → IsOfOpenPair filter.shift pairs new other)
    → IsTally pairs new (left - count) after
tally_settled pairs md5 crc position old new left count filter after tally size each total keeps shift fewer pending = record {
  len = size ∙ tally.len;
  count = omega (arith, total, tally.count);
  included = λ i low none. keeps i low none (tally.included i low (was_open (has_checksums md5 crc (pair_at pairs i)) position (answer_at old i) (answer_at new i) (each i low) none));
  only = λ other is.
      let its = tally.only other (fewer other is) in
      let i : ℕ = its.0 in
      subst (λ (shift : ℕ). IsOfOpenPair shift pairs new other) (sym shift)
      (elim (cases_eq (pair_at pairs i).1 crc) [
        | inl same ↦ pending other is (subst (λ (c : ℕ). AreAlike filter.shift c other) same its.3)
        | inr apart ↦ (i, its.1, still_open (pair_at pairs i) md5 crc position (answer_at old i) (answer_at new i) (each i its.1) apart its.2, its.3)
      ]);
  fine = omega (arith, shift, tally.fine);
}

pub has_is : (pair : Pair) (md5 : List ℕ) (crc : ℕ) → pair.1 ≡ crc → bytes_eq md5 pair.0 ≡ true → has_checksums md5 crc pair ≡ true
has_is pair md5 crc same equal = and_from (crc == pair.1) _ (eq-eqb crc pair.1 (sym same)) equal

-- an open pair that doesn't match has another checksum
pub not_awaited : (crc : ℕ) (found : List (Option Position)) (place : PairPlace) (pair : Pair) (md5 : List ℕ) → pair.1 ≡ place.crc → is_awaited crc found place ≡ false → answer_at found place.index ≡ None → has_checksums md5 crc pair ≡ false
not_awaited crc found place pair md5 same pending none =
    no_crc pair md5 crc (λ is. let both : true ≡ false = sym (and_from (place.crc == crc) _ (eq-eqb place.crc crc (sym same ∙ is)) (ap is_none none)) ∙ pending in cc)

pub no_md5 : (pair : Pair) (md5 : List ℕ) (crc : ℕ) → bytes_eq md5 pair.0 ≡ false → has_checksums md5 crc pair ≡ false
no_md5 pair md5 crc differs = and_right (crc == pair.1) _ differs

-- Windows that are passed over, because each pair of their checksums is found.

-- how far a stretch has been searched before row j
pub reached : List Row → ℕ → ℕ
reached rows zero = 0
reached rows (suc j) = (row_at rows j).at + 1

-- a found pair stays found
answered-more : (scan : Scan) (o n : ℕ) (crc : ℕ) → AreAnswered scan o crc → AreAnswered scan (o + n) crc
answered-more scan o zero crc have i h its none =
    have i h its (ap (λ a. answer_below scan a (pair_at scan.wanted.now i)) (let e : o ≡ o + 0 = omega arith in e) ∙ none)
answered-more scan o (suc n) crc have i h its none =
    answered-more scan o n crc have i h its
    (was_none (is_match (pair_at scan.wanted.now i) (window_of scan (o + n))) (position_in (length scan.earlier.now) (o + n)) (answer_below scan (o + n) (pair_at scan.wanted.now i))
    (sym (below-more scan (o + n) (pair_at scan.wanted.now i)) ∙ ap (λ a. answer_below scan a (pair_at scan.wanted.now i)) (let e : o + n + 1 ≡ o + suc n = omega arith in e) ∙ none))
  where
    was_none : (m : Bool) (position : Position) (old : Option Position) → after_window m position old ≡ None → old ≡ None
    was_none m position None nothing = refl
    was_none m position (Some x) nothing = nothing

-- n windows are passed over
passed : (scan : Scan) (from o n : ℕ) (found : List (Option Position)) (left : ℕ) (filter : Groups) (batch : List Candidate) → from ≤ o → IsScannedTo scan o found left filter batch
    → ((d : ℕ) → d < n → AreAnswered scan from (crc_of scan (o + d))) → IsScannedTo scan (o + n) found left filter batch
passed scan from o zero found left filter batch before at have =
    subst (λ a. IsScannedTo scan a found left filter batch) (let e : o ≡ o + 0 = omega arith in e) at
passed scan from o (suc n) found left filter batch before at have =
    let here : o + n ≡ from + (o + n - from) = omega (arith, before) in
    subst (λ a. IsScannedTo scan a found left filter batch) (let e : o + n + 1 ≡ o + suc n = omega arith in e)
    (passed-one scan (o + n) found left filter batch
    (passed scan from o n found left filter batch before at (λ d h. have d (omega (arith, h))))
    (subst (λ a. AreAnswered scan a (crc_of scan (o + n))) (sym here)
    (answered-more scan from (o + n - from) (crc_of scan (o + n)) (have n (omega arith)))))

-- the windows of stretch k from a row up to the next one, or to the end, are passed over
pub passed-to : (scan : Scan) (start len k j m : ℕ) (rows : List Row) (found : List (Option Position)) (left : ℕ) (filter : Groups) (batch : List Candidate)
    → AreCandidateRows scan start len len rows → k < 4 → m ≤ len → reached rows j ≤ m → j ≤ length rows → ((i : ℕ) → j ≤ i → i < length rows → m ≤ (row_at rows i).at)
    → IsScannedTo scan (start + k * len + reached rows j) found left filter batch → IsScannedTo scan (start + k * len + m) found left filter batch
unfolding reached
passed-to scan start len k j m rows found left filter batch are stretch inside from below after at =
    let o : ℕ = start + k * len + reached rows j in
    let n : ℕ = m - reached rows j in
    subst (λ a. IsScannedTo scan a found left filter batch) (let e : o + n ≡ start + k * len + m = omega (arith, from) in e)
    (passed scan start o n found left filter batch (omega arith) at
    (λ d h.
    let row : ℕ = reached rows j + d in
    let low : row < m = omega (arith, h, from) in
    subst (λ a. AreAnswered scan start (crc_of scan a)) (let e : start + k * len + row ≡ o + d = omega arith in e)
    (elim (are.others row (omega (arith, low, inside))) [
      | inl noted ↦ absurd (not_noted rows j row m are.rising below (omega arith) low after noted)
      | inr free ↦ free k stretch
    ])))
  where
    before_reached : (rows : List Row) (j i : ℕ) → ((i j : ℕ) → i < j → j < length rows → (row_at rows i).at < (row_at rows j).at) → j ≤ length rows → i < j → (row_at rows i).at < reached rows j
    before_reached rows zero i rising below early = absurd (omega (arith, early))
    before_reached rows (suc j) i rising below early = grind (arith, rising i j)

    not_noted : (rows : List Row) (j row m : ℕ) → ((i j : ℕ) → i < j → j < length rows → (row_at rows i).at < (row_at rows j).at) → j ≤ length rows → reached rows j ≤ row → row < m → ((i : ℕ) → j ≤ i → i < length rows → m ≤ (row_at rows i).at) → IsNoted rows row → ⊥
    not_noted rows j row m rising below from low after (i, h, is) = grind (arith, before_reached rows j i rising below, after i)

-- a row that isn't recorded
pub skipped : (scan : Scan) (start len at : ℕ) (rows : List Row) → AreCandidateRows scan start len at rows
    → ((k : ℕ) → k < 4 → AreAnswered scan start (crc_of scan (start + k * len + at))) → AreCandidateRows scan start len (at + 1) rows
skipped scan start len at rows are free = record {
  rising = are.rising;
  below = λ j h. omega (arith, are.below j h);
  crcs = are.crcs;
  others = below_more (λ a. IsNoted rows a ⊎ ((k : ℕ) → k < 4 → AreAnswered scan start (crc_of scan (start + k * len + a)))) at are.others (inr free);
}

-- a row that is recorded
pub noted : (scan : Scan) (start len at : ℕ) (crcs : List ℕ) (rows : List Row) → AreCandidateRows scan start len at rows
    → AreCrcs scan.rolling.now.size scan.bytes.now start len at crcs → AreCandidateRows scan start len (at + 1) (rows ++ record { at = at; crcs = crcs } ∷ [])
noted scan start len at crcs rows are its = record {
  rising = λ i j less h. grind (arith, length_push, get_or_append_left, get_or_push, are.rising, are.below);
  below = λ j h. grind (arith, length_push, get_or_append_left, get_or_push, are.below);
  crcs = λ j h. elim (cases_lt j (length rows)) [
    | inl early ↦ subst (λ (r : Row). AreCrcs scan.rolling.now.size scan.bytes.now start len r.at r.crcs) (sym (old j early)) (are.crcs j early)
    | inr late ↦ subst (λ (r : Row). AreCrcs scan.rolling.now.size scan.bytes.now start len r.at r.crcs) (sym (new j h late)) its
  ];
  others = below_more (λ a. IsNoted more a ⊎ ((k : ℕ) → k < 4 → AreAnswered scan start (crc_of scan (start + k * len + a)))) at
      (λ a h. elim (are.others a h) [
        | inl there ↦ inl (there.0, omega (arith, there.1, size), ap (λ (r : Row). r.at) (old there.0 there.1) ∙ there.2)
        | inr free ↦ inr free
      ])
      (inl (length rows, omega (arith, size), ap (λ (r : Row). r.at) (get_or_at rows row [] no_row (length rows) refl)));
}
  where
    row : Row
    row = record { at = at; crcs = crcs }

    more : List Row
    more = rows ++ row ∷ []

    size : length more ≡ length rows + 1
    size = length_push rows row

    old : (j : ℕ) → j < length rows → row_at more j ≡ row_at rows j
    old j h = get_or_append_left rows (row ∷ []) no_row j h

    new : (j : ℕ) → j < length more → length rows ≤ j → row_at more j ≡ row
    new j h late = get_or_at rows row [] no_row j (let e : length rows ≡ j = omega (arith, late, h, size) in e)

-- the checksums of the next row
pub next_row : (scan : Scan) (start len at : ℕ) (crcs after outs nexts : List ℕ) → 1 ≤ scan.rolling.now.size → outs ≡ drop start scan.bytes.now → nexts ≡ drop scan.rolling.now.size outs → AreCrcs scan.rolling.now.size scan.bytes.now start len at crcs
    → ((k : ℕ) → k < 4 → get_or after k 0 ≡ after_slide scan.rolling.now.size (get_or crcs k 0) (get_or outs (k * len + at) 0) (get_or nexts (k * len + at) 0)) → AreCrcs scan.rolling.now.size scan.bytes.now start len (at + 1) after
next_row scan start len at crcs after outs nexts some outs_is nexts_is are each k h =
    let s : ℕ = scan.rolling.now.size in
    let content : List ℕ = scan.bytes.now in
    let o : ℕ = start + k * len + at in
    let out_at : (j : ℕ) → get_or outs j 0 ≡ get_or content (start + j) 0 = λ j. ap (λ bytes. get_or bytes j 0) outs_is ∙ get_or-drop start content j 0 in
    let out_is : get_or outs (k * len + at) 0 ≡ get_or content o 0 = out_at (k * len + at) ∙ ap (λ j. get_or content j 0) (let e : start + (k * len + at) ≡ o = omega arith in e) in
    let next_is : get_or nexts (k * len + at) 0 ≡ get_or content (s + o) 0 = ap (λ bytes. get_or bytes (k * len + at) 0) nexts_is ∙ get_or-drop s outs (k * len + at) 0
    ∙ out_at (s + (k * len + at)) ∙ ap (λ j. get_or content j 0) (let e : start + (s + (k * len + at)) ≡ s + o = omega arith in e) in
    each k h
    ∙ slid_window s content o (get_or crcs k 0) (get_or outs (k * len + at) 0) (get_or nexts (k * len + at) 0) some (are k h) out_is next_is
    ∙ ap (λ a. crc_of scan a) (let e : o + 1 ≡ start + k * len + (at + 1) = omega arith in e)

-- before any of its windows is examined
pub at-start : (scan : Scan) (o : ℕ) (rows : List Row) (found : List (Option Position)) (left : ℕ) (filter : Groups) (batch : List Candidate) → IsScannedTo scan o found left filter batch → IsScannedTo scan (o + reached rows 0) found left filter batch
unfolding reached
at-start scan o rows found left filter batch at = subst (λ a. IsScannedTo scan a found left filter batch) (let e : o ≡ o + 0 = omega arith in e) at

pub after-row : (rows : List Row) (j : ℕ) → reached rows (j + 1) ≡ (row_at rows j).at + 1
unfolding reached
after-row rows j = ap (reached rows) (let e : j + 1 ≡ suc j = omega arith in e)

-- recorded rows are in order
pub no-earlier : (scan : Scan) (start len count : ℕ) (rows : List Row) → AreCandidateRows scan start len count rows → (j : ℕ) → j < length rows → reached rows j ≤ (row_at rows j).at
unfolding reached
no-earlier scan start len count rows are zero h = omega arith
no-earlier scan start len count rows are (suc j) h = let up : (row_at rows j).at < (row_at rows (suc j)).at = are.rising j (suc j) (omega arith) h in omega (arith, up)

-- the last of them is within the stretch
pub within-all : (scan : Scan) (start len count : ℕ) (rows : List Row) → AreCandidateRows scan start len count rows → (j : ℕ) → j ≤ length rows → reached rows j ≤ count
unfolding reached
within-all scan start len count rows are zero h = omega arith
within-all scan start len count rows are (suc j) h = let low : (row_at rows j).at < count = are.below j (omega (arith, h)) in omega (arith, low)

-- the windows of stretch k before row j
pub passed-to-row : (scan : Scan) (start len k j : ℕ) (rows : List Row) (found : List (Option Position)) (left : ℕ) (filter : Groups) (batch : List Candidate) → AreCandidateRows scan start len len rows → k < 4 → j < length rows
    → IsScannedTo scan (start + k * len + reached rows j) found left filter batch → IsScannedTo scan (start + k * len + (row_at rows j).at) found left filter batch
passed-to-row scan start len k j rows found left filter batch are stretch h =
    let low : (row_at rows j).at < len = are.below j h in
    passed-to scan start len k j (row_at rows j).at rows found left filter batch are stretch (omega (arith, low)) (no-earlier scan start len len rows are j h) (omega (arith, h))
    (λ i from inside. grind (arith, are.rising j i))

-- the windows of stretch k after all rows
pub passed-to-end : (scan : Scan) (start len k j : ℕ) (rows : List Row) (found : List (Option Position)) (left : ℕ) (filter : Groups) (batch : List Candidate) → AreCandidateRows scan start len len rows → k < 4 → j ≡ length rows
    → IsScannedTo scan (start + k * len + reached rows j) found left filter batch → IsScannedTo scan (start + (k + 1) * len) found left filter batch
passed-to-end scan start len k j rows found left filter batch are stretch all at =
    let e : start + k * len + len ≡ start + (k + 1) * len = omega arith in
    subst (λ a. IsScannedTo scan a found left filter batch) e
    (passed-to scan start len k j len rows found left filter batch are stretch (omega arith) (within-all scan start len len rows are j (omega (arith, all))) (omega (arith, all))
    (λ i from inside. absurd (omega (arith, all, from, inside))) at)
