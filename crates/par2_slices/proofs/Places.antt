-- The places of the pairs.
use Rattle.par2_slices.proofs.Common.{◌≡◌, ℕ, ◌+◌, ◌-◌, ◌/◌, ◌^◌, ◌<◌, ◌≤◌, List, map, length, take, drop, get_or, refl, subst, sym, ap, ◌∙◌, arith, All, range_with_len, IsPermutation, IsNonDecreasingBy, get_or_default, get_or-take, get_or-drop, length-take-le, length-drop, All-get_or, All-from_get_or, get_or-map-range_with_len, length-map-range_with_len, All-permutation, Contains-permutation, lt_of_not-le, ne_of_lt, Pair, no_place, pair_at, pair_place_at, IsPlace, IsIndex, IsStart, AreStarts, HoldsGroup, PairPlace}

abbrev pub place_of : List Pair → ℕ → PairPlace
place_of pairs i = record { crc = (pair_at pairs i).1; index = i }

place_i : (pairs : List Pair) (i : ℕ) (d : PairPlace) → i < length pairs → get_or (map (place_of pairs) (range_with_len 0 (length pairs))) i d ≡ place_of pairs i
place_i pairs i d below = get_or-map-range_with_len (place_of pairs) 0 (length pairs) i i d below (let e : 0 + i ≡ i = omega arith in e)

-- sorted, these are still the places of all pairs
pub index_of : (pairs : List Pair) (places sorted : List PairPlace) → places ≡ map (place_of pairs) (range_with_len 0 (length pairs)) → IsPermutation places sorted → IsNonDecreasingBy (λ place. place.crc) sorted → IsIndex pairs sorted
index_of pairs places sorted are moved rising =
    let size : length places ≡ length pairs = ap length are ∙ length-map-range_with_len (place_of pairs) 0 (length pairs) in
    let at : (i : ℕ) (d : PairPlace) → i < length pairs → get_or places i d ≡ place_of pairs i = λ i d below. ap (λ ps. get_or ps i d) are ∙ place_i pairs i d below in
    let Its : PairPlace → Type 0 = IsPlace pairs in
    let all : All Its places = All-from_get_or Its places no_place (λ i below. let h : i < length pairs = omega (arith, below, size) in subst Its (sym (at i no_place h)) (h, refl)) in
    let all_sorted : All Its sorted = All-permutation Its places sorted moved all in
    record {
      rising = rising;
      each = λ k below. All-get_or Its sorted k no_place below all_sorted;
      whole = λ i below.
          let x : PairPlace = place_of pairs i in
          let found = Contains-permutation places sorted x moved (i, omega (arith, below, size), at i x below) in
          (found.0, found.1, ap (λ (place : PairPlace). place.index) (get_or_default sorted found.0 no_place x found.1 ∙ found.2));
    }

not_below : (k start : ℕ) → (k < start → ⊥) → start ≤ k
not_below k start h = omega (arith, h)

-- the places of one group are before those of the next
pub in_order : (places : List PairPlace) (group start end : ℕ) → IsStart places group start → IsStart places (group + 1) end → start ≤ end
in_order places group start end first next =
    not_below end start (λ early. omega (arith, first.below end early, next.above end (omega arith) (omega (arith, early, first.bound))))

-- where a group begins and ends, as read from the table
pub ends_of : (places : List PairPlace) (starts : List ℕ) (group start end : ℕ) → AreStarts places starts → group < 2 ^ 15
    → start ≡ get_or starts group start → end ≡ get_or starts (group + 1) end → IsStart places group start × IsStart places (group + 1) end
ends_of places starts group start end are low first next = (begins group start (omega (arith, low)) first, begins (group + 1) end (omega (arith, low)) next)
  where
    begins : (g n : ℕ) → g < 2 ^ 15 + 1 → n ≡ get_or starts g n → IsStart places g n
    begins g n h is = subst (λ (at : ℕ). IsStart places g at) (get_or_default starts g 0 n (omega (arith, h, are.len)) ∙ sym is) (are.each g h)

one_group : (group x : ℕ) → group ≤ x → x < group + 1 → x ≡ group
one_group group x low high = omega (arith, low, high)

-- the places between the starts of a group and of the next
pub group_of : (pairs : List Pair) (places : List PairPlace) (crc start end : ℕ) →
    IsIndex pairs places → IsStart places (crc / 2 ^ 17) start → IsStart places (crc / 2 ^ 17 + 1) end →
    HoldsGroup pairs crc (take (end - start) (drop start places))
group_of pairs places crc start end index first next =
    let group : ℕ = crc / 2 ^ 17 in
    let count : ℕ = end - start in
    let rest : List PairPlace = drop start places in
    let size : length rest ≡ length places - start = length-drop start places in
    let order : start ≤ end = in_order places group start end first next in
    let within : count ≤ length rest = omega (arith, size, next.bound) in
    let taken : length (take count rest) ≡ count = length-take-le count rest within in
    let cut : (k : ℕ) → k < count → pair_place_at (take count rest) k ≡ pair_place_at places (start + k) = λ k h. get_or-take count rest k no_place h ∙ get_or-drop start places k no_place in
    record {
      only = λ k h.
          let low : k < count = omega (arith, h, taken) in
          let inside : start + k < length places = omega (arith, low, next.bound) in
          ap (λ (p : PairPlace). p.crc / 2 ^ 17) (cut k low) ∙ one_group group _ (first.above (start + k) (omega arith) inside) (next.below (start + k) (omega (arith, low)));
      each = λ k h.
          let low : k < count = omega (arith, h, taken) in
          let Its : PairPlace → Type 0 = IsPlace pairs in
          subst Its (sym (cut k low)) (index.each (start + k) (omega (arith, low, next.bound)));
      whole = λ i h same.
          let found = index.whole i h in
          let k : ℕ = found.0 in
          let place : PairPlace = pair_place_at places k in
          let its : place.crc / 2 ^ 17 ≡ group = (
          ap (λ c. c / 2 ^ 17) (sym ((index.each k found.1).1) ∙ ap (λ j. (pair_at pairs j).1) found.2) ∙ same
          ) in
          let from : start ≤ k = not_below k start (λ early. ne_of_lt (first.below k early) its) in
          let until : k < end = lt_of_not-le {n = end} {m = k} (λ late. omega (arith, next.above k late found.1, its)) in
          let low : k - start < count = omega (arith, from, until) in (
            k - start,
            omega (arith, low, taken),
            ap (λ (p : PairPlace). p.index) (cut (k - start) low ∙ ap (pair_place_at places) (let e : start + (k - start) ≡ k = omega (arith, from) in e)) ∙ found.2,
          );
    }
