-- Rows of words: vectors added to them, their columns, runs of rows transformed by halves, and lists of points.
use Rattle.par2_transform.proofs.Common.{replicate, zero, [], inl, inr, ℕ, ◌++◌, ◌+◌, ◌-◌, ◌*◌, ◌/◌, ◌%◌, ◌<◌, ◌≤◌, ◌≡◌, refl, sym, ap, ap₂, ◌∙◌, arith, List, length, length-append, length-take-le, length-drop, length-set, get_or, get_or_past, get_or_append_left, get_or-append_right, get_or-drop, get_or-set_other, get_or-set_same, get_or-take, set, take, drop, bit_xor, AreRewritten, cases_eq, cases_lt, subst, word, word_in, word_of, WordVector, AddsToRun, CopiesVectors, IsButterfly, SameValuesOutside, AreTwoRuns, HaveFirst, suc, ◌^◌, ◌⊎◌, add-mul, one-mul, Vec, Global, xor_zero_l, with_items_is, mul_assoc, mul_comm, within, Grid, column, with_items, GivesElements, AreCopied, AreRows, IsAdded, EachColumn, RunAddedBy, IsRun, pow-suc, pow-le-pow_right, xor_comm, xor_lt, xor_zero_r, xor_self, xor_assoc, xor_off, mul, pow, field_sum, field_sum_same, zero-product, product-one, product_comm, point, vanishing, member, power_sum, ArePowerSums, IsMerged, from, IsListed, AreListedValues, OneRun, length-take, in_vector, combined, IsSplit, IsHalved, IsCombination}
use Rattle.std.proofs.Common.{mul-le-mul_right}
use Rattle.par2_transform.proofs.Additions.{within-in, within-above, within_same, within_zero}
use Rattle.par2_transform.proofs.Subspaces.{point-lt, first_half, second_half, vanishing_on, point_odd, merged_power_sums}
use Rattle.par2_transform.proofs.StepLaws.{combined-lt, combined_same, level_steps, double_power, outside_then, run_fits, same_outside}

abbrev pub none : WordVector
none = record { low = []; high = [] }

pub past_vectors : (vectors : List WordVector) (p : ℕ) → 32 * length vectors ≤ p → word_of vectors p ≡ 0
past_vectors vectors p high = ap (λ v. word_in v (p % 32)) (get_or_past vectors (p / 32) none (omega (arith, high)))

-- the words of one vector are written
pub vector_written : (vectors : List WordVector) (n : ℕ) (v : WordVector) → SameValuesOutside (32 * n) (32 * n + 32) (word_of vectors) (word_of (set vectors n v))
vector_written vectors n v = grind (arith, get_or-set_other)

pub vector_read : (vectors : List WordVector) (n e : ℕ) (v : WordVector) → n < length vectors → e < 32 → word_of (set vectors n v) (32 * n + e) ≡ word_in v e
vector_read vectors n e v inside low = sym (in_vector (set vectors n v) n e low) ∙ ap (λ w. word_in w e) (get_or-set_same vectors n v none inside)

pub vector_added : (vectors : List WordVector) (n : ℕ) (words sum : WordVector) → n < length vectors → ((j : ℕ) → j < 32 → word_in sum j ≡ bit_xor (word_in (get_or vectors n none) j) (word_in words j))
    → AddsToRun (32 * n) 32 (word_in words) (word_of vectors) (word_of (set vectors n sum))
vector_added vectors n words sum inside is = record {
  others = vector_written vectors n sum;
  run = λ e low. vector_read vectors n e sum inside low ∙ is e low ∙ ap (λ x. bit_xor x (word_in words e)) (in_vector vectors n e low);
}

pub rewritten_none : (vectors : List WordVector) → AreRewritten vectors vectors
rewritten_none vectors = record { same_length = refl; fit = λ fits. fits }

pub rewritten_then : (a b d : List WordVector) → AreRewritten a b → AreRewritten b d → AreRewritten a d
rewritten_then a b d first second = record { same_length = second.same_length ∙ first.same_length; fit = λ fits. second.fit (first.fit fits) }

-- a vector is replaced by one whose words fit
pub one_rewritten : (vectors : List WordVector) (n : ℕ) (v : WordVector) → n < length vectors → ((j : ℕ) → word_in v j < 65536) → AreRewritten vectors (set vectors n v)
one_rewritten vectors n v inside fits = record {
  same_length = length-set vectors n v;
  fit = λ old p. elim (cases_eq (p / 32) n) [
    | inl same ↦ subst (λ w. word_in w (p % 32) < 65536) (sym (ap (λ k. get_or (set vectors n v) k none) same ∙ get_or-set_same vectors n v none inside)) (fits (p % 32))
    | inr another ↦ subst (λ w. word_in w (p % 32) < 65536) (sym (get_or-set_other vectors n (p / 32) v none another)) (old p)
  ];
}

-- the first n vectors are copied
pub vectors_copied : (n : ℕ) (src old : List WordVector) → n ≤ length src → n ≤ length old → CopiesVectors n src old (take n src ++ drop n old)
vectors_copied n src old in_src in_old = record {
  same_length = length-append (take n src) (drop n old) ∙ (let e = length-drop n old in omega (arith, front, e, in_old));
  first = λ p low. ap (λ v. word_in v (p % 32)) (get_or_append_left (take n src) (drop n old) none (p / 32) (omega (arith, front, low)) ∙ get_or-take n src (p / 32) none (omega (arith, low)));
  rest = λ p high.
      ap (λ v. word_in v (p % 32))
      (get_or-append_right (take n src) (drop n old) n (p / 32) none front (omega (arith, high)) ∙ get_or-drop n old (p / 32 - n) none
      ∙ ap (λ k. get_or old k none) (let e : n + (p / 32 - n) ≡ p / 32 = omega (arith, high) in e));
}
  where
    front : length (take n src) ≡ n
    front = length-take-le n src in_src

-- ---- runs of words

-- word e of the bytes of vector k
pub word_at : (k e : ℕ) (bytes : List ℕ) → word e (drop (64 * k) bytes) ≡ word (32 * k + e) bytes
word_at k e bytes = grind (arith, get_or-drop)

pub run_none : (to : ℕ) (other f : ℕ → ℕ) → AddsToRun to 0 other f f
run_none to other f = record { others = record { below = λ u l. refl; above = λ u l. refl }; run = λ e l. absurd (omega (arith, l)) }

-- one more vector
pub run_next : (to k : ℕ) {other f g h : ℕ → ℕ} (words : ℕ → ℕ) → AddsToRun (32 * to) (32 * k) other f g → AddsToRun (32 * (to + k)) 32 words g h → ((e : ℕ) → e < 32 → words e ≡ other (32 * k + e))
    → AddsToRun (32 * to) (32 * (k + 1)) other f h
run_next to k {other = other} {f = f} {g = g} {h = h} words first second is = record {
  others = record {
    below = λ u l. second.others.below u (omega (arith, l)) ∙ first.others.below u l;
    above = λ u l. second.others.above u (omega (arith, l)) ∙ first.others.above u (omega (arith, l));
  };
  run = λ e l. elim (cases_lt e (32 * k)) [
    | inl low ↦ second.others.below (32 * to + e) (omega (arith, low)) ∙ first.run e low
    | inr high ↦
        let at : 32 * to + e ≡ 32 * (to + k) + (e - 32 * k) = omega (arith, high) in
        let back : 32 * k + (e - 32 * k) ≡ e = omega (arith, high) in
        ap h at ∙ second.run (e - 32 * k) (omega (arith, high, l))
        ∙ ap₂ bit_xor (ap g (sym at) ∙ first.others.above (32 * to + e) (omega (arith, high))) (is (e - 32 * k) (omega (arith, high, l)) ∙ ap other back)
  ];
}

pub butterfly_none : (k : ℕ → ℕ) (low high : ℕ) (f : ℕ → ℕ) → IsButterfly k low high 0 f f
butterfly_none k low high f = record { below = λ u l. refl; between = λ u l m. refl; above = λ u l. refl; lower = λ e l. absurd (omega (arith, l)); upper = λ e l. absurd (omega (arith, l)) }

-- the butterfly of n values, and then that of the m values after them
pub butterfly_next : {k : ℕ → ℕ} {low high n m : ℕ} {f g h : ℕ → ℕ} → IsButterfly k low high n f g → IsButterfly k (low + n) (high + n) m g h → low + n + m ≤ high → IsButterfly k low high (n + m) f h
butterfly_next {k = k} {low = low} {high = high} {n = n} {m = m} {f = f} {g = g} {h = h} first second order = record {
  below = λ u l. second.below u (omega (arith, l)) ∙ first.below u l;
  between = λ u l r. second.between u (omega (arith, l)) (omega (arith, r)) ∙ first.between u (omega (arith, l)) r;
  above = λ u l. second.above u (omega (arith, l)) ∙ first.above u (omega (arith, l));
  lower = λ e l. elim (cases_lt e n) [
    | inl here ↦ second.below (low + e) (omega (arith, here)) ∙ first.lower e here
    | inr past ↦
        let at_low : low + e ≡ low + n + (e - n) = omega (arith, past) in
        let at_high : high + n + (e - n) ≡ high + e = omega (arith, past) in
        ap h at_low ∙ second.lower (e - n) (omega (arith, past, l))
        ∙ ap₂ (λ x y. bit_xor x (k y)) (ap g (sym at_low) ∙ first.between (low + e) (omega (arith, past)) (omega (arith, l, order))) (ap g at_high ∙ first.above (high + e) (omega (arith, past)))
  ];
  upper = λ e l. elim (cases_lt e n) [
    | inl here ↦
        second.between (high + e) (omega (arith, order)) (omega (arith, here)) ∙ first.upper e here
        ∙ ap (bit_xor (f (high + e))) (sym (second.below (low + e) (omega (arith, here))))
    | inr past ↦
        let at_low : low + n + (e - n) ≡ low + e = omega (arith, past) in
        let at_high : high + e ≡ high + n + (e - n) = omega (arith, past) in
        ap h at_high ∙ second.upper (e - n) (omega (arith, past, l))
        ∙ ap₂ bit_xor (ap g (sym at_high) ∙ first.above (high + e) (omega (arith, past))) (ap h at_low)
  ];
}

-- Rows and their columns.

pub each_start : (relation : (ℕ → ℕ) → (ℕ → ℕ) → Type 0) (a : Grid) → ((f : ℕ → ℕ) → relation f f) → EachColumn relation a a
each_start relation a start = record { levels = refl; words = refl; columns = λ c h. start (column a c) }

pub each_then : {first second both : (ℕ → ℕ) → (ℕ → ℕ) → Type 0} {a b d : Grid} → EachColumn first a b → EachColumn second b d → ((f g h : ℕ → ℕ) → first f g → second g h → both f h) → EachColumn both a d
each_then {a = a} {b = b} {d = d} one two join = record {
  levels = two.levels ∙ one.levels;
  words = two.words ∙ one.words;
  columns = λ c h. join (column a c) (column b c) (column d c) (one.columns c h) (two.columns c (subst (λ n. c < n) (sym one.words) h));
}

pub each_so : {first second : (ℕ → ℕ) → (ℕ → ℕ) → Type 0} {a b : Grid} → EachColumn first a b → ((f g : ℕ → ℕ) → first f g → second f g) → EachColumn second a b
each_so {a = a} {b = b} one so = record { levels = one.levels; words = one.words; columns = λ c h. so (column a c) (column b c) (one.columns c h) }

pub each_then_two : {first second third both : (ℕ → ℕ) → (ℕ → ℕ) → Type 0} {a b d e : Grid} → EachColumn first a b → EachColumn second b d → EachColumn third d e
    → ((f g k h : ℕ → ℕ) → first f g → second g k → third k h → both f h) → EachColumn both a e
each_then_two {a = a} {b = b} {d = d} {e = e} one two three join = record {
  levels = three.levels ∙ two.levels ∙ one.levels;
  words = three.words ∙ two.words ∙ one.words;
  columns = λ c h.
      let h2 : c < b.words = subst (λ n. c < n) (sym one.words) h in
      join (column a c) (column b c) (column d c) (column e c) (one.columns c h) (two.columns c h2) (three.columns c (subst (λ n. c < n) (sym two.words) h2));
}

-- nothing changes
pub each_unchanged : (relation : (ℕ → ℕ) → (ℕ → ℕ) → Type 0) (a : Grid) → ((c : ℕ) → relation (column a c) (column a c)) → EachColumn relation a a
each_unchanged relation a same = record { levels = refl; words = refl; columns = λ c h. same c }

-- the same for the columns of these rows alone
pub each_of : {first second both : (ℕ → ℕ) → (ℕ → ℕ) → Type 0} {a b d : Grid} → EachColumn first a b → EachColumn second b d
    → ((c : ℕ) → first (column a c) (column b c) → second (column b c) (column d c) → both (column a c) (column d c)) → EachColumn both a d
each_of one two join = grind arith

-- ---- words added to rows

-- the first word of row u, and of the row after it
pub row_after : (u words : ℕ) → suc u * words ≡ u * words + words
row_after u words = ap (λ v. v * words) (let s : suc u ≡ u + 1 = omega arith in s) ∙ add-mul u 1 words ∙ ap (λ v. u * words + v) (one-mul words)

pub rows_below : (u n words : ℕ) → u < n → u * words + words ≤ n * words
rows_below u n words h =
    let fits : suc u * words ≤ n * words = mul-le-mul_right words (let s : suc u ≤ n = omega arith in s) in
    let next : suc u * words ≡ u * words + words = row_after u words in
    omega (arith, fits, next)

-- the words of some rows of whole vectors
pub row_words : (u width : ℕ) → 32 * (u * width) ≡ u * (32 * width)
row_words u width = sym (mul_assoc 32 u width) ∙ ap (λ k. k * width) (mul_comm 32 u) ∙ mul_assoc u 32 width

-- some rows lie within the vectors
pub rows_fit : (levels width at n : ℕ) (vectors : List WordVector) → AreRows levels width vectors → at + n ≤ 2 ^ levels → at * width + n * width ≤ length vectors
rows_fit levels width at n vectors are fits =
    let most : (at + n) * width ≤ 2 ^ levels * width = mul-le-mul_right width fits in
    let sum : (at + n) * width ≡ at * width + n * width = add-mul at n width in
    omega (arith, most, sum, are.count)

-- a run of rows that ends before another row
pub rows_before : (width from to n : ℕ) → from + n ≤ to → from * width + n * width ≤ to * width
rows_before width from to n before = let less : (from + n) * width ≤ to * width = mul-le-mul_right width before in let sum : (from + n) * width ≡ from * width + n * width = add-mul from n width in omega (arith, less, sum)

rows_apart : (width from to n : ℕ) → (from + n ≤ to) ⊎ (to + n ≤ from) → (from * width + n * width ≤ to * width) ⊎ (to * width + n * width ≤ from * width)
rows_apart width from to n (inl before) = inl (rows_before width from to n before)
rows_apart width from to n (inr after) = inr (rows_before width to from n after)

-- runs of rows, as vectors
pub row_runs : (levels width from to n : ℕ) (vectors : List WordVector) → AreRows levels width vectors → AreTwoRuns (2 ^ levels) from to n → AreTwoRuns (length vectors) (from * width) (to * width) (n * width)
row_runs levels width from to n vectors are runs =
    record {
      from = rows_fit levels width from n vectors are runs.from;
      to = rows_fit levels width to n vectors are runs.to;
      apart = rows_apart width from to n runs.apart;
    }

-- the number of vectors before a row, by that of words
pub place_is : (u width at : ℕ) → 32 * at ≡ u * (32 * width) → at ≡ u * width
place_is u width at is = let e = row_words u width in omega (arith, is, e)

pub place_runs : (levels width a b n from to count : ℕ) (vectors : List WordVector) → AreRows levels width vectors → AreTwoRuns (2 ^ levels) a b n
    → 32 * from ≡ a * (32 * width) → 32 * to ≡ b * (32 * width) → 32 * count ≡ n * (32 * width) → AreTwoRuns (length vectors) from to count
place_runs levels width a b n from to count vectors are runs ea eb en =
    rw (place_is a width from ea, place_is b width to eb, place_is n width count en) (row_runs levels width a b n vectors are runs)

-- to the words of n rows, another one is added
record RowsAdded (to n : ℕ) (other : ℕ → ℕ → ℕ) (old new : Grid) : Type 0 where
  kept : (c u : ℕ) → (u < to) ⊎ (to + n ≤ u) → column new c u ≡ column old c u
  here : (c e : ℕ) → c < old.words → e < n → column new c (to + e) ≡ bit_xor (column old c (to + e)) (other c e)

rows_added : (levels words to n : ℕ) (other : ℕ → ℕ) (old new : List WordVector) → AddsToRun (to * words) (n * words) other (word_of old) (word_of new)
    → RowsAdded to n (λ c e. other (e * words + c)) (record { levels = levels; words = words; vectors = old }) (record { levels = levels; words = words; vectors = new })
rows_added levels words to n other old new added = record {
  kept = λ c u out. within_same 0 words c (word_of new (u * words + c)) (word_of old (u * words + c)) (λ a low. outside c u low out);
  here = λ c e low l.
      let place : (to + e) * words ≡ to * words + e * words = add-mul to e words in
      let end : e * words + words ≤ n * words = rows_below e n words l in
      let at : (to + e) * words + c ≡ to * words + (e * words + c) = omega (arith, place) in
      within-in 0 words c (word_of new ((to + e) * words + c)) (omega arith) low
      ∙ ap (word_of new) at ∙ added.run (e * words + c) (omega (arith, end, low))
      ∙ ap (λ x. bit_xor x (other (e * words + c))) (ap (word_of old) (sym at) ∙ sym (within-in 0 words c (word_of old ((to + e) * words + c)) (omega arith) low));
}
  where
    outside : (c u : ℕ) → c < words → (u < to) ⊎ (to + n ≤ u) → word_of new (u * words + c) ≡ word_of old (u * words + c)
    outside c u low (inl below) = added.others.below (u * words + c) (omega (arith, rows_below u to words below, low))
    outside c u low (inr above) =
        let start : (to + n) * words ≤ u * words = mul-le-mul_right words above in
        let sum : (to + n) * words ≡ to * words + n * words = add-mul to n words in
        added.others.above (u * words + c) (omega (arith, start, sum))

-- to one row
pub row_added : (levels words to a n : ℕ) (other : ℕ → ℕ) (old new : List WordVector) → a ≡ to * words → n ≡ words → AddsToRun a n other (word_of old) (word_of new)
    → IsAdded (record { levels = levels; words = words; vectors = old }) (record { levels = levels; words = words; vectors = new }) to other
row_added levels words to a n other old new start size added =
    let count : n ≡ 1 * words = omega (arith, size) in
    let all = rows_added levels words to 1 other old new (subst (λ m. AddsToRun (to * words) m other (word_of old) (word_of new)) count (subst (λ m. AddsToRun m n other (word_of old) (word_of new)) start added)) in
    record {
      levels = refl;
      words = refl;
      others = λ c u n. all.kept c u (elim (cases_lt u to) [ inl before ↦ inl before | inr from ↦ elim (cases_eq u to) [ inl same ↦ absurd (n same) | inr other_row ↦ inr (omega (arith, from, other_row)) ] ]);
      here = λ c h. ap (column (record { levels = levels; words = words; vectors = new }) c) (let e : to ≡ to + 0 = omega arith in e) ∙ all.here c 0 h (omega arith)
          ∙ ap₂ (λ t p. bit_xor (column (record { levels = levels; words = words; vectors = old }) c t) (other p)) (let e : to + 0 ≡ to = omega arith in e) (let e : 0 * words + c ≡ c = omega arith in e);
    }

pub added_same : {old new : Grid} {to : ℕ} {first second : ℕ → ℕ} → IsAdded old new to first → ((c : ℕ) → c < old.words → first c ≡ second c) → IsAdded old new to second
added_same {old = old} {to = to} added same = record {
  levels = added.levels;
  words = added.words;
  others = added.others;
  here = λ c h. added.here c h ∙ ap (bit_xor (column old c to)) (same c h);
}

-- f of some rows, added to as many others, by the positions of their words
pub run_added : (f : ℕ → ℕ) (levels words at to n a b m : ℕ) (old new : List WordVector) → a ≡ at * words → b ≡ to * words → m ≡ n * words → RunAddedBy f a b m (word_of old) (word_of new)
    → EachColumn (RunAddedBy f at to n) (record { levels = levels; words = words; vectors = old }) (record { levels = levels; words = words; vectors = new })
run_added f levels words at to n a b m old new ea eb em added =
    let all = rows_added levels words to n (λ q. f (word_of old (a + q))) old new
    (subst (λ k. AddsToRun k (n * words) (λ q. f (word_of old (a + q))) (word_of old) (word_of new)) eb (subst (λ k. AddsToRun b k (λ q. f (word_of old (a + q))) (word_of old) (word_of new)) em added)) in
    record {
      levels = refl;
      words = refl;
      columns = λ c h. record {
        others = record { below = λ u l. all.kept c u (inl l); above = λ u l. all.kept c u (inr l) };
        run = λ e l. all.here c e h l
            ∙ ap (λ v. bit_xor (column (record { levels = levels; words = words; vectors = old }) c (to + e)) (f v))
            (ap (word_of old) (let s : (at + e) * words ≡ at * words + e * words = add-mul at e words in let p : a + (e * words + c) ≡ (at + e) * words + c = omega (arith, s, ea) in p)
            ∙ sym (within-in 0 words c (word_of old ((at + e) * words + c)) (omega arith) h));
      };
    }

-- the butterfly of two runs of rows, by the positions of their words
pub butterfly_added : (f : ℕ → ℕ) (levels words low high n a b m : ℕ) (old new : List WordVector) → a ≡ low * words → b ≡ high * words → m ≡ n * words → IsButterfly f a b m (word_of old) (word_of new)
    → EachColumn (IsButterfly f low high n) (record { levels = levels; words = words; vectors = old }) (record { levels = levels; words = words; vectors = new })
butterfly_added f levels words low high n a b m old new ea eb em both = record {
  levels = refl;
  words = refl;
  columns = λ c h. record {
    below = λ u l. same c u h (both.below (u * words + c) (omega (arith, rows_below u low words l, ea, h)));
    between = λ u l k.
        let start : (low + n) * words ≤ u * words = mul-le-mul_right words l in
        let sum : (low + n) * words ≡ low * words + n * words = add-mul low n words in
        same c u h (both.between (u * words + c) (omega (arith, start, sum, ea, em)) (omega (arith, rows_below u high words k, eb, h)));
    above = λ u l.
        let start : (high + n) * words ≤ u * words = mul-le-mul_right words l in
        let sum : (high + n) * words ≡ high * words + n * words = add-mul high n words in
        same c u h (both.above (u * words + c) (omega (arith, start, sum, eb, em)));
    lower = λ e l.
        here c (low + e) h new ∙ ap (word_of new) (at c low e a ea) ∙ both.lower (e * words + c) (inside c e h l)
        ∙ ap₂ (λ x y. bit_xor x (f y)) (ap (word_of old) (sym (at c low e a ea)) ∙ sym (here c (low + e) h old)) (ap (word_of old) (sym (at c high e b eb)) ∙ sym (here c (high + e) h old));
    upper = λ e l.
        here c (high + e) h new ∙ ap (word_of new) (at c high e b eb) ∙ both.upper (e * words + c) (inside c e h l)
        ∙ ap₂ bit_xor (ap (word_of old) (sym (at c high e b eb)) ∙ sym (here c (high + e) h old)) (ap (word_of new) (sym (at c low e a ea)) ∙ sym (here c (low + e) h new));
  };
}
  where
    here : (c u : ℕ) → c < words → (vectors : List WordVector) → within 0 words c (word_of vectors (u * words + c)) ≡ word_of vectors (u * words + c)
    here c u h vectors = within-in 0 words c (word_of vectors (u * words + c)) (omega arith) h

    same : (c u : ℕ) → c < words → word_of new (u * words + c) ≡ word_of old (u * words + c) → within 0 words c (word_of new (u * words + c)) ≡ within 0 words c (word_of old (u * words + c))
    same c u h is = ap (within 0 words c) is

    at : (c first e start : ℕ) → start ≡ first * words → (first + e) * words + c ≡ start + (e * words + c)
    at c first e start is = let s : (first + e) * words ≡ first * words + e * words = add-mul first e words in omega (arith, s, is)

    inside : (c e : ℕ) → c < words → e < n → e * words + c < m
    inside c e h l = omega (arith, rows_below e n words l, em, h)

-- ---- rows copied

pub rows_copied : (levels words n k : ℕ) (other : Grid) (old new : List WordVector) → other.words ≡ words → 32 * k ≡ n * words → CopiesVectors k other.vectors old new
    → AreCopied n other (record { levels = levels; words = words; vectors = old }) (record { levels = levels; words = words; vectors = new })
rows_copied levels words n k other old new same count copied = record {
  levels = refl;
  words = refl;
  first = λ c u low.
      within_same 0 words c (word_of new (u * words + c)) (word_of other.vectors (u * words + c)) (λ a inside. copied.first (u * words + c) (omega (arith, rows_below u n words low, inside, count)))
      ∙ ap (λ m. within 0 m c (word_of other.vectors (u * m + c))) (sym same);
  rest = λ c u high.
      within_same 0 words c (word_of new (u * words + c)) (word_of old (u * words + c))
      (λ a inside. copied.rest (u * words + c) (let start : n * words ≤ u * words = mul-le-mul_right words high in omega (arith, start, count)));
}

-- ---- rows of zeros

pub zero_column : (grid : Grid) → ((p : ℕ) → word_of grid.vectors p ≡ 0) → (c u : ℕ) → column grid c u ≡ 0
zero_column grid zeros c u = within_zero 0 grid.words c (word_of grid.vectors (u * grid.words + c)) (zeros (u * grid.words + c))

-- vectors of zeros alone
pub zero_vectors : (n : ℕ) (z : WordVector) → ((j : ℕ) → word_in z j ≡ 0) → (i j : ℕ) → word_in (get_or (replicate n z) i none) j ≡ 0
zero_vectors zero z zeros i j = refl
zero_vectors (suc n) z zeros zero j = zeros j
zero_vectors (suc n) z zeros (suc i) j = zero_vectors n z zeros i j

-- the rows after their vectors are rewritten
pub kept_rows : (levels width : ℕ) (v : Vec WordVector Global) (old new : List WordVector) → AreRows levels width v.items → old ≡ v.items → AreRewritten old new → length new ≡ v.len → AreRows levels width (with_items v new).items
kept_rows levels width v old new are is kept size =
    subst (AreRows levels width) (sym (with_items_is v new size))
    (record { few = are.few; count = kept.same_length ∙ ap length is ∙ are.count; fit = kept.fit (subst (λ xs. GivesElements (word_of xs)) (sym is) are.fit) })

pub copied_rewritten : (n : ℕ) (src old new : List WordVector) → CopiesVectors n src old new → GivesElements (word_of src) → AreRewritten old new
copied_rewritten n src old new copied fits = grind arith

pub zeros_rewritten : (old new : List WordVector) → length new ≡ length old → ((p : ℕ) → word_of new p ≡ 0) → AreRewritten old new
zeros_rewritten old new size zeros = record { same_length = size; fit = λ was p. subst (λ x. x < 65536) (sym (zeros p)) (omega arith) }

pub column_fits : (grid : Grid) → GivesElements (word_of grid.vectors) → (c : ℕ) → GivesElements (column grid c)
column_fits grid fits c u = grind (arith, within-in, within-above)

-- ---- one row

pub row_column : (levels width u a b : ℕ) (vectors : List WordVector) (c : ℕ) → 32 * a ≡ u * (32 * width) → 32 * b ≡ (u + 1) * (32 * width)
    → word_of (take (b - a) (drop a vectors)) c ≡ column (record { levels = levels; words = 32 * width; vectors = vectors }) c u
row_column levels width u a b vectors c start end =
    let next : (u + 1) * (32 * width) ≡ u * (32 * width) + 1 * (32 * width) = add-mul u 1 (32 * width) in
    let count : b - a ≡ width = omega (arith, start, end, next) in
    ap (λ n. word_of (take n (drop a vectors)) c) count
    ∙ elim (cases_lt c (32 * width)) [
      | inl low ↦
          ap (λ v. word_in v (c % 32)) (get_or-take width (drop a vectors) (c / 32) none (omega arith) ∙ get_or-drop a vectors (c / 32) none)
          ∙ vector (u * (32 * width)) start
          ∙ sym (within-in 0 (32 * width) c (word_of vectors (u * (32 * width) + c)) (omega arith) low)
      | inr high ↦
          past_vectors (take width (drop a vectors)) c (let e = length-take width (drop a vectors) in omega (arith, e, high))
          ∙ sym (within-above 0 (32 * width) c (word_of vectors (u * (32 * width) + c)) high)
    ]
  where
    vector : (at : ℕ) → 32 * a ≡ at → word_in (get_or vectors (a + c / 32) none) (c % 32) ≡ word_of vectors (at + c)
    vector at is =
        let place : a + c / 32 ≡ (at + c) / 32 = omega (arith, is) in
        let lane : c % 32 ≡ (at + c) % 32 = omega (arith, is) in
        ap₂ (λ k j. word_in (get_or vectors k none) j) place lane

-- ---- rows that are filled one after the other

pub no_first : (given : ℕ → ℕ → ℕ) (old new : Grid) → new.levels ≡ old.levels → new.words ≡ old.words → ((c u : ℕ) → column new c u ≡ 0) → HaveFirst 0 given old new
no_first given old new levels words zeros = record { levels = levels; words = words; first = λ c u h l. absurd (omega (arith, l)); none = λ c u h. zeros c u }

pub next_first : (given : ℕ → ℕ → ℕ) (i : ℕ) (other : ℕ → ℕ) (old mid new : Grid) → HaveFirst i given old mid → IsAdded mid new i other → ((c : ℕ) → c < old.words → other c ≡ given c i)
    → HaveFirst (i + 1) given old new
next_first given i other old mid new so_far added is = grind (arith, xor_zero_l)

-- what `auto` is given for the code
pub ruleset grid_steps = (one_rewritten, rewritten_none, past_vectors, vectors_copied, vector_added, run_none, zeros_rewritten, column_fits, row_words, row_runs, rows_before, rows_fit, zero_column)

-- A run of rows, transformed by halves: both halves are transformed before or after a butterfly.

-- ---- numbers of runs

pub zero-mul-add : (n e : ℕ) → 0 * n + e ≡ e
zero-mul-add n e = omega arith

-- the halves of run q of level i are runs
pub halves_below : (k i q : ℕ) → 0 < i → i ≤ k → q < 2 ^ (k - i) → 2 * q + 1 < 2 ^ (k - (i - 1))
halves_below k i q some high low =
    let e : k - (i - 1) ≡ suc (k - i) = omega arith in
    let p : 2 ^ (k - (i - 1)) ≡ 2 ^ (k - i) * 2 = ap (λ n. 2 ^ n) e ∙ pow-suc 2 (k - i) in
    omega (arith, p, low)

pub lower_half : (k i q : ℕ) → 0 < i → IsRun k i q → IsRun k (i - 1) (2 * q)
lower_half k i q some run = record { few = run.few; level = omega (arith, run.level); run = omega (arith, halves_below k i q some run.level run.run) }

pub upper_half : (k i q : ℕ) → 0 < i → IsRun k i q → IsRun k (i - 1) (2 * q + 1)
upper_half k i q some run = record { few = run.few; level = omega (arith, run.level); run = halves_below k i q some run.level run.run }

pub run_kept : {k n i q : ℕ} → k ≡ n → IsRun n i q → IsRun k i q
run_kept {i = i} {q = q} e run = subst (λ m. IsRun m i q) (sym e) run

-- a run that is halved lies within all points
pub run_in_field : (k i q : ℕ) → k ≤ 16 → 0 < i → i ≤ k → q < 2 ^ (k - i) → q * 2 ^ suc (i - 1) + 2 ^ suc (i - 1) ≤ 65536
run_in_field k i q few some high low =
    let up : suc (i - 1) ≡ i = omega (arith, some) in
    let most : 2 ^ k ≤ 2 ^ 16 = pow-le-pow_right (let two : 0 < 2 = omega arith in two) few in
    let fits : q * 2 ^ i + 2 ^ i ≤ 2 ^ k = run_fits k i q high low in
    subst (λ n. q * 2 ^ n + 2 ^ n ≤ 65536) (sym up) (omega (arith, fits, most))

-- ---- both halves

-- a relation on the first values alone
abbrev pub IsOfFirst : ℕ → ((ℕ → ℕ) → (ℕ → ℕ) → Type 0) → Type 0
IsOfFirst count relation = (f f2 g g2 : ℕ → ℕ) → ((u : ℕ) → u < count → f2 u ≡ f u) → ((u : ℕ) → u < count → g2 u ≡ g u) → relation f g → relation f2 g2

pub unchanged_run : (start count : ℕ) (relation : (ℕ → ℕ) → (ℕ → ℕ) → Type 0) (f : ℕ → ℕ) → relation (from start f) (from start f) → OneRun start count relation f f
unchanged_run start count relation f same = record { others = same_outside start (start + count) f; run = same }

-- the only run of the highest level
pub whole_run : (i : ℕ) (relation : (ℕ → ℕ) → (ℕ → ℕ) → Type 0) → IsOfFirst (2 ^ i) relation → (f g : ℕ → ℕ) → OneRun (0 * 2 ^ i) (2 ^ i) relation f g → relation f g
whole_run i relation first f g one =
    first (from (0 * 2 ^ i) f) f (from (0 * 2 ^ i) g) g (λ u l. ap f (sym (zero-mul-add (2 ^ i) u))) (λ u l. ap g (sym (zero-mul-add (2 ^ i) u))) one.run

-- the halves of run q of level i + 1 change, each by its relation, and nothing else changes
pub record BothHalves (i q : ℕ) (low high : (ℕ → ℕ) → (ℕ → ℕ) → Type 0) (old new : ℕ → ℕ) : Type 0 where
  pub others : SameValuesOutside (q * 2 ^ suc i) (q * 2 ^ suc i + 2 ^ suc i) old new
  pub lower : low (from (q * 2 ^ suc i) old) (from (q * 2 ^ suc i) new)
  pub upper : high (from (2 ^ i) (from (q * 2 ^ suc i) old)) (from (2 ^ i) (from (q * 2 ^ suc i) new))

pub both_halves : (i q : ℕ) (low high : (ℕ → ℕ) → (ℕ → ℕ) → Type 0) → IsOfFirst (2 ^ i) low → IsOfFirst (2 ^ i) high → (f g h : ℕ → ℕ)
    → OneRun (2 * q * 2 ^ i) (2 ^ i) low f g → OneRun ((2 * q + 1) * 2 ^ i) (2 ^ i) high g h → BothHalves i q low high f h
both_halves i q low high first second f g h one two = record {
  others = outside_then start (start + 2 ^ suc i) (2 * q * 2 ^ i) (2 * q * 2 ^ i + 2 ^ i) ((2 * q + 1) * 2 ^ i) ((2 * q + 1) * 2 ^ i + 2 ^ i) f g h one.others two.others
      (omega (arith, at)) (omega (arith, middle)) (omega (arith, at, double)) (omega (arith, middle, double));
  lower = first (from (2 * q * 2 ^ i) f) (from start f) (from (2 * q * 2 ^ i) g) (from start h)
      (λ u l. ap (λ n. f (n + u)) at) (λ u l. two.others.below (start + u) (omega (arith, l, middle)) ∙ ap (λ n. g (n + u)) at) one.run;
  upper = second (from ((2 * q + 1) * 2 ^ i) g) (from (2 ^ i) (from start f)) (from ((2 * q + 1) * 2 ^ i) h) (from (2 ^ i) (from start h))
      (λ u l. ap f (place u) ∙ sym (one.others.above ((2 * q + 1) * 2 ^ i + u) (omega (arith, at, middle)))) (λ u l. ap h (place u)) two.run;
}
  where
    start : ℕ
    start = q * 2 ^ suc i

    at : q * 2 ^ suc i ≡ 2 * q * 2 ^ i
    at = first_half i q

    middle : q * 2 ^ suc i + 2 ^ i ≡ (2 * q + 1) * 2 ^ i
    middle = second_half i q

    double : 2 ^ suc i ≡ 2 ^ i + 2 ^ i
    double = double_power i

    place : (u : ℕ) → q * 2 ^ suc i + (2 ^ i + u) ≡ (2 * q + 1) * 2 ^ i + u
    place u = omega (arith, middle)

-- ---- power sums

pub sums_of_first : (i q : ℕ) → IsOfFirst (2 ^ i) (ArePowerSums i q)
unfolding power_sum
sums_of_first i q f f2 g g2 sf sg are e h =
    let x : ℕ → ℕ = λ u. pow (point (member i q u)) e in
    sg e h ∙ are e h ∙ field_sum_same (2 ^ i) (λ u. mul (f u) (x u)) (λ u. mul (f2 u) (x u)) (λ u l. ap (λ v. mul v (x u)) (sym (sf u l)))

-- of one point
pub sum_of_one : (q : ℕ) (f : ℕ → ℕ) → f 0 < 65536 → ArePowerSums 0 q f f
unfolding power_sum field_sum pow
sum_of_one q f fit e h =
    let none : e ≡ 0 = omega (arith, h) in
    ap f none ∙ sym (ap (λ n. field_sum 1 (λ u. mul (f u) (pow (point (member 0 q u)) n))) none ∙ xor_zero_l _ ∙ product-one (f 0) fit)

-- the butterfly makes power sums over a coset of those over its halves
pub sums_of_halves : (i q : ℕ) (weight split merged : ℕ → ℕ) → GivesElements weight → q * 2 ^ suc i + 2 ^ suc i ≤ 65536
    → ArePowerSums i (2 * q) (from (q * 2 ^ suc i) weight) (from (q * 2 ^ suc i) split)
    → ArePowerSums i (2 * q + 1) (from (2 ^ i) (from (q * 2 ^ suc i) weight)) (from (2 ^ i) (from (q * 2 ^ suc i) split))
    → IsMerged i (point (2 * q)) (from (q * 2 ^ suc i) split) (from (q * 2 ^ suc i) merged) → ArePowerSums (suc i) q (from (q * 2 ^ suc i) weight) (from (q * 2 ^ suc i) merged)
unfolding power_sum
sums_of_halves i q weight split merged fit fits low high is e h =
    let next : suc q * 2 ^ suc i ≡ q * 2 ^ suc i + 2 ^ suc i = ap (λ v. v * 2 ^ suc i) (let s : suc q ≡ q + 1 = omega arith in s) ∙ add-mul q 1 (2 ^ suc i) ∙ ap (λ v. q * 2 ^ suc i + v) (one-mul (2 ^ suc i)) in
    merged_power_sums weight fit i q (from (q * 2 ^ suc i) split) (from (q * 2 ^ suc i) merged) (omega (arith, fits, next)) is
    (λ d l. low d l ∙ ap (λ n. power_sum i (2 * q) (from n weight) d) (first_half i q))
    (λ d l. high d l ∙ field_sum_same (2 ^ i) (λ u. mul (weight (q * 2 ^ suc i + (2 ^ i + u))) (pow (point (member i (2 * q + 1) u)) d)) (λ u. mul (weight ((2 * q + 1) * 2 ^ i + u)) (pow (point (member i (2 * q + 1) u)) d))
    (λ u b. ap (λ n. mul (weight n) (pow (point (member i (2 * q + 1) u)) d)) (let e : q * 2 ^ suc i + (2 ^ i + u) ≡ (2 * q + 1) * 2 ^ i + u = omega (arith, second_half i q) in e)))
    e h

pub summed_run : (i q : ℕ) (f g h : ℕ → ℕ) → GivesElements f → q * 2 ^ suc i + 2 ^ suc i ≤ 65536
    → BothHalves i q (ArePowerSums i (2 * q)) (ArePowerSums i (2 * q + 1)) f g → OneRun (q * 2 ^ suc i) (2 ^ suc i) (IsMerged i (point (2 * q))) g h
    → OneRun (q * 2 ^ suc i) (2 ^ suc i) (ArePowerSums (suc i) q) f h
summed_run i q f g h fit fits halves merged =
    let start = q * 2 ^ suc i in
    let end = start + 2 ^ suc i in
    record {
      others = outside_then start end start end start end f g h halves.others merged.others (omega arith) (omega arith) (omega arith) (omega arith);
      run = sums_of_halves i q f g h fit fits halves.lower halves.upper merged.run;
    }

-- ---- combinations

pub combination_of_first : (n i : ℕ) → IsOfFirst (2 ^ i) (IsCombination n i)
combination_of_first n i f f2 g g2 sf sg is short x hx =
    combined_same i g2 g x sg ∙ is (λ m high low. sym (sf m low) ∙ short m high low) x hx ∙ field_sum_same (2 ^ i) (λ m. mul (f m) (pow x m)) (λ m. mul (f2 m) (pow x m)) (λ m l. ap (λ v. mul v (pow x m)) (sym (sf m l)))

-- of one coefficient
pub combination_of_one : (n : ℕ) (f : ℕ → ℕ) → f 0 < 65536 → IsCombination n 0 f f
unfolding combined field_sum pow
combination_of_one n f fit short x hx = sym (xor_zero_l _ ∙ product-one (f 0) fit)

pub combined_run : (n i q : ℕ) (f g h : ℕ → ℕ) → OneRun (q * 2 ^ suc i) (2 ^ suc i) (IsHalved n i) f g → BothHalves i q (IsCombination n i) (IsCombination (n - 2 ^ i) i) g h
    → OneRun (q * 2 ^ suc i) (2 ^ suc i) (IsCombination n (suc i)) f h
unfolding combined
combined_run n i q f g h halved halves =
    let start = q * 2 ^ suc i in
    let end = start + 2 ^ suc i in
    record {
      others = outside_then start end start end start end f g h halved.others halves.others (omega arith) (omega arith) (omega arith) (omega arith);
      run = λ short x hx.
          let parts = halved.run short in
          ap₂ (λ a b. bit_xor a (mul (vanishing i x) b)) (halves.lower parts.remainder x hx) (halves.upper parts.quotient x hx) ∙ sym (parts.divided x hx);
    }

-- ---- values

pub listed_of_first : (next : ℕ → ℕ) (i number : ℕ) → IsOfFirst (2 ^ i) (AreListedValues next i number)
listed_of_first next i number f f2 g g2 sf sg are u h listed =
    sg u h ∙ are u h listed ∙ combined_same i f f2 (point (number * 2 ^ i + u)) (λ m l. sym (sf m l))

-- of one coefficient
pub value_of_one : (next : ℕ → ℕ) (number : ℕ) (f : ℕ → ℕ) → AreListedValues next 0 number f f
unfolding combined
value_of_one next number f u h listed = ap f (let none : u ≡ 0 = omega (arith, h) in none)

pub evaluated_run : (next : ℕ → ℕ) (i q number : ℕ) (f g h : ℕ → ℕ) → GivesElements g → number * 2 ^ suc i + 2 ^ suc i ≤ 65536
    → OneRun (q * 2 ^ suc i) (2 ^ suc i) (IsSplit i (point (2 * number))) f g → BothHalves i q (AreListedValues next i (2 * number)) (AreListedValues next i (2 * number + 1)) g h
    → OneRun (q * 2 ^ suc i) (2 ^ suc i) (AreListedValues next (suc i) number) f h
evaluated_run next i q number f g h fit fits split halves = record {
  others = outside_then start end start end start end f g h split.others halves.others (omega arith) (omega arith) (omega arith) (omega arith);
  run = λ u l listed. elim (cases_lt u (2 ^ i)) [
    | inl below ↦ lower u below listed
    | inr above ↦
        let d : ℕ = u - 2 ^ i in
        let at : 2 ^ i + d ≡ u = omega (arith, above) in
        subst (λ n. from start h n ≡ combined (suc i) (from start f) (point (number * 2 ^ suc i + n))) at
        (upper d (omega (arith, above, l, double)) (subst (λ n. IsListed next (number * 2 ^ suc i + n)) (sym at) listed))
  ];
}
  where
    start : ℕ
    start = q * 2 ^ suc i

    end : ℕ
    end = q * 2 ^ suc i + 2 ^ suc i

    c : ℕ
    c = point (2 * number)

    double : 2 ^ suc i ≡ 2 ^ i + 2 ^ i
    double = double_power i

    low : ℕ → ℕ
    low x = combined i (from start g) x

    high : ℕ → ℕ
    high x = combined i (from (2 ^ i) (from start g)) x

    lower : (u : ℕ) → u < 2 ^ i → IsListed next (number * 2 ^ suc i + u) → from start h u ≡ combined (suc i) (from start f) (point (number * 2 ^ suc i + u))
    lower u l listed =
        let at : number * 2 ^ suc i + u ≡ member i (2 * number) u = ap (λ n. n + u) (first_half i number) in
        let x : ℕ = point (member i (2 * number) u) in
        let none : bit_xor (vanishing i x) c ≡ 0 = ap (λ v. bit_xor v c) (vanishing_on i (2 * number) u l (omega (arith, at, fits, l, double))) ∙ xor_self c in
        halves.lower u l (subst (IsListed next) at listed)
        ∙ sym (split.run.divided x (point-lt _)
        ∙ ap (λ v. bit_xor (low x) (mul v (bit_xor (low x) (high x)))) none
        ∙ ap (bit_xor (low x)) (zero-product (bit_xor (low x) (high x))) ∙ xor_zero_r (low x))
        ∙ ap (λ n. combined (suc i) (from start f) (point n)) (sym at)

    upper : (d : ℕ) → d < 2 ^ i → IsListed next (number * 2 ^ suc i + (2 ^ i + d)) → from start h (2 ^ i + d) ≡ combined (suc i) (from start f) (point (number * 2 ^ suc i + (2 ^ i + d)))
    upper d l listed =
        let at : number * 2 ^ suc i + (2 ^ i + d) ≡ member i (2 * number + 1) d = (let m = second_half i number in omega (arith, m)) in
        let x : ℕ = point (member i (2 * number + 1) d) in
        let one : bit_xor (vanishing i x) c ≡ 1 =
        ap (λ v. bit_xor v c) (vanishing_on i (2 * number + 1) d l (omega (arith, at, fits, l, double)) ∙ point_odd number ∙ xor_comm c 1) ∙ xor_off 1 c in
        let hl : low x < 65536 = combined-lt i (from start g) x (λ m. fit _) (point-lt _) in
        let hh : high x < 65536 = combined-lt i (from (2 ^ i) (from start g)) x (λ m. fit _) (point-lt _) in
        let both : bit_xor (low x) (high x) < 65536 = xor_lt 16 (low x) (high x) hl hh in
        let once : mul 1 (bit_xor (low x) (high x)) ≡ bit_xor (low x) (high x) = product_comm 1 _ (omega arith) both ∙ product-one _ both in
        halves.upper d l (subst (IsListed next) at listed)
        ∙ sym (split.run.divided x (point-lt _)
        ∙ ap (λ v. bit_xor (low x) (mul v (bit_xor (low x) (high x)))) one
        ∙ ap (bit_xor (low x)) once ∙ sym (xor_assoc (low x) (low x) (high x)) ∙ ap (λ v. bit_xor v (high x)) (xor_self (low x)) ∙ xor_zero_l (high x))
        ∙ ap (λ n. combined (suc i) (from start f) (point n)) (sym at)

-- what `auto` is given for the code
pub ruleset run_steps = (level_steps, each_unchanged, unchanged_run, sum_of_one)

-- Lists of the numbers of points.

-- the entries from place a on, computed down from the last one
pub record NamedFrom (a : ℕ) (old new : List ℕ) : Type 0 where
  pub least : (n b : ℕ) → n < length old → get_or old n 0 ≤ n → a ≤ b + 1 → b ≤ n → get_or new b 0 ≤ n
  pub rest : (b : ℕ) → b + 1 < a → get_or new b 0 ≡ get_or old b 0
