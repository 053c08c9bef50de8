-- Blocks of outputs, one after the other.
use Rattle.par2_transform.proofs.Common.{inl, inr, ℕ, ◌+◌, ◌-◌, ◌*◌, ◌<◌, ◌≡◌, ◌≢◌, refl, sym, ap, ap₂, subst, ◌∙◌, arith, bit_xor, List, [], ◌∷◌, ◌++◌, length, get_or, length-append, get_or_append_left, get_or_at, get_or_default, get_or-set_other, get_or-set_same, length-set, length-map-range_with_len, get_or-map-range_with_len, map, range_with_len, Tabulates, mul, Grid, column, IsAdded, cases_eq, cases_lt, AddsAt, Outputs, IsBlock, AreBlocks, RowsGathered, BlocksBecome, Keeps, from_gathered, within, outputs_at, weight_at, Cut, HasWeights, Place, field_sum, YieldsList-from_map, YieldsList-from_range, items_from_collect, suc, ◌/◌, ◌%◌, ◌^◌, ◌≤◌, div-mul-le_self, mul-le-mul_right, mod-lt, lt_of_le-ne, div-add-mod', if◌then◌else◌, not, ◌==◌, ◌&&◌, pow, is_coprime, product-zero, get_or_past, word, list_at, word-lt, field_sum_same, field_sum_one, field_sum_none, IsGathered, EachBlock, CoverOutputs, HasSize, class_sum_at, chirp_inverse, coprimes_below, AreWordsOfFirst, word_at_power, words_at, AreByteLists, recovered, point, Reaches, gathered, xor_zero_r, zero-product, IsCleared, Gathers, HaveFirst, HaveShape, Plan, cut_of, value, AreValues, EachColumn, coefficient_of, coefficients_from, window_value, GivesElements, AreWeightRows, chirp, AreWeights, Bool, nat_le, nat_lt}
use Rattle.std.proofs.Math.ListN.{set}
use Rattle.std.specs.Prelude.{false, true}
use Rattle.par2_transform.proofs.Additions.{adds_none, adds_next, still_within, still_fits, adds_same, within-in, within-below, within-above, within_same, within_zero}
use Rattle.par2_transform.proofs.Chirps.{class_by_windows, sum_by_classes}
use Rattle.par2_transform.proofs.Subspaces.{field_sum_join}
use Rattle.par2_transform.proofs.GridLaws.{no_first, next_first}

-- the part of block j, of `size` outputs, in word p of output t, for the columns from `from` up to `to`
abbrev pub block_part : Cut → ℕ → ℕ → ℕ → ℕ → Outputs → ℕ → ℕ → ℕ → ℕ
block_part cut size r from to block j t p =
    within (j * size) (j * size + size) t (within from to p (from_gathered cut (column block.sums (p - from)) block.exponent (t - j * size) r))

-- a block is read whatever the default is
pub is_block_at : (blocks : List Outputs) (j : ℕ) (block : Outputs) → j < length blocks → get_or blocks j block ≡ outputs_at blocks j
is_block_at blocks j block low = get_or_default blocks j block _ low

-- block j changes by the relation, and no other block changes
pub record OneBecomes (relation : Outputs → Outputs → Type 0) (j : ℕ) (old new : List Outputs) : Type 0 where
  pub count : length new ≡ length old
  pub here : relation (outputs_at old j) (outputs_at new j)
  pub others : (i : ℕ) → i ≢ j → outputs_at new i ≡ outputs_at old i

-- a block is set
pub one_set : (relation : Outputs → Outputs → Type 0) (blocks : List Outputs) (j : ℕ) (block new : Outputs) → j < length blocks → relation (get_or blocks j block) new → OneBecomes relation j blocks (set blocks j new)
one_set relation blocks j block new low is = grind (arith, length-set, get_or-set_same, is_block_at, get_or-set_other)

-- a block is still one of the same outputs if only the gathered sums differ
pub kept_block : (cut : Cut) (columns e : ℕ) (old new : Outputs) → Keeps old new → IsBlock cut columns e old → IsBlock cut columns e new
kept_block cut columns e old new kept is = grind arith

pub none_becomes : (relation : Outputs → Outputs → Type 0) (blocks : List Outputs) → BlocksBecome relation 0 blocks blocks
none_becomes relation blocks = record { count = refl; done = λ j h. absurd (omega arith); rest = λ j h. refl }

pub next_becomes : (relation : Outputs → Outputs → Type 0) (n : ℕ) (old mid new : List Outputs) → BlocksBecome relation n old mid → OneBecomes relation n mid new
    → BlocksBecome relation (n + 1) old new
next_becomes relation n old mid new so_far one = grind arith

-- the first n blocks have been added to the outputs
pub record AddedSoFar (places : List Place) (len : ℕ) (cut : Cut) (size r from to n : ℕ) (old blocks : List Outputs) (was buffers : List (List ℕ)) : Type 0 where
  pub kept : BlocksBecome Keeps n old blocks
  pub added : AddsAt places len (λ t p. field_sum n (λ j. block_part cut size r from to (outputs_at old j) j t p)) was buffers

pub none_added : (places : List Place) (len : ℕ) (cut : Cut) (size r from to : ℕ) (blocks : List Outputs) (buffers : List (List ℕ)) → AddedSoFar places len cut size r from to 0 blocks blocks buffers buffers
unfolding field_sum
none_added places len cut size r from to blocks buffers = record {
  kept = none_becomes Keeps blocks;
  added = adds_none places len (λ t p. field_sum 0 (λ j. block_part cut size r from to (outputs_at blocks j) j t p)) buffers (λ t p. refl);
}

pub next_added : (places : List Place) (len : ℕ) (cut : Cut) (size r from to n : ℕ) (old mid blocks : List Outputs) (was before buffers : List (List ℕ)) → AddedSoFar places len cut size r from to n old mid was before
    → OneBecomes Keeps n mid blocks → AddsAt places len (block_part cut size r from to (outputs_at mid n) n) before buffers → AddedSoFar places len cut size r from to (n + 1) old blocks was buffers
next_added places len cut size r from to n old mid blocks was before buffers so_far kept added = record {
  kept = next_becomes Keeps n old mid blocks so_far.kept kept;
  added = adds_next places len n (λ j t p. block_part cut size r from to (outputs_at old j) j t p) was before buffers so_far.added
      (subst (λ b. AddsAt places len (block_part cut size r from to b n) before buffers) (so_far.kept.rest n (omega arith)) added);
}

-- ---- rows

pub no_row : (weights : ℕ → ℕ) (values sums : Grid) → RowsGathered weights values 0 sums sums
no_row weights values sums = record { levels = refl; words = refl; done = λ c u h l. absurd (omega arith); rest = λ c u h. refl }

pub next_row : (weights : ℕ → ℕ) (values old mid new : Grid) (n factor : ℕ) → RowsGathered weights values n old mid → factor ≡ weights n
    → IsAdded mid new n (λ c. mul factor (column values c n)) → RowsGathered weights values (n + 1) old new
next_row weights values old mid new n factor so_far is added = grind arith

-- ---- tables

pub tabulated : (f : ℕ → ℕ) (n : ℕ) (xs : List ℕ) → xs ≡ map f (range_with_len 0 n) → Tabulates f n xs
tabulated f n xs is = record {
  count = ap length is ∙ length-map-range_with_len f 0 n;
  each = λ m low. ap (λ ys. get_or ys m 0) is ∙ get_or-map-range_with_len f 0 n m m 0 low (omega arith);
}

-- ---- blocks made

-- the first n blocks, of `size` outputs each
pub record BlocksMade (cut : Cut) (columns first size n : ℕ) (blocks : List Outputs) : Type 0 where
  pub count : length blocks ≡ n
  pub are : AreBlocks cut columns first size blocks

pub next_block : (cut : Cut) (columns first size n e : ℕ) (blocks : List Outputs) (block : Outputs) → BlocksMade cut columns first size n blocks → IsBlock cut columns e block → e ≡ first + n * size
    → BlocksMade cut columns first size (n + 1) (blocks ++ block ∷ [])
next_block cut columns first size n e blocks block so_far is place = record {
  count = length-append blocks (block ∷ []) ∙ ap (λ k. k + 1) so_far.count;
  are = λ j h. elim (cases_lt j n) [
    | inl low ↦ subst (IsBlock cut columns (first + j * size)) (sym (before j low)) (so_far.are j (let c = so_far.count in omega (arith, c)))
    | inr high ↦
        (let same : j ≡ n = (let c = so_far.count in let l = length-append blocks (block ∷ []) in omega (arith, c, l)) in
        subst (λ k. IsBlock cut columns (first + k * size) (outputs_at (blocks ++ block ∷ []) k)) (sym same)
        (subst (IsBlock cut columns (first + n * size)) (sym here) (subst (λ k. IsBlock cut columns k block) place is)))
  ];
}
  where
    none : Outputs
    none = record { exponent = 0; windows = 0; weights = []; sums = record { levels = 0; words = 0; vectors = [] } }

    before : (j : ℕ) → j < n → outputs_at (blocks ++ block ∷ []) j ≡ outputs_at blocks j
    before j low = get_or_append_left blocks (block ∷ []) none j (let c = so_far.count in omega (arith, c))

    here : outputs_at (blocks ++ block ∷ []) n ≡ block
    here = get_or_at blocks block [] none n so_far.count

-- what `auto` is given for the code
pub ruleset block_steps = (is_block_at, none_becomes, next_becomes, one_set, no_row, next_row, still_fits, still_within)

pub ruleset tables = (YieldsList-from_map, YieldsList-from_range, items_from_collect, tabulated)

-- From blocks of outputs to the part of a class, and from classes to recovery slices.

-- a gathered block adds to each of its exponents the part of the class
pub gathered_gives : (n : ℕ) (cut : Cut) (slices : List (List ℕ)) (words r from p e t : ℕ) (was block : Outputs) → AreWordsOfFirst n (words_at slices p) → IsBlock cut words e was
    → IsGathered cut slices r from cut.windows was block → from ≤ p → p < from + words → cut.window + t ≤ 2 ^ cut.levels
    → from_gathered cut (column block.sums (p - from)) e t r ≡ class_sum_at cut (words_at slices p) (e + t) r
gathered_gives n cut slices words r from p e t was block first is all low high fits =
    let place : from + (p - from) ≡ p = omega arith in
    ap (mul (mul (pow 2 ((e + t) * r)) (chirp_inverse cut.classes (e + t))))
    (field_sum_same (2 ^ cut.levels) (λ u. mul (column block.sums (p - from) u) (pow (point u) t)) (λ u. mul (gathered cut (weight_at was.weights) (words_at slices p) r u) (pow (point u) t))
    (λ u h. ap (λ x. mul x (pow (point u) t))
    (all.sums (p - from) u (let s = is.words in omega (arith, s)) h
    ∙ ap (λ q. gathered cut (weight_at was.weights) (words_at slices q) r u) place)))
    ∙ sym (class_by_windows n (words_at slices p) first cut e t (weight_at was.weights) is.has fits r)

-- exactly one block has output t
pub blocks_give : (n : ℕ) (cut : Cut) (slices : List (List ℕ)) (words size r from to first t p : ℕ) (old blocks : List Outputs) → AreWordsOfFirst n (words_at slices p)
    → AreBlocks cut words first size old → length blocks ≡ length old
    → ((j : ℕ) → j < length old → IsGathered cut slices r from cut.windows (outputs_at old j) (outputs_at blocks j))
    → cut.window + size ≤ 2 ^ cut.levels + 1 → 1 ≤ size → t < length old * size → to ≤ from + words
    → field_sum (length blocks) (λ j. block_part cut size r from to (outputs_at blocks j) j t p) ≡ within from to p (class_sum_at cut (words_at slices p) (first + t) r)
blocks_give n cut slices words size r from to first t p old blocks are_first are count all fits some covered narrow =
    ap (λ m. field_sum m (λ j. block_part cut size r from to (outputs_at blocks j) j t p)) count
    ∙ field_sum_one (length old) q (λ j. block_part cut size r from to (outputs_at blocks j) j t p) in_range others
    ∙ within-in (q * size) (q * size + size) t (within from to p (from_gathered cut (column (outputs_at blocks q).sums (p - from)) (outputs_at blocks q).exponent (t - q * size) r)) q_low q_high
    ∙ within_same from to p (from_gathered cut (column (outputs_at blocks q).sums (p - from)) (outputs_at blocks q).exponent (t - q * size) r) (class_sum_at cut (words_at slices p) (first + t) r)
    (λ low high.
    ap (λ e. from_gathered cut (column (outputs_at blocks q).sums (p - from)) e (t - q * size) r) ((all q in_range).kept.exponent ∙ (are q in_range).exponent)
    ∙ gathered_gives n cut slices words r from p (first + q * size) (t - q * size) (outputs_at old q) (outputs_at blocks q) are_first (are q in_range) (all q in_range) low (omega arith) (omega (arith, q_low, q_high))
    ∙ ap (λ e. class_sum_at cut (words_at slices p) e r) (let e : first + q * size + (t - q * size) ≡ first + t = omega (arith, q_low) in e))
  where
    q : ℕ
    q = t / size

    q_low : t / size * size ≤ t
    q_low = div-mul-le_self t size

    q_high : t < t / size * size + size
    q_high = let e = div-add-mod' t size in let l = mod-lt t {m = size} some in omega (arith, e, l)

    in_range : t / size < length old
    in_range = elim (cases_lt (t / size) (length old)) [
      | inl low ↦ low
      | inr high ↦ (let more : length old * size ≤ t / size * size = mul-le-mul_right size high in absurd (omega (arith, q_low, more)))
    ]

    others : (j : ℕ) → j < length old → j ≢ q → block_part cut size r from to (outputs_at blocks j) j t p ≡ 0
    others j h other = elim (cases_lt j q) [
      | inl below ↦
          (let more : suc j * size ≤ t / size * size = mul-le-mul_right size (let b : suc j ≤ t / size = omega (arith, below) in b) in
          let next : suc j * size ≡ j * size + size = omega arith in
          within-above (j * size) (j * size + size) t (within from to p (from_gathered cut (column (outputs_at blocks j).sums (p - from)) (outputs_at blocks j).exponent (t - j * size) r)) (omega (arith, q_low, more, next)))
      | inr not_below ↦
          (let beyond : t / size < j = lt_of_le-ne not_below (λ e. other (sym e)) in
          let above : suc (t / size) ≤ j = omega (arith, beyond) in
          let more : suc (t / size) * size ≤ j * size = mul-le-mul_right size above in
          let next : suc (t / size) * size ≡ t / size * size + size = omega arith in
          within-below (j * size) (j * size + size) t (within from to p (from_gathered cut (column (outputs_at blocks j).sums (p - from)) (outputs_at blocks j).exponent (t - j * size) r)) (omega (arith, q_high, more, next)))
    ]

-- class 0 of three has no slice
pub first_class_gives : (cut : Cut) (words : ℕ → ℕ) (e : ℕ) → cut.classes ≡ 3 → class_sum_at cut words e 0 ≡ 0
unfolding word_at_power
first_class_gives cut words e three =
    field_sum_none (cut.windows * cut.window) (λ m. mul (pow 2 (e * (cut.classes * m + 0))) (word_at_power words (cut.classes * m + 0)))
    (λ m h. ap (λ n. mul (pow 2 (e * (cut.classes * m + 0))) (word_at_power words (n * m + 0))) three
    ∙ ap (λ b. mul (pow 2 (e * (cut.classes * m + 0))) (if b then words (coprimes_below (3 * m + 0)) else 0)) (divided m)
    ∙ product-zero (pow 2 (e * (cut.classes * m + 0))))
  where
    divided : (m : ℕ) → is_coprime (3 * m + 0) ≡ false
    divided m = ap (λ k. not (k == 0) && not ((3 * m + 0) % 5 == 0) && not ((3 * m + 0) % 17 == 0) && not ((3 * m + 0) % 257 == 0)) (let e : (3 * m + 0) % 3 ≡ 0 = omega arith in e)

-- the words of the slices at one position
pub words_are_first : (slices : List (List ℕ)) (p : ℕ) → length slices ≤ 32768 → AreByteLists slices → AreWordsOfFirst (length slices) (words_at slices p)
words_are_first slices p few bytes = record {
  few = few;
  none = λ i h. ap (word p) (get_or_past slices i [] h);
  fit = λ i. word-lt (list_at slices i) p (bytes i);
}

-- ---- all classes

within_sum : (n from to p : ℕ) (f : ℕ → ℕ) → field_sum n (λ r. within from to p (f r)) ≡ within from to p (field_sum n f)
within_sum n from to p f = parts (nat_le from p && nat_lt p to)
  where
    parts : (b : Bool) → field_sum n (λ r. if b then f r else 0) ≡ (if b then field_sum n f else 0)
    parts true = refl
    parts false = field_sum_none n (λ r. 0) (λ r h. refl)

-- the first n classes have been added, in the columns from `from` up to `to`
pub record ClassesAdded (places : List Place) (len : ℕ) (cut : Cut) (slices : List (List ℕ)) (words first size from to n : ℕ) (rows : Grid) (blocks : List Outputs) (was buffers : List (List ℕ)) : Type 0 where
  pub kept : HasSize cut.levels words rows
  pub cover : CoverOutputs cut words first size (length places) blocks
  pub added : AddsAt places len (λ t p. field_sum n (λ r. within from to p (class_sum_at cut (words_at slices p) (first + t) r))) was buffers

pub no_class : (places : List Place) (len : ℕ) (cut : Cut) (slices : List (List ℕ)) (words first size from to : ℕ) (rows : Grid) (blocks : List Outputs) (buffers : List (List ℕ)) → HasSize cut.levels words rows → CoverOutputs cut words first size (length places) blocks
    → ClassesAdded places len cut slices words first size from to 0 rows blocks buffers buffers
unfolding field_sum
no_class places len cut slices words first size from to rows blocks buffers kept cover = record {
  kept = kept;
  cover = cover;
  added = adds_none places len (λ t p. field_sum 0 (λ r. within from to p (class_sum_at cut (words_at slices p) (first + t) r))) buffers (λ t p. refl);
}

pub next_class : (places : List Place) (len : ℕ) (cut : Cut) (slices : List (List ℕ)) (words first size from to n : ℕ) (mid rows : Grid) (before blocks : List Outputs) (was half buffers : List (List ℕ))
    → ClassesAdded places len cut slices words first size from to n mid before was half → HasSize cut.levels words rows
    → CoverOutputs cut words first size (length places) blocks → AddsAt places len (λ t p. within from to p (class_sum_at cut (words_at slices p) (first + t) n)) half buffers
    → ClassesAdded places len cut slices words first size from to (n + 1) rows blocks was buffers
next_class places len cut slices words first size from to n mid rows before blocks was half buffers so_far kept cover added = record {
  kept = kept;
  cover = cover;
  added = adds_next places len n (λ r t p. within from to p (class_sum_at cut (words_at slices p) (first + t) r)) was half buffers so_far.added added;
}

-- all classes together give the recovery slices
pub all_classes : (places : List Place) (len : ℕ) (cut : Cut) (slices : List (List ℕ)) (words first size from to : ℕ) (rows : Grid) (blocks : List Outputs) (was buffers : List (List ℕ))
    → length slices ≤ 32768 → AreByteLists slices → Reaches (length slices) cut
    → ClassesAdded places len cut slices words first size from to cut.classes rows blocks was buffers → AddsAt places len (λ t p. within from to p (recovered slices (first + t) p)) was buffers
all_classes places len cut slices words first size from to rows blocks was buffers few bytes reaches all =
    adds_same places len (λ t p. field_sum cut.classes (λ r. within from to p (class_sum_at cut (words_at slices p) (first + t) r))) (λ t p. within from to p (recovered slices (first + t) p)) was buffers all.added
    (λ t p low fits.
    within_sum cut.classes from to p (class_sum_at cut (words_at slices p) (first + t))
    ∙ ap (within from to p) (sym (sum_by_classes (length slices) (words_at slices p) (words_are_first slices p few bytes) cut reaches (first + t))))

-- ---- one class

pub class_added : (places : List Place) (len : ℕ) (cut : Cut) (slices : List (List ℕ)) (words size r from to first : ℕ) (old blocks : List Outputs) (was buffers : List (List ℕ))
    → length slices ≤ 32768 → AreByteLists slices → AreBlocks cut words first size old → EachBlock (IsGathered cut slices r from cut.windows) old blocks
    → cut.window + size ≤ 2 ^ cut.levels + 1 → 1 ≤ size → length places ≤ length old * size → to ≤ from + words
    → AddsAt places len (λ t p. field_sum (length blocks) (λ j. block_part cut size r from to (outputs_at blocks j) j t p)) was buffers
    → AddsAt places len (λ t p. within from to p (class_sum_at cut (words_at slices p) (first + t) r)) was buffers
class_added places len cut slices words size r from to first old blocks was buffers few bytes are all fits some covered narrow added =
    adds_same places len (λ t p. field_sum (length blocks) (λ j. block_part cut size r from to (outputs_at blocks j) j t p)) (λ t p. within from to p (class_sum_at cut (words_at slices p) (first + t) r)) was buffers added
    (λ t p low in_bytes. blocks_give (length slices) cut slices words size r from to first t p old blocks (words_are_first slices p few bytes) are all.count all.done fits some (omega arith) narrow)

-- the first of three classes adds nothing
pub nothing_added : (places : List Place) (len : ℕ) (cut : Cut) (slices : List (List ℕ)) (first from to : ℕ) (buffers : List (List ℕ)) → cut.classes ≡ 3
    → AddsAt places len (λ t p. within from to p (class_sum_at cut (words_at slices p) (first + t) 0)) buffers buffers
nothing_added places len cut slices first from to buffers three =
    adds_none places len (λ t p. within from to p (class_sum_at cut (words_at slices p) (first + t) 0)) buffers
    (λ t p. within_zero from to p (class_sum_at cut (words_at slices p) (first + t) 0) (first_class_gives cut (words_at slices p) (first + t) three))

-- From coefficients in rows to the sums that the windows of a class gather.

-- ---- values

-- the rows have the values of window a of class r at the points
pub record AreWindowValues (cut : Cut) (slices : List (List ℕ)) (r a from : ℕ) (old new : Grid) : Type 0 where
  pub levels : new.levels ≡ old.levels
  pub words : new.words ≡ old.words
  pub values : (c u : ℕ) → c < old.words → u < 2 ^ cut.levels → column new c u ≡ window_value cut (words_at slices (from + c)) r a u

pub field_sum_short : (n m : ℕ) (f : ℕ → ℕ) → n ≤ m → ((i : ℕ) → n ≤ i → f i ≡ 0) → field_sum m f ≡ field_sum n f
field_sum_short n m f h none =
    let parts : n + (m - n) ≡ m = omega arith in
    ap (λ k. field_sum k f) (sym parts) ∙ field_sum_join n (m - n) f
    ∙ ap (bit_xor (field_sum n f)) (field_sum_none (m - n) (λ i. f (n + i)) (λ i l. none (n + i) (omega arith))) ∙ xor_zero_r (field_sum n f)

pub values_of_window : (cut : Cut) (slices : List (List ℕ)) (r a from : ℕ) (old mid new : Grid) → cut.window ≤ 2 ^ cut.levels → mid.levels ≡ cut.levels
    → HaveFirst cut.window (coefficients_from cut slices r a from) old mid → EachColumn (AreValues cut.window mid.levels) mid new → AreWindowValues cut slices r a from old new
values_of_window cut slices r a from old mid new fits levels coefficients values = record {
  levels = values.levels ∙ coefficients.levels;
  words = values.words ∙ coefficients.words;
  values = λ c u low here.
      values.columns c (let w = coefficients.words in omega (arith, w)) (λ m high none. coefficients.none c m high) u (subst (λ k. u < 2 ^ k) (sym levels) here)
      ∙ ap (λ k. value (2 ^ k) (column mid c) (point u)) levels
      ∙ field_sum_short cut.window (2 ^ cut.levels) (λ m. mul (column mid c m) (pow (point u) m)) fits
      (λ m h. ap (λ x. mul x (pow (point u) m)) (coefficients.none c m h) ∙ zero-product (pow (point u) m))
      ∙ field_sum_same cut.window (λ m. mul (column mid c m) (pow (point u) m)) (λ m. mul (coefficient_of cut (words_at slices (from + c)) r (a * cut.window + m)) (pow (point u) m))
      (λ m h. ap (λ x. mul x (pow (point u) m)) (coefficients.first c m low h));
}

-- ---- windows

pub nothing_gathered : (cut : Cut) (slices : List (List ℕ)) (r from : ℕ) (was block : Outputs) → IsCleared was block → IsGathered cut slices r from 0 was block
unfolding field_sum
nothing_gathered cut slices r from was block cleared = record {
  kept = cleared.kept;
  sums = λ c u low here. cleared.zero c u;
}

pub keeps_on : (a b d : Outputs) → Keeps a b → Keeps b d → Keeps a d
keeps_on a b d first second = grind arith

pub next_gathered : (cut : Cut) (slices : List (List ℕ)) (r from n : ℕ) (old rows : Grid) (was mid block : Outputs) → was.sums.levels ≡ cut.levels → was.sums.words ≡ old.words → IsGathered cut slices r from n was mid
    → AreWindowValues cut slices r n from old rows → Gathers n rows mid block → IsGathered cut slices r from (n + 1) was block
unfolding field_sum
next_gathered cut slices r from n old rows was mid block levels words so_far values one = record {
  kept = keeps_on was mid block so_far.kept one.kept;
  sums = λ c u low here.
      one.added c u (let w = so_far.kept.words in omega (arith, w)) (subst (λ k. u < 2 ^ k) (sym (so_far.kept.levels ∙ levels)) here)
      ∙ ap₂ bit_xor (so_far.sums c u low here) (ap₂ (λ ws x. mul (weight_at ws n u) x) so_far.kept.weights (values.values c u (omega (arith, words)) here))
      ∙ ap (λ k. field_sum k (λ a. mul (weight_at was.weights a u) (window_value cut (words_at slices (from + c)) r a u))) (let e : suc n ≡ n + 1 = omega arith in e);
}

-- ---- all blocks

all_become : (first second both : Outputs → Outputs → Type 0) (old mid new : List Outputs) → EachBlock first old mid → EachBlock second mid new
    → ((j : ℕ) → j < length old → first (outputs_at old j) (outputs_at mid j) → second (outputs_at mid j) (outputs_at new j) → both (outputs_at old j) (outputs_at new j)) → EachBlock both old new
all_become first second both old mid new a b join = grind arith

pub becomes_too : (first second : Outputs → Outputs → Type 0) (old new : List Outputs) → EachBlock first old new
    → ((j : ℕ) → j < length old → first (outputs_at old j) (outputs_at new j) → second (outputs_at old j) (outputs_at new j)) → EachBlock second old new
becomes_too first second old new a step = record { count = a.count; done = λ j h. step j h (a.done j h); rest = a.rest }

pub nothing_so_far : (cut : Cut) (slices : List (List ℕ)) (r from : ℕ) (old blocks : List Outputs) → EachBlock IsCleared old blocks → EachBlock (IsGathered cut slices r from 0) old blocks
nothing_so_far cut slices r from old blocks cleared =
    becomes_too IsCleared (IsGathered cut slices r from 0) old blocks cleared (λ j h c. nothing_gathered cut slices r from (outputs_at old j) (outputs_at blocks j) c)

pub one_window_more : (plan : Plan) (slices : List (List ℕ)) (r from n first : ℕ) (was rows : Grid) (old before blocks : List Outputs) → AreBlocks (cut_of plan) plan.columns first plan.block old → was.words ≡ plan.columns
    → EachBlock (IsGathered (cut_of plan) slices r from n) old before → AreWindowValues (cut_of plan) slices r n from was rows → EachBlock (Gathers n rows) before blocks → EachBlock (IsGathered (cut_of plan) slices r from (n + 1)) old blocks
one_window_more plan slices r from n first was rows old before blocks are words so_far values one =
    all_become (IsGathered (cut_of plan) slices r from n) (Gathers n rows) (IsGathered (cut_of plan) slices r from (n + 1)) old before blocks so_far one
    (λ j h a b. next_gathered (cut_of plan) slices r from n was rows (outputs_at old j) (outputs_at before j) (outputs_at blocks j) (are j h).levels ((are j h).words ∙ sym words) a values b)

-- the blocks keep their shape
pub shape_kept : (plan : Plan) (slices : List (List ℕ)) (r from n : ℕ) (old blocks : List Outputs) → EachBlock (IsGathered (cut_of plan) slices r from n) old blocks → HaveShape plan old → HaveShape plan blocks
shape_kept plan slices r from n old blocks so_far shape j h = grind arith

pub blocks_have_shape : (plan : Plan) (first size : ℕ) (blocks : List Outputs) → AreBlocks (cut_of plan) plan.columns first size blocks → HaveShape plan blocks
blocks_have_shape plan first size blocks are j h = record { windows = (are j h).windows; levels = (are j h).levels; words = (are j h).words }

-- what `auto` is given for the code
pub ruleset window_steps = (blocks_have_shape, shape_kept, kept_block, still_fits, no_first, next_first)

-- Weights of windows, one row after the other.

-- the first n windows have weights for exponent e
pub record WindowsWeighed (cut : Cut) (e n : ℕ) (rows : List (List ℕ)) : Type 0 where
  pub count : length rows ≡ n
  pub size : (a : ℕ) → a < n → length (list_at rows a) ≡ 2 ^ cut.levels
  pub fit : (a : ℕ) → a < n → GivesElements (weight_at rows a)
  pub are : (a : ℕ) → a < n → AreWeights cut.levels (chirp cut.classes) (a * cut.window + e) (weight_at rows a)

pub none_weighed : (cut : Cut) (e : ℕ) → WindowsWeighed cut e 0 []
none_weighed cut e = record { count = refl; size = λ a h. absurd (omega arith); fit = λ a h. absurd (omega arith); are = λ a h. absurd (omega arith) }

pub next_weighed : (cut : Cut) (e n : ℕ) (rows : List (List ℕ)) (words : List ℕ) → WindowsWeighed cut e n rows → length words ≡ 2 ^ cut.levels
    → GivesElements (λ u. get_or words u 0) → AreWeights cut.levels (chirp cut.classes) (n * cut.window + e) (λ u. get_or words u 0)
    → WindowsWeighed cut e (n + 1) (rows ++ words ∷ [])
next_weighed cut e n rows words so_far size fit are = record {
  count = length-append rows (words ∷ []) ∙ ap (λ k. k + 1) so_far.count;
  size = λ a h. elim (cases_lt a n) [
    | inl low ↦ ap length (before a low) ∙ so_far.size a low
    | inr high ↦ ap length (here a h high) ∙ size
  ];
  fit = λ a h u. elim (cases_lt a n) [
    | inl low ↦ subst (λ xs. get_or xs u 0 < 65536) (sym (before a low)) (so_far.fit a low u)
    | inr high ↦ subst (λ xs. get_or xs u 0 < 65536) (sym (here a h high)) (fit u)
  ];
  are = λ a h. elim (cases_lt a n) [
    | inl low ↦ subst (λ xs. AreWeights cut.levels (chirp cut.classes) (a * cut.window + e) (λ u. get_or xs u 0)) (sym (before a low)) (so_far.are a low)
    | inr high ↦ subst (λ xs. AreWeights cut.levels (chirp cut.classes) (a * cut.window + e) (λ u. get_or xs u 0)) (sym (here a h high))
        (subst (λ k. AreWeights cut.levels (chirp cut.classes) (k * cut.window + e) (λ u. get_or words u 0)) (let same : n ≡ a = omega arith in same) are)
  ];
}
  where
    before : (a : ℕ) → a < n → list_at (rows ++ words ∷ []) a ≡ list_at rows a
    before a low = get_or_append_left rows (words ∷ []) [] a (let c = so_far.count in omega (arith, c))

    here : (a : ℕ) → a < n + 1 → n ≤ a → list_at (rows ++ words ∷ []) a ≡ words
    here a h high = ap (list_at (rows ++ words ∷ [])) (let same : a ≡ n = omega arith in same) ∙ get_or_at rows words [] [] n so_far.count

-- a block takes the weights of all windows
pub weight_rows : (cut : Cut) (e n : ℕ) (rows : List (List ℕ)) → WindowsWeighed cut e n rows → AreWeightRows cut.levels rows
weight_rows cut e n rows all = record {
  size = λ a h. all.size a (let c = all.count in omega (arith, c));
  fit = λ a u. every_fit cut e n rows all a u;
}
  where
    every_fit : (cut : Cut) (e n : ℕ) (rows : List (List ℕ)) → WindowsWeighed cut e n rows → (a u : ℕ) → weight_at rows a u < 65536
    every_fit cut e n rows all a u = elim (cases_lt a n) [
      | inl low ↦ all.fit a low u
      | inr high ↦ subst (λ xs. get_or xs u 0 < 65536) (sym (get_or_past rows a [] (let c = all.count in omega (arith, c)))) (let none : 0 < 65536 = omega arith in none)
    ]

pub windows_weighed : (cut : Cut) (e : ℕ) (rows : List (List ℕ)) → WindowsWeighed cut e cut.windows rows → HasWeights cut e (weight_at rows)
windows_weighed cut e rows all = record {
  fit = λ a u. (weight_rows cut e cut.windows rows all).fit a u;
  are = λ a h. all.are a h;
}
