-- A list of all slices, known and lost ones, and the equations of the lost ones; what survives, and the lost slices that solve them.
use Rattle.par2_solve.proofs.Common.{ℕ, zero, suc, ◌+◌, ◌-◌, ◌*◌, ◌%◌, ◌<◌, ◌≤◌, ◌≡◌, refl, sym, ap, ap₂, ◌∙◌, arith, List, [], ◌∷◌, length, length-append, replicate, get_or, map, bit_xor, length-replicate, length-map, Bor, Option, Some, None, is_none, filter, range_with_len, enumerate_from, AllByRecursion, AllZip, xor_assoc, xor_zero_l, xor_comm, product-zero, mul, coefficient, padded, word, coefficients, combination, dot, recovery, lost, xor_off, coefficients_are, dot-lt, words_are, combination_words, all-append, all_from, recovered, known_of, with_lost_slices, lost_from, known_alone, bytes_or_none, AreByteLists, ◌≢◌, subst, Bool, cond, eqb, eq-eqb, ne_eqb, get_or-map, Result, IfErr, AllPairs-from_increasing, all_unmap, list_at, CanRebuild, known_among, recovered_of, exponents_of, IsRepairable, Agrees, kept_slices, all_get, all-filter, agreeing_are_one, AreRebuilt, syndrome, AreSolved, ForSome, none-some, same_Some, IfErr-weaker, bytes-zeros, all_weaker, by_test, all-both, TwoListsAgree, AnotherAlwaysAgrees, IsFaultOf, TwoAlwaysAgree, RebuildFault, NotRepairable, Memory, Inverts, IsInverseOf, Inverse, Rows, Located, Filled, IsStrictlyIncreasing}
use Rattle.par2_solve.proofs.Combinations.{word-padded, recovered_dot}
use Rattle.par2_spec.specs.Rank as ranks
use Rattle.par2_solve.specs.declared.rebuild_slices.Survivors as code

-- ---- the numbers of the lost slices

numbered : (s a : ℕ) (raw : List (Option (Bor (List ℕ)))) → map (λ z. z.0) (filter (λ z. is_none z.1) (enumerate_from a (known_of s raw))) ≡ lost_from a raw
numbered s a [] = refl
numbered s a (None ∷ raw) = ap (λ ns. a ∷ ns) (numbered s (a + 1) raw)
numbered s a (Some x ∷ raw) = numbered s (a + 1) raw

pub lost_are : (s : ℕ) (raw : List (Option (Bor (List ℕ)))) → lost (known_of s raw) ≡ lost_from 0 raw
lost_are s raw = numbered s 0 raw

numbers-lt : {A : Type 0} (a bound : ℕ) (known : List (Option A)) → a + length known ≤ bound → 0 < bound → (i : ℕ) → get_or (lost_from a known) i 0 < bound
numbers-lt a bound [] h some i = some
numbers-lt a bound (None ∷ known) h some zero = omega arith
numbers-lt a bound (None ∷ known) h some (suc i) = numbers-lt (a + 1) bound known (omega arith) some i
numbers-lt a bound (Some x ∷ known) h some i = numbers-lt (a + 1) bound known (omega arith) some i

pub lost-lt : {A : Type 0} (known : List (Option A)) → length known ≤ 32768 → (i : ℕ) → get_or (lost_from 0 known) i 0 < 32768
lost-lt known h i = numbers-lt 0 32768 known (omega arith) (omega arith) i

pub length-lost_from : {A : Type 0} (a bound : ℕ) (known : List (Option A)) → length known ≤ bound → length (lost_from a known) ≤ bound
length-lost_from a bound [] h = omega arith
length-lost_from a bound (Some x ∷ known) h = length-lost_from (a + 1) bound known (omega arith)
length-lost_from a zero (None ∷ known) h = absurd (omega arith)
length-lost_from a (suc bound) (None ∷ known) h = let rest = length-lost_from (a + 1) bound known (omega arith) in omega (arith, rest)

lost_above : {A : Type 0} (a : ℕ) (known : List (Option A)) (i : ℕ) → i < length (lost_from a known) → a ≤ get_or (lost_from a known) i 0
lost_above a [] i h = absurd (omega (arith, h))
lost_above a (Some x ∷ known) i h = let rest = lost_above (a + 1) known i h in omega (arith, rest)
lost_above a (None ∷ known) zero h = omega arith
lost_above a (None ∷ known) (suc i) h = let rest = lost_above (a + 1) known i (omega (arith, h)) in omega (arith, rest)

pub lost_rise : {A : Type 0} (a : ℕ) (known : List (Option A)) → IsStrictlyIncreasing (lost_from a known)
lost_rise a [] k h = absurd (omega (arith, h))
lost_rise a (Some x ∷ known) k h = lost_rise (a + 1) known k h
lost_rise a (None ∷ known) zero h =
    let e : 0 + 1 ≡ suc 0 = omega arith in
    subst (λ n. a < get_or (a ∷ lost_from (a + 1) known) n 0) (sym e) (omega (arith, lost_above (a + 1) known 0 (omega (arith, h))))
lost_rise a (None ∷ known) (suc k) h =
    let e : suc k + 1 ≡ suc (k + 1) = omega arith in
    subst (λ n. get_or (lost_from (a + 1) known) k 0 < get_or (a ∷ lost_from (a + 1) known) n 0) (sym e) (lost_rise (a + 1) known k (omega (arith, h)))

-- ---- all slices from the known and the lost ones

pub length-filled : (s : ℕ) (raw : List (Option (Bor (List ℕ)))) (buffers : List (List ℕ)) → length (with_lost_slices (known_of s raw) buffers) ≡ length raw
length-filled s [] buffers = refl
length-filled s (Some x ∷ raw) buffers = ap suc (length-filled s raw buffers)
length-filled s (None ∷ raw) [] = ap suc (length-filled s raw [])
length-filled s (None ∷ raw) (t ∷ buffers) = ap suc (length-filled s raw buffers)

-- the sum of a word's products over all slices is that over the known ones plus that over the lost ones
split : (s e w a : ℕ) (raw : List (Option (Bor (List ℕ)))) (buffers : List (List ℕ)) → length buffers ≡ length (lost_from a raw)
    → dot (coefficients (range_with_len a (length raw)) e) (map (word w) (with_lost_slices (known_of s raw) buffers))
    ≡ bit_xor (dot (coefficients (range_with_len a (length raw)) e) (map (word w) (map bytes_or_none raw))) (dot (coefficients (lost_from a raw) e) (map (word w) buffers))
unfolding dot
split s e w a [] [] h = refl
split s e w a [] (t ∷ buffers) h = absurd (omega arith)
split s e w a (Some x ∷ raw) buffers h =
    ap₂ (λ y rest. bit_xor (mul (coefficient e a) y) rest) (word-padded s x.now w) (split s e w (a + 1) raw buffers h)
    ∙ sym (xor_assoc (mul (coefficient e a) (word w x.now)) (dot (coefficients (range_with_len (a + 1) (length raw)) e) (map (word w) (map bytes_or_none raw))) (dot (coefficients (lost_from (a + 1) raw) e) (map (word w) buffers)))
split s e w a (None ∷ raw) [] h = absurd (omega arith)
split s e w a (None ∷ raw) (t ∷ buffers) h =
    let here = mul (coefficient e a) (word w t) in
    let ours = dot (coefficients (range_with_len (a + 1) (length raw)) e) (map (word w) (map bytes_or_none raw)) in
    let others = dot (coefficients (lost_from (a + 1) raw) e) (map (word w) buffers) in
    ap (bit_xor here) (split s e w (a + 1) raw buffers (omega arith))
    ∙ sym (xor_assoc here ours others) ∙ ap (λ x. bit_xor x others) (xor_comm here ours) ∙ xor_assoc ours here others
    ∙ ap (λ x. bit_xor x (bit_xor here others)) (sym (ap (λ x. bit_xor x ours) (product-zero (coefficient e a)) ∙ xor_zero_l ours))

-- ---- sizes

-- lists of s bytes
abbrev pub AreSized : ℕ → List (List ℕ) → Type 0
AreSized s buffers = AllByRecursion (λ bytes. length bytes ≡ s) buffers × AllByRecursion (λ bytes. AllByRecursion (λ b. b < 256) bytes) buffers

-- a slice of at most s bytes has s bytes with its padding
pub sized_padded : (s : ℕ) (slice : List ℕ) → length slice ≤ s → ((k : ℕ) → get_or slice k 0 < 256) → (length (padded s slice) ≡ s) × AllByRecursion (λ b. b < 256) (padded s slice)
sized_padded s slice short bytes =
    let n = s - length slice in
    let e = length-append slice (replicate n 0) in
    let zeros = length-replicate {A = ℕ} n 0 in
    (omega (arith, e, zeros, short), all-append (λ b. b < 256) slice (replicate n 0) (all_from (λ b. b < 256) 0 slice (λ k low. bytes k)) (bytes-zeros n))

pub sized_filled : (s a : ℕ) (raw : List (Option (Bor (List ℕ)))) (buffers : List (List ℕ)) → AllByRecursion (λ slice. length slice.now ≤ s) (known_alone raw) → AreByteLists (map bytes_or_none raw)
    → AreSized s buffers → length buffers ≡ length (lost_from a raw) → AreSized s (with_lost_slices (known_of s raw) buffers)
sized_filled s a [] buffers k bytes t h = (tt, tt)
sized_filled s a (Some x ∷ raw) buffers k bytes t h =
    let rest = sized_filled s (a + 1) raw buffers k.1 (λ r i. bytes (suc r) i) t h in
    let here = sized_padded s x.now k.0 (bytes 0) in
    ((here.0, rest.0), (here.1, rest.1))
sized_filled s a (None ∷ raw) [] k bytes t h = absurd (omega arith)
sized_filled s a (None ∷ raw) (x ∷ buffers) k bytes t h =
    let rest = sized_filled s (a + 1) raw buffers k (λ r i. bytes (suc r) i) (t.0.1, t.1.1) (omega arith) in
    ((t.0.0, rest.0), (t.1.0, rest.1))

-- ---- an equation of the lost slices and the recovery slice that it comes from

-- if the lost slices contribute at each word the recovery slice minus the known slices, all slices give the recovery
-- slice
pub equation : (s e : ℕ) (raw : List (Option (Bor (List ℕ)))) (found : List ℕ) (buffers : List (List ℕ)) → s % 2 ≡ 0 → AreSized s (with_lost_slices (known_of s raw) buffers)
    → length buffers ≡ length (lost_from 0 raw) → length found ≡ s → ((k : ℕ) → get_or found k 0 < 256)
    → ((w : ℕ) → 2 * w + 1 < s → dot (coefficients (lost_from 0 raw) e) (map (word w) buffers) ≡ bit_xor (word w found) (recovered (map bytes_or_none raw) e w))
    → recovery s (with_lost_slices (known_of s raw) buffers) e ≡ found
unfolding recovery
equation s e raw found buffers even sized count size bytes h =
    let all : List (List ℕ) = with_lost_slices (known_of s raw) buffers in
    let row : List ℕ = coefficients (range_with_len 0 (length raw)) e in
    ap (λ n. combination s (coefficients (range_with_len 0 n) e) all) (length-filled s raw buffers)
    ∙ (combination_words s row all found even (λ w. dot-lt row (map (word w) all) (coefficients_are e (range_with_len 0 (length raw))) (words_are w all sized.1)) size bytes).1
    (λ w low.
    let known = recovered (map bytes_or_none raw) e w in
    split s e w 0 raw buffers count
    ∙ ap₂ bit_xor (ap (λ n. dot (coefficients (range_with_len 0 n) e) (map (word w) (map bytes_or_none raw))) (sym (length-map raw bytes_or_none)) ∙ recovered_dot e (map bytes_or_none raw) w) (h w low)
    ∙ xor_comm known (bit_xor (word w found) known) ∙ xor_off (word w found) known)

-- ---- the slices that are known

pub filled_known : (known : List (Option (List ℕ))) (buffers : List (List ℕ)) → AllZip (λ slice bytes. ForSome slice (λ found. bytes ≡ found)) known (with_lost_slices known buffers)
filled_known [] buffers = tt
filled_known (Some x ∷ known) buffers = ((λ y e. (cc)), filled_known known buffers)
filled_known (None ∷ known) [] = ((λ y e. (cc)), filled_known known [])
filled_known (None ∷ known) (t ∷ buffers) = ((λ y e. (cc)), filled_known known buffers)

-- What survives, in the form that the laws of lists that agree need, and those laws if a rebuild is refused.

-- the law that another list agrees
abbrev pub AnotherLaw : Type 0
AnotherLaw =
    (s : ℕ) (known : List (Option (List ℕ))) (recovery : List (ℕ × List ℕ)) (slices : List (List ℕ)) → 2 ≤ s → (IsRepairable (lost known) (map (λ r. r.0) recovery) → ⊥)
    → ranks.Agrees s known recovery slices → ranks.AnotherAgrees s known recovery slices

-- ---- the bytes of each exponent

-- the bytes of the first recovery slice of an exponent, none if there is none
bytes_of : List (ℕ × List ℕ) → ℕ → List ℕ
bytes_of [] e = []
bytes_of (r ∷ rs) e = cond (eqb r.0 e) r.1 (bytes_of rs e)

buffer_at : (rs : List (ℕ × List ℕ)) (i : ℕ) → i < length rs → ((k : ℕ) → k < i → (get_or rs k (0, [])).0 ≢ (get_or rs i (0, [])).0)
    → bytes_of rs (get_or rs i (0, [])).0 ≡ (get_or rs i (0, [])).1
unfolding bytes_of
buffer_at [] i low others = absurd (omega arith)
buffer_at (r ∷ rs) zero low others = ap (λ b. cond b r.1 (bytes_of rs r.0)) (eq-eqb r.0 r.0 refl)
buffer_at (r ∷ rs) (suc i) low others =
    let e = (get_or rs i (0, [])).0 in
    ap (λ b. cond b r.1 (bytes_of rs e)) (ne_eqb r.0 e (others 0 (omega arith))) ∙ buffer_at rs i (omega arith) (λ k h. others (suc k) (omega arith))

bytes_has : (P : List ℕ → Type 0) → P [] → (rs : List (ℕ × List ℕ)) → AllByRecursion (λ r. P r.1) rs → (e : ℕ) → P (bytes_of rs e)
unfolding bytes_of
bytes_has P none [] all e = none
bytes_has P none (r ∷ rs) all e =
    let here = λ (b : Bool). P (cond b r.1 (bytes_of rs e)) in
    by_test (eqb r.0 e) (λ same. subst here (sym same) all.0) (λ other. subst here (sym other) (bytes_has P none rs all.1 e))

-- ---- a number above all exponents

above : List (ℕ × List ℕ) → ℕ
above [] = 0
above (r ∷ rs) = suc (r.0 + above rs)

all_below : (rs : List (ℕ × List ℕ)) → AllByRecursion (λ r. r.0 < above rs) rs
unfolding above
all_below [] = tt
all_below (r ∷ rs) = (omega arith, all_weaker (λ q. q.0 < above rs) (λ q. q.0 < suc (r.0 + above rs)) (λ q low. omega arith) rs (all_below rs))

-- ---- the known slices

abbrev IsSliceBytes : ℕ → List ℕ → Type 0
IsSliceBytes s bytes = (length bytes ≡ s) × AllByRecursion (λ b. b < 256) bytes

known_are : (s : ℕ) (raw : List (Option (Bor (List ℕ)))) → AllByRecursion (λ slice. length slice.now ≤ s) (known_alone raw) → AreByteLists (map bytes_or_none raw) → AllByRecursion (λ slice. ForSome slice (IsSliceBytes s)) (known_of s raw)
known_are s [] short bytes = tt
known_are s (None ∷ raw) short bytes = ((λ content is. absurd (none-some content is)), known_are s raw short (λ r k. bytes (suc r) k))
known_are s (Some x ∷ raw) short bytes = (
  (λ content is. subst (IsSliceBytes s) (same_Some _ content is) (sized_padded s x.now short.0 (bytes 0))),
  known_are s raw short.1 (λ r k. bytes (suc r) k),
)

-- ---- what survives

module _ (survivors : code.Survivors) (can : CanRebuild survivors) (known_bytes : AreByteLists (map bytes_or_none survivors.known.items)) (recovery_bytes : AreByteLists (map (λ r. r.1) (recovered_of survivors.recovery.items))) where
  recs : List (ℕ × List ℕ)
  recs = recovered_of survivors.recovery.items

  each_differs : (i k : ℕ) → i < length recs → k < i → (get_or recs k (0, [])).0 ≢ (get_or recs i (0, [])).0
  unfolding recs
  each_differs i k low first same =
      let all = recovered_of survivors.recovery.items in
      let key = λ (r : ℕ × List ℕ). r.0 in
      let within : i < length all = low in
      let earlier : k < length all = omega arith in
      let rises = AllPairs-from_increasing (map key all) can.exponents k i 0 first (rw (length-map all key) within) in
      let one = get_or-map key all k (0, []) 0 earlier in
      let other = get_or-map key all i (0, []) 0 within in
      omega (arith, rises, same, one, other)

  buffers_are : AllByRecursion (λ r. bytes_of recs r.0 ≡ r.1) recs
  buffers_are = all_from (λ r. bytes_of recs r.0 ≡ r.1) (0, []) recs (λ i low. buffer_at recs i low (λ k first. each_differs i k low first))

  recovery_are : AllByRecursion (λ r. ranks.AreBytes r.1) recs
  unfolding recs
  recovery_are =
      let all = recovered_of survivors.recovery.items in
      all_unmap ranks.AreBytes (λ (r : ℕ × List ℕ). r.1) all (all_from ranks.AreBytes [] (map (λ (r : ℕ × List ℕ). r.1) all) (λ i low. all_from (λ b. b < 256) 0 (list_at (map (λ (r : ℕ × List ℕ). r.1) all) i) (λ k l. recovery_bytes i k)))

  -- what survives is byte lists, one for each exponent
  survive : ranks.AreSurvivors survivors.slice (above recs) (known_among survivors) (recovered_of survivors.recovery.items) (bytes_of recs)
  unfolding recs
  survive =
      let known = known_are survivors.slice survivors.known.items can.known known_bytes in
      let sized = λ (r : ℕ × List ℕ). length r.1 ≡ survivors.slice in
      let low = λ (r : ℕ × List ℕ). r.0 < above recs in
      let reported = λ (r : ℕ × List ℕ). bytes_of recs r.0 ≡ r.1 in
      let both = all-both low sized (λ r. low r × sized r) (λ r l e. (l, e)) recs (all_below recs) can.recovery in
      record {
        even = can.even;
        known_sizes = all_weaker (λ slice. ForSome slice (IsSliceBytes survivors.slice)) (λ slice. ForSome slice (λ found. length found ≡ survivors.slice)) (λ slice is found e. (is found e).0) _ known;
        known_bytes = all_weaker (λ slice. ForSome slice (IsSliceBytes survivors.slice)) (λ slice. ForSome slice ranks.AreBytes) (λ slice is found e. (is found e).1) _ known;
        bytes = bytes_has ranks.AreBytes tt recs recovery_are;
        each = all-both (λ r. low r × sized r) reported (λ r. low r × sized r × reported r) (λ r b t. (b.0, b.1, t)) recs both buffers_are;
      }

  -- ---- if a rebuild is refused

  another_where : AnotherLaw → 2 ≤ survivors.slice → (fault : RebuildFault) → IsFaultOf survivors fault → AnotherAlwaysAgrees survivors fault
  another_where law some (NotRepairable missing rank) is = λ slices agrees. law survivors.slice (known_among survivors) (recovered_of survivors.recovery.items) slices some is.2 agrees
  another_where law some Memory is = tt

  pub another : {A : Type 0} (r : Result A RebuildFault) → AnotherLaw → 2 ≤ survivors.slice → IfErr r (IsFaultOf survivors) → IfErr r (AnotherAlwaysAgrees survivors)
  another r law some = IfErr-weaker r (IsFaultOf survivors) (AnotherAlwaysAgrees survivors) (another_where law some)

  two_where : TwoListsAgree → 2 ≤ survivors.slice → (fault : RebuildFault) → IsFaultOf survivors fault → TwoAlwaysAgree survivors fault
  two_where law some (NotRepairable missing rank) is = law survivors.slice (above recs) (known_among survivors) (recovered_of survivors.recovery.items) (bytes_of recs) survive some is.2
  two_where law some Memory is = tt

  pub two : {A : Type 0} (r : Result A RebuildFault) → TwoListsAgree → 2 ≤ survivors.slice → IfErr r (IsFaultOf survivors) → IfErr r (TwoAlwaysAgree survivors)
  two r law some = IfErr-weaker r (IsFaultOf survivors) (TwoAlwaysAgree survivors) (two_where law some)

-- The result once the kept exponents are known.

-- the matrix has as many exponents as slices are lost
pub square : (missing es : List ℕ) (inverse : Inverse) → Inverts missing es inverse → length es ≡ length missing
square missing es (Rows rows) is = is.square
square missing es (Located locator) is = is.is_inverse.square
square missing es (Filled filling) is = is.square

-- the inverse alone determines how many slices are lost
pub same_count : (missing es : List ℕ) (n : ℕ) (inverse : Inverse) → Inverts missing es inverse → IsInverseOf n inverse → length missing ≡ n
same_count missing es n (Rows rows) is (es₂, (missing₂, is₂), many) = sym is.count ∙ is₂.count ∙ sym is₂.square ∙ many
same_count missing es n (Located locator) is (es₂, (missing₂, is₂), many) = sym is.wide ∙ is₂.wide ∙ sym is₂.is_inverse.square ∙ many
same_count missing es n (Filled filling) is (es₂, (missing₂, is₂), many) = sym is.run.wide ∙ is₂.run.wide ∙ sym is₂.square ∙ many

-- what solves the equations with the syndromes is the lost slices
pub answer : (survivors : code.Survivors) → CanRebuild survivors → (missing : List ℕ) (kept : List (ℕ × List ℕ)) (made : List (List ℕ)) → missing ≡ lost_from 0 survivors.known.items
    → kept ≡ kept_slices missing (exponents_of survivors.recovery.items) (recovered_of survivors.recovery.items) → length (map (λ r. r.0) kept) ≡ length missing
    → IsRepairable missing (exponents_of survivors.recovery.items) → AreByteLists (map bytes_or_none survivors.known.items) → AreByteLists (map (λ r. r.1) kept)
    → AreSolved survivors.slice missing (map (λ r. r.0) kept) (syndrome (map (λ r. r.0) kept) (map bytes_or_none survivors.known.items) (map (λ r. r.1) kept)) made → AreByteLists made
    → AreRebuilt survivors (with_lost_slices (known_among survivors) made) × (length made ≡ length (lost (known_among survivors)))
answer survivors can missing kept made lost_is chosen square enough bytes kept_bytes solved fit =
    let s : ℕ = survivors.slice in
    let raw : List (Option (Bor (List ℕ))) = survivors.known.items in
    let known : List (Option (List ℕ)) = known_among survivors in
    let recs : List (ℕ × List ℕ) = recovered_of survivors.recovery.items in
    let all : List ℕ = exponents_of survivors.recovery.items in
    let slices : List (List ℕ) = with_lost_slices known made in
    let es : List ℕ = map (λ (r : ℕ × List ℕ). r.0) kept in
    let given : List (List ℕ) = map (λ (r : ℕ × List ℕ). r.1) kept in
    let buffers : List (List ℕ) = map bytes_or_none raw in
    let here : missing ≡ lost known = lost_is ∙ sym (lost_are s raw) in
    let kept_count : length kept ≡ length missing = sym (length-map kept (λ (r : ℕ × List ℕ). r.0)) ∙ square in
    let count : length made ≡ length missing = solved.count in
    let sized : AreSized s slices =
    sized_filled s 0 raw made can.known bytes (
      all_from (λ (content : List ℕ). length content ≡ s) [] made (λ i h. solved.sizes i (omega (arith, h, count))),
      all_from (λ (content : List ℕ). AllByRecursion (λ b. b < 256) content) [] made (λ i h. all_from (λ b. b < 256) 0 (list_at made i) (λ k l. fit i k)),
    ) (count ∙ ap length lost_is) in
    let sizes : AllByRecursion (λ (r : ℕ × List ℕ). length r.1 ≡ s) kept = subst (λ rs. AllByRecursion (λ (r : ℕ × List ℕ). length r.1 ≡ s) rs) (sym chosen) (all-filter (λ (r : ℕ × List ℕ). length r.1 ≡ s) _ recs can.recovery) in
    let each : (j : ℕ) → j < length kept → recovery s slices (get_or kept j (0, [])).0 ≡ (get_or kept j (0, [])).1 = λ j h.
    let e : ℕ = (get_or kept j (0, [])).0 in
    let found : List ℕ = (get_or kept j (0, [])).1 in
    let exponent : get_or es j 0 ≡ e = get_or-map (λ (r : ℕ × List ℕ). r.0) kept j (0, []) 0 h in
    let is_found : list_at given j ≡ found = get_or-map (λ (r : ℕ × List ℕ). r.1) kept j (0, []) [] h in
    equation s e raw found made can.even sized (count ∙ ap length lost_is) (all_get (λ (r : ℕ × List ℕ). length r.1 ≡ s) kept j (0, []) h sizes) (subst (λ xs. (k : ℕ) → get_or xs k 0 < 256) is_found (kept_bytes j))
    (λ w fits.
    subst (λ ls. dot (coefficients ls e) (map (word w) made) ≡ bit_xor (word w found) (recovered buffers e w)) lost_is
    (subst (λ x. dot (coefficients missing x) (map (word w) made) ≡ bit_xor (word w found) (recovered buffers x w)) exponent
    (solved.words j w (omega (arith, h, kept_count)) fits ∙ ap (λ xs. bit_xor (word w xs) (recovered buffers (get_or es j 0) w)) is_found))) in
    let agrees : Agrees s known (kept_slices (lost known) all recs) slices =
    subst (λ rs. Agrees s known rs slices) (chosen ∙ ap (λ ns. kept_slices ns all recs) here) (record {
      sizes = sized.0;
      bytes = sized.1;
      as_known = filled_known known made;
      as_recovered = all_from (λ (r : ℕ × List ℕ). recovery s slices r.0 ≡ r.1) (0, []) kept each;
    }) in (
      record { agrees = agrees; only = λ others more. agreeing_are_one s known recs others slices can.even (subst (λ ls. IsRepairable ls all) here enough) more agrees },
      count ∙ ap length here,
    )
