-- Files that are cut out of slices.
use Rattle.par2_repair.proofs.Common.{◌≡◌, ◌∙◌, ℕ, zero, suc, ◌+◌, ◌-◌, ◌≤◌, List, [], ◌∷◌, ◌++◌, length, take, refl, sym, ap, arith, min, replicate, concat, length-map, length-replicate, length-take, take-replicate, take_all, take_min, length-append, concat-append, padded, append-nil, append_assoc, map, ap₂, Bor, IfSome, None, Some, AllByRecursion, All-head, All-tail, known_of, known_alone, with_lost_slices, Window, AreShort, padded_window, subst, false, not, Option, option_map, false_from_ne_true, fault_where, IsRebuilt, IsRepairable, is_repairable, rank, kept_slices, rebuilt, known, all_pairs, lost, survivors, Folder, ParSet, NotRepairable, recovered_of, IsFaultOf, IsTrueFault, exponents_of, undetermined_fault, AreSurvivorsOf, known_among, AreRebuilt, AreEnough, drop, drop-drop, Bool, cond, filter, zip, is_among, cut_into, Target, ◌||◌, unwrap_or, BTreeMap, HasAsides, itself, clash, slice_cmp, nat_list_cmp_total, nat_cmp, eq_by_cmp, Equal-is, eq_by_cmp_equiv, update_all_pairs, update_all, exact_bytes, FilesHaveTheirSize, RebuiltSlicesAgree, TestsSayTheWords, length-filled, Ok, Err, OnOk, Result, is_ok, member_among}
use Rattle.par2_spec.specs.Repairs.{files_of_slices, kept_recovery}
use Rattle.par2_solve.specs.declared.rebuild_slices.RebuildFault.TheVariants as why
use Rattle.par2_solve.specs.declared.rebuild_slices.Survivors as code
use Rattle.std.specs.BTreeMap as trees

-- a list is the expected one if the call that makes it succeeds
pub where_ok : {X A E : Type 0} (r : Result A E) (new made old wanted : List X) → new ≡ cond (is_ok r) made old → made ≡ wanted → OnOk r (new ≡ wanted)
where_ok (Ok x) new made old wanted e h = e ∙ h
where_ok (Err x) new made old wanted e h = tt

-- the first items of two lists, appended
pub take-append : (n : ℕ) (xs ys : List ℕ) → take n (xs ++ ys) ≡ take n xs ++ take (n - length xs) ys
take-append zero [] ys = refl
take-append (suc n) [] ys = let e : suc n ≡ suc n - 0 = omega arith in ap (λ k. take k ys) e
take-append zero (x ∷ xs) ys = let e : 0 ≡ 0 - suc (length xs) = omega arith in ap (λ k. take k ys) e
take-append (suc n) (x ∷ xs) ys = grind (arith, take-append n xs ys)

take-zeros : (k n : ℕ) → take {A = ℕ} k (replicate n 0) ≡ replicate (min k n) 0
take-zeros k n =
    sym (take_min k (replicate {A = ℕ} n 0)) ∙ ap (λ m. take (min k m) (replicate {A = ℕ} n 0)) (length-replicate {A = ℕ} n 0)
    ∙ take-replicate {X = ℕ} (min k n) n 0 (omega arith)

-- the first bytes of a file with one more slice
pub one_more_slice : (size s : ℕ) (old bytes file : List ℕ) (n : ℕ) → length old ≤ size
    → file ≡ old ++ take (min (size - length old) (length bytes)) bytes
    → n ≡ length file + min (size - length file) (s - length bytes)
    → take n file ++ replicate (n - length file) 0 ≡ take size (old ++ padded s bytes)
one_more_slice size s old bytes file n fits made long =
    let room : ℕ = size - length old in
    let zeros : ℕ = s - length bytes in
    let front : file ≡ old ++ take room bytes = made ∙ ap (λ xs. old ++ xs) (take_min room bytes) in
    let count : length file ≡ length old + min room (length bytes) = ap length front ∙ length-append old (take room bytes) ∙ ap (λ k. length old + k) (length-take room bytes) in
    let left : size - length file ≡ room - length bytes = omega (arith, count) in
    let added : n - length file ≡ min (room - length bytes) zeros = omega (arith, long, ap (λ k. min k zeros) left) in
    let whole : take n file ≡ file = take_all n file (omega (arith, long)) in
    ap (λ xs. xs ++ replicate (n - length file) 0) (whole ∙ front)
    ∙ ap (λ k. (old ++ take room bytes) ++ replicate k 0) added
    ∙ append_assoc old (take room bytes) (replicate (min (room - length bytes) zeros) 0)
    ∙ ap (λ xs. old ++ (take room bytes ++ xs)) (sym (take-zeros (room - length bytes) zeros))
    ∙ ap (λ xs. old ++ xs) (sym (take-append room bytes (replicate zeros 0)))
    ∙ ap (λ xs. xs ++ take room (padded s bytes)) (sym (take_all size old fits))
    ∙ sym (take-append size old (padded s bytes))

-- cutting the first list before makes no difference
pub take-again : (n : ℕ) (xs ys : List ℕ) → take n (take n xs ++ ys) ≡ take n (xs ++ ys)
take-again zero xs ys = refl
take-again (suc n) [] ys = refl
take-again (suc n) (x ∷ xs) ys = ap (λ zs. x ∷ zs) (take-again n xs ys)

pub concat_push : (xs : List (List ℕ)) (x : List ℕ) → concat (xs ++ x ∷ []) ≡ concat xs ++ x
concat_push xs x = concat-append xs (x ∷ []) ∙ ap (λ zs. concat xs ++ zs) (append-nil x)

-- Slices that are found and slices that are rebuilt.

-- ---- what survives

abbrev IsShort : ℕ → Window → Type 0
IsShort s window = IfSome window (λ bytes. length bytes.now ≤ s)

pub short_present : (s : ℕ) (windows : List Window) → AreShort s windows → AllByRecursion (λ slice. length slice.now ≤ s) (known_alone windows)
short_present s [] h = tt
short_present s (None ∷ windows) h = short_present s windows (All-tail (IsShort s) None windows h)
short_present s (Some window ∷ windows) h =
    (All-head (IsShort s) (Some window) windows h, short_present s windows (All-tail (IsShort s) (Some window) windows h))

-- ---- slices with their padding

pub padded_whole : (s : ℕ) (bytes : List ℕ) → length bytes ≡ s → padded s bytes ≡ bytes
padded_whole s bytes h =
    let none : s - length bytes ≡ 0 = omega arith in
    ap (λ n. bytes ++ replicate n 0) none ∙ append-nil bytes

-- the found slices, without their padding
abbrev pub found_ones : List Window → List (Option (List ℕ))
found_ones windows = map (option_map (λ (bytes : Bor (List ℕ)). bytes.now)) windows

pub filled_merged : (s : ℕ) (windows : List Window) (buffers : List (List ℕ)) → AllByRecursion (λ slice. length slice ≡ s) (with_lost_slices (known_of s windows) buffers) → with_lost_slices (known_of s windows) buffers ≡ map (padded s) (with_lost_slices (found_ones windows) buffers)
filled_merged s [] buffers h = refl
filled_merged s (Some window ∷ windows) buffers h = ap (λ slices. padded s window.now ∷ slices) (filled_merged s windows buffers h.1)
filled_merged s (None ∷ windows) [] h = ap₂ (λ slice slices. slice ∷ slices) (sym (padded_whole s [] h.0)) (filled_merged s windows [] h.1)
filled_merged s (None ∷ windows) (bytes ∷ buffers) h = ap₂ (λ slice slices. slice ∷ slices) (sym (padded_whole s bytes h.0)) (filled_merged s windows buffers h.1)

-- Slices that are rebuilt from the survivors are those of the definitions.

module _ (folder : Folder) (set : ParSet) (searched : List (List ℕ)) (found : code.Survivors) (are : AreSurvivorsOf folder set searched found) where
  abbrev slices : List (Option (List ℕ))
  slices = known folder set searched

  rebuilt_for : (all : List (List ℕ)) → AreRebuilt found all → IsRebuilt set.slice_size slices (kept_recovery set slices) all
  rebuilt_for all alone =
      subst (λ recs. IsRebuilt set.slice_size slices (kept_slices (lost slices) (map (λ r. r.0) recs) recs) all) are.recovery
      (subst (λ kn. IsRebuilt set.slice_size kn (kept_slices (lost kn) (exponents_of found.recovery.items) (recovered_of found.recovery.items)) all) are.known
      (subst (λ s. IsRebuilt s (known_among found) (kept_slices (lost (known_among found)) (exponents_of found.recovery.items) (recovered_of found.recovery.items)) all) are.size alone))

  module _ (buffers : List (List ℕ)) (alone : AreRebuilt found (with_lost_slices (known_among found) buffers)) where
    abbrev merged : List (List ℕ)
    merged = with_lost_slices (found_ones found.known.items) buffers

    filled : with_lost_slices (known_among found) buffers ≡ map (padded set.slice_size) merged
    filled = filled_merged found.slice found.known.items buffers alone.agrees.sizes ∙ ap (λ s. map (padded s) merged) are.size

    pub all_slices : RebuiltSlicesAgree → map (padded set.slice_size) merged ≡ rebuilt set slices
    all_slices law = sym filled ∙ sym (law.only set slices _ (rebuilt_for _ alone))

    pub all_sized : AllByRecursion (λ slice. length slice ≡ set.slice_size) (map (padded set.slice_size) merged)
    all_sized = subst (AllByRecursion (λ slice. length slice ≡ set.slice_size)) filled (rebuilt_for _ alone).agrees.sizes

    pub all_counted : length merged ≡ length (all_pairs set)
    unfolding known
    all_counted =
        sym (length-map merged (padded set.slice_size)) ∙ sym (ap length filled) ∙ length-filled found.slice found.known.items buffers
        ∙ sym (length-map found.known.items (padded_window found.slice)) ∙ ap length are.known ∙ length-map (all_pairs set) _

    pub all_lengths : FilesHaveTheirSize → (bare : List (List ℕ)) → bare ≡ merged → AllByRecursion (λ c. length c.1 ≡ c.0.length) (files_of_slices set (map (padded set.slice_size) bare))
    all_lengths law bare e =
        subst (λ bs. AllByRecursion (λ (c : Target × List ℕ). length c.1 ≡ c.0.length) (files_of_slices set (map (padded set.slice_size) bs))) (sym e)
        (law set (map (padded set.slice_size) merged) are.sound (length-map merged (padded set.slice_size) ∙ all_counted) all_sized)

  -- ---- refusals

  module _ (says : TestsSayTheWords) where
    pub lost_fault : (missing count : ℕ) → IsFaultOf found (why.NotRepairable missing count) → undetermined_fault folder set searched ≡ Some (NotRepairable missing count)
    lost_fault missing count h =
        let fault : IsTrueFault (lost slices) (survivors set) (why.NotRepairable missing count) =
        subst (λ recs. IsTrueFault (lost slices) (map (λ r. r.0) recs) (why.NotRepairable missing count)) are.recovery
        (subst (λ kn. IsTrueFault (lost kn) (exponents_of found.recovery.items) (why.NotRepairable missing count)) are.known h) in
        let no : is_repairable (lost slices) (survivors set) ≡ false = false_from_ne_true _ (λ yes. fault.2 ((says.repairable _ _).0 yes)) in
        ap₂ (λ b f. fault_where (not b) f) no (ap₂ (λ m r. NotRepairable m r) (sym fault.0) (sym fault.1))

    pub no_fault : AreEnough found → undetermined_fault folder set searched ≡ None
    no_fault enough =
        let words : IsRepairable (lost slices) (survivors set) =
        subst (λ recs. IsRepairable (lost slices) (map (λ r. r.0) recs)) are.recovery
        (subst (λ kn. IsRepairable (lost kn) (exponents_of found.recovery.items)) are.known enough) in
        ap (λ b. fault_where (not b) (NotRepairable (length (lost slices)) (rank (lost slices) (survivors set)))) ((says.repairable _ _).1 words)

-- The targets one after the other, cut out of the slices that are left.

abbrev pub walked : List Target → List (List ℕ) → List (Target × List ℕ)
walked ts slices = map (λ z. (z.0, take z.0.length (concat z.1))) (zip ts (cut_into (map (λ t. length t.pairs) ts) slices))

-- one more target, if it passes the test, before those that are left
pub target_more : (test : Target × List ℕ → Bool) (t : Target) (ts : List Target) (slices : List (List ℕ)) (first : ℕ) (old new : List (Target × List ℕ))
    → new ≡ old ++ cond (test (t, take t.length (concat (take (length t.pairs) (drop first slices))))) ((t, take t.length (concat (take (length t.pairs) (drop first slices)))) ∷ []) []
    → new ++ filter test (walked ts (drop (first + length t.pairs) slices)) ≡ old ++ filter test (walked (t ∷ ts) (drop first slices))
target_more test t ts slices first old new made = let more = drop-drop (length t.pairs) first slices in grind (arith, more, append_assoc)

-- Trees that are made of lists.

-- names paired with their asides
abbrev pub as_pair : List ℕ × List ℕ → List ℕ × List ℕ
as_pair z = (z.0, z.1)

abbrev with_aside : (List ℕ → List ℕ) → List ℕ → List ℕ × List ℕ
with_aside aside n = (n, aside n)

paired : (aside : List ℕ → List ℕ) (names : List (List ℕ)) → map as_pair (zip names (map aside names)) ≡ map (with_aside aside) names
paired aside [] = refl
paired aside (name ∷ names) = ap (λ zs. with_aside aside name ∷ zs) (paired aside names)

placed : (b : Bool) (other name : List ℕ) → unwrap_or (cond b (Some other) None) name ≡ cond b other name
placed b other name = grind arith

pub holds_asides : (names asides : List (List ℕ)) (tree : BTreeMap (List ℕ) (List ℕ)) → trees.IsFromIterResult (slice_cmp nat_cmp) (map as_pair (zip names asides)) tree → HasAsides names asides tree
holds_asides names asides tree is aside e name =
    ap (λ o. unwrap_or o name)
    (is.0 name ∙ ap (λ zs. update_all (eq_by_cmp (slice_cmp nat_cmp)) (λ _. None) zs name) (ap (λ others. map as_pair (zip names others)) e ∙ paired aside names)
    ∙ update_all_pairs (eq_by_cmp_equiv nat_list_cmp_total) aside (λ x y e. ap aside (exact_bytes x y ((Equal-is _).0 e))) names name
    ∙ ap (λ b. cond b (Some (aside name)) None) (member_among names name))
    ∙ placed (is_among names name) (aside name) name

-- a tree without names is that of the empty list
pub no_names : (names : List (List ℕ)) → ((q : List ℕ) → is_among names q ≡ false) → names ≡ []
no_names [] h = refl
no_names (name ∷ names) h = absurd (clash (ap (λ b. b || is_among names name) (itself name)) (h name))
