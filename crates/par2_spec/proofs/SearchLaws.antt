-- The matches of a set.
use Rattle.par2_spec.proofs.Common.{◌≡◌, ℕ, List, [], ◌∷◌, map, refl, sym, ap, ◌∙◌, subst, true, false, Bool, not, ◌||◌, arith, filter, filter_map, find, zip, Option, Some, None, option_to_list, is_some, cons_option, bytes_eq, and_parts, or_cases, or_left, or_right, false_from_ne_true, false≢true, same_Some, is_among, Folder, bytes_of, ParSet, Target, is_intact, matched, incomplete, matches, map-map, ◌^◌, ◌<◌, length, ◌&&◌, IsTrue, ◌↔◌, ◌==◌, unwrap_or, nat_eq, list_all, list_any, AllByRecursion, AllZip, Contains, ForSome, and_from, eqb-true, eq-eqb, ltb-true, lt-ltb, not_from_false, true_from_ne_false, both_ways, not-true, AllZip-long, nat_eq_equiv, coefficients, dot, kills, is_zero, is_repairable, kept, smaller, Kills, IsRepairable, IsKept, IsVector, Agrees, is_as_known, kept_slices, IsRebuilt, is_independent, is_solvable, agrees, lost, survivors, all_lists, all_buffers, all_below, rebuilt, zero, suc, ◌+◌, ◌*◌, ◌≤◌, cond, flat_map, is_none, div_ceil, range_with_len, enumerate_from, map-append, not-false, div_ceil_times, mul-le-mul_right, add-mul, Pair, window, windows, is_match, found, slice_count, has, is_incomplete, intact_names, known, names_without_match, ◌++◌, length-append, ◌-◌, take, drop, length-drop, ◌%◌, min, nat_lt, sum_by, nat_le, option_map, option_and_then, Result, Ok, ok_or, if◌then◌else◌, concat, entries-insert, len-entries, len-empty, nat_cmp-IsAntisymmetric, nat_cmp_total, put, by_order, nat_cmp, Ordering, zero-div, zero-mod, length-map, nil_from_length, length-take-le, sum_by-cons, list_all-map, recursion_from_All, All-contains_itself, leb-true, Fault, NoMain, NoDescription, NoChecksums, BadSet, is_name, distinct, Packet, accepted, MainBody, DescBody, RecoveryBody, read_recovery, unless, all_some, is_slice_size, packets_with, main_of, description_of, pairs_of, target_of, are_in_profile, recovery_of, other_par_names, IsSound, read_set, set_of, candidates, AreFew, cut_into, FilesHaveTheirSize, ◌>>=◌, IsDistinct, target_names, Contains-from_any, list_any-from_Contains}
use Rattle.par2_spec.proofs.ListsLaws.{by_either, same_name, itself, clash, AreDistinct, among-filter, AreOf, IsBelow, some_list, all_below_are, all_below_complete, all_lists_are, all_lists_complete, find_one, filter-none, all-both, all_unmap, all-map, kept as kept_one, by_test, is_true, by_true, any-map, any-flat_map, in_range_some, map-cond, all-passing, all-flat_map, among-append, std_from_distinct, found_one, all-take, all-drop}
use Rattle.std.specs.FinMap as map_of

-- the targets with their matches, and the matches alone
abbrev pub pairs_with : Folder → ℕ → List (List ℕ) → List Target → List (Target × Option (List ℕ))
pairs_with folder s free ts = zip ts (matched folder s free ts)

abbrev pub taken_by : Folder → ℕ → List (List ℕ) → List Target → List (List ℕ)
taken_by folder s free ts = filter_map (λ m. m.1) (pairs_with folder s free ts)

abbrev without_found : Option (List ℕ) → List (List ℕ) → List (List ℕ)
without_found found free = filter (λ name. not (is_among (option_to_list found) name)) free

targets_of_pairs : (folder : Folder) (s : ℕ) (free : List (List ℕ)) (ts : List Target) → map (λ m. m.0) (pairs_with folder s free ts) ≡ ts
targets_of_pairs folder s free [] = refl
targets_of_pairs folder s free (t ∷ ts) =
    ap (λ us. t ∷ us) (targets_of_pairs folder s (without_found (find (λ name. is_intact s t (bytes_of folder name)) free) free) ts)

pub names_of_pairs : (folder : Folder) (s : ℕ) (free : List (List ℕ)) (ts : List Target) → map (λ m. m.0.name) (pairs_with folder s free ts) ≡ map (λ t. t.name) ts
names_of_pairs folder s free ts = sym (map-map (λ t. t.name) (λ m. m.0) (pairs_with folder s free ts)) ∙ ap (map (λ t. t.name)) (targets_of_pairs folder s free ts)

-- a name that is found is one of the names, and passes
pub found_passes : (p : List ℕ → Bool) (names : List (List ℕ)) (q : List ℕ) → find p names ≡ Some q → (is_among names q ≡ true) × (p q ≡ true)
found_passes p [] q h = absurd (false≢true (ap is_some h))
found_passes p (x ∷ names) q h = grind (arith, or_left, same_Some, itself, or_right, found_passes p names q)

-- a match was a free name
pub taken_was_free : (folder : Folder) (s : ℕ) (free : List (List ℕ)) (ts : List Target) (q : List ℕ) → is_among (taken_by folder s free ts) q ≡ true → is_among free q ≡ true
taken_was_free folder s free [] q h = absurd (false≢true h)
taken_was_free folder s free (t ∷ ts) q h =
    let p = (λ (name : List ℕ). is_intact s t (bytes_of folder name)) in
    step (find p free) (λ x e. (found_passes p free x e).0) (taken_by folder s (without_found (find p free) free) ts) (λ i. (and_parts _ _ (sym (among-filter (λ name. not (is_among (option_to_list (find p free)) name)) free q) ∙ taken_was_free folder s (without_found (find p free) free) ts q i)).0) h
  where
    step : (found : Option (List ℕ)) → ((x : List ℕ) → found ≡ Some x → is_among free x ≡ true) → (rest : List (List ℕ)) → (is_among rest q ≡ true → is_among free q ≡ true) → is_among (cons_option found rest) q ≡ true → is_among free q ≡ true
    step None k rest r i = r i
    step (Some x) k rest r i =
        by_either (or_cases (bytes_eq q x) (is_among rest q) i) (λ here. subst (λ y. is_among free y ≡ true) (sym (same_name q x here)) (k x refl)) (λ there. r there)

-- each name is a match at most once
pub taken_once : (folder : Folder) (s : ℕ) (free : List (List ℕ)) (ts : List Target) → AreDistinct (taken_by folder s free ts)
taken_once folder s free [] = tt
taken_once folder s free (t ∷ ts) =
    let p = (λ (name : List ℕ). is_intact s t (bytes_of folder name)) in
    step (find p free) (taken_by folder s (without_found (find p free) free) ts)
    (λ q i. (and_parts _ _ (sym (among-filter (λ name. not (is_among (option_to_list (find p free)) name)) free q) ∙ taken_was_free folder s (without_found (find p free) free) ts q i)).1)
    (taken_once folder s (without_found (find p free) free) ts)
  where
    no_other : (x : List ℕ) → not (is_among (x ∷ []) x) ≡ true → ⊥
    no_other x h = clash h (ap (λ b. not (b || false)) (itself x))

    step : (found : Option (List ℕ)) (rest : List (List ℕ)) → ((q : List ℕ) → is_among rest q ≡ true → not (is_among (option_to_list found) q) ≡ true) → AreDistinct rest → AreDistinct (cons_option found rest)
    step None rest k d = d
    step (Some x) rest k d = (false_from_ne_true _ (λ i. no_other x (k x i)), d)

-- ---- the rule of matches

-- each incomplete target is there, in order
pub matches_of_incomplete : (folder : Folder) (set : ParSet) (searched : List (List ℕ)) → map (λ m. m.0) (matches folder set searched) ≡ incomplete folder set
matches_of_incomplete folder set searched = unfold matches in grind (arith, targets_of_pairs)

-- The tests over all vectors and all buffers are equivalent to the definitions.

-- ---- tests of lists

all_from_test : {A : Type 0} (p : A → Bool) (xs : List A) → list_all p xs ≡ true → AllByRecursion (λ x. p x ≡ true) xs
all_from_test p [] h = tt
all_from_test p (x ∷ xs) h = let r = and_parts (p x) (list_all p xs) h in (r.0, all_from_test p xs r.1)

pub test_from_all : {A : Type 0} (p : A → Bool) (xs : List A) → AllByRecursion (λ x. p x ≡ true) xs → list_all p xs ≡ true
test_from_all p [] h = refl
test_from_all p (x ∷ xs) h = and_from _ _ h.0 (test_from_all p xs h.1)

pub all_weaker : {A : Type 0} (P Q : A → Type 0) → ((x : A) → P x → Q x) → (xs : List A) → AllByRecursion P xs → AllByRecursion Q xs
all_weaker P Q f [] h = tt
all_weaker P Q f (x ∷ xs) h = (f x h.0, all_weaker P Q f xs h.1)

-- each item is zero
zero_from_test : (v : List ℕ) → is_zero v ≡ true → AllByRecursion (λ x. x ≡ 0) v
zero_from_test v h = all_weaker (λ x. (x == 0) ≡ true) (λ x. x ≡ 0) (λ x e. eqb-true x 0 e) v (all_from_test (λ x. x == 0) v h)

test_from_zero : (v : List ℕ) → AllByRecursion (λ x. x ≡ 0) v → is_zero v ≡ true
test_from_zero v h = test_from_all (λ x. x == 0) v (all_weaker (λ x. x ≡ 0) (λ x. (x == 0) ≡ true) (λ x e. ap (λ y. y == 0) e) v h)

-- every row of some exponents kills the vector
all_killed : (lost : List ℕ) (v : List ℕ) (es : List ℕ) → list_all (kills v) (map (coefficients lost) es) ≡ true → AllByRecursion (λ e. Kills lost e v) es
all_killed lost v es h =
    all_weaker _ _ (λ e killed. eqb-true _ 0 killed) es (all_unmap (λ row. kills v row ≡ true) (coefficients lost) es (all_from_test (kills v) (map (coefficients lost) es) h))

killed_all : (lost : List ℕ) (v : List ℕ) (es : List ℕ) → AllByRecursion (λ e. Kills lost e v) es → list_all (kills v) (map (coefficients lost) es) ≡ true
killed_all lost v es h = test_from_all (kills v) _ (all-map _ _ (coefficients lost) (λ e k. ap (λ n. n == 0) k) es h)

-- ---- repairable

pub repairable-iff : (lost survivors : List ℕ) → IsTrue (is_repairable lost survivors) ↔ IsRepairable lost survivors
repairable-iff lost survivors = unfold is_solvable in grind (arith, some_list, zero_from_test, true_from_ne_false, both_ways, not-true, is_true, by_true, and_from, not_from_false, killed_all, false_from_ne_true, and_parts, false≢true, test_from_zero, all_killed)

-- if the lost slices are not determined, all survivors kill some nonzero vector
pub killed_vector : (lost survivors : List ℕ) → (IsRepairable lost survivors → ⊥)
    → (v : List ℕ) × IsVector (length lost) v × AllByRecursion (λ e. Kills lost e v) survivors × (AllByRecursion (λ x. x ≡ 0) v → ⊥)
killed_vector lost survivors unrepairable = unfold is_solvable in
    let rows = map (coefficients lost) survivors in
    let test = (λ (v : List ℕ). not (is_zero v) && list_all (kills v) rows) in
    let found = (some_list (2 ^ 16) (length lost) test).0 (by_true (true_from_ne_false (list_any test (all_lists (all_below (2 ^ 16)) (length lost))) (λ none. unrepairable ((repairable-iff lost survivors).0 (not_from_false _ none))))) in
    let r = and_parts (not (is_zero found.0)) (list_all (kills found.0) rows) (is_true found.2) in
    (found.0, found.1, all_killed lost found.0 survivors r.1, λ z. false≢true (sym (ap not (test_from_zero found.0 z)) ∙ r.0))

-- ---- kept exponents

-- a property of the smaller survivors
all_smaller : (P : ℕ → Type 0) (e : ℕ) (es : List ℕ) → AllByRecursion P (smaller e es) → AllByRecursion (λ x. x < e → P x) es
all_smaller P e [] h = tt
all_smaller P e (x ∷ es) h = grind (arith, clash, lt-ltb, all_smaller P e es)

smaller_all : (P : ℕ → Type 0) (e : ℕ) (es : List ℕ) → AllByRecursion (λ x. x < e → P x) es → AllByRecursion P (smaller e es)
smaller_all P e [] h = tt
smaller_all P e (x ∷ es) h = grind (arith, ltb-true, smaller_all P e es h.1)

pub independent-iff : (lost survivors : List ℕ) (e : ℕ) → (is_independent (length lost) (map (coefficients lost) (smaller e survivors)) (coefficients lost e) ≡ true) ↔ IsKept lost survivors e
independent-iff lost survivors e = unfold is_independent in
    let before = map (coefficients lost) (smaller e survivors) in
    let law = some_list (2 ^ 16) (length lost) (λ (v : List ℕ). list_all (kills v) before && not (kills v (coefficients lost e))) in (
      λ h. let found = law.0 (by_true h) in
          let r = and_parts (list_all (kills found.0) before) (not (kills found.0 (coefficients lost e))) (is_true found.2) in (
            found.0,
            found.1,
            all_smaller (λ x. Kills lost x found.0) e survivors (all_killed lost found.0 (smaller e survivors) r.0),
            λ k. false≢true (sym (ap (λ n. not (n == 0)) k) ∙ r.1),
          ),
      λ k. is_true (law.1 (
        k.0,
        k.1,
        by_true (and_from _ _ (killed_all lost k.0 (smaller e survivors) (smaller_all (λ x. Kills lost x k.0) e survivors k.2))
            (not_from_false _ (false_from_ne_true _ (λ z. k.3 (eqb-true (dot (coefficients lost e) k.0) 0 z))))),
      )),
    )

-- ---- the numbers that pass a test

pub counts : List ℕ → ℕ → Bool
counts xs q = list_any (nat_eq q) xs

counts-filter : (p : ℕ → Bool) (xs : List ℕ) (q : ℕ) → counts (filter p xs) q ≡ (counts xs q && p q)
unfolding counts
counts-filter p [] q = refl
counts-filter p (x ∷ xs) q = grind (arith, kept_one, eqb-true, counts-filter p xs q)

pub counts-iff : (xs : List ℕ) (q : ℕ) → (counts xs q ≡ true) ↔ Contains xs q
counts-iff xs q = unfold counts in (Contains-from_any {eq = nat_eq} eqb-true q xs, list_any-from_Contains nat_eq_equiv q xs)

filter-contains : (p : ℕ → Bool) (xs : List ℕ) (q : ℕ) → Contains (filter p xs) q ↔ (Contains xs q × (p q ≡ true))
filter-contains p xs q = (
  λ c. let r = and_parts (counts xs q) (p q) (sym (counts-filter p xs q) ∙ (counts-iff (filter p xs) q).1 c) in ((counts-iff xs q).0 r.0, r.1),
  λ c. (counts-iff (filter p xs) q).0 (counts-filter p xs q ∙ and_from _ _ ((counts-iff xs q).1 c.0) c.1),
)

pub kept-iff : (lost survivors : List ℕ) (e : ℕ) → Contains (kept lost survivors) e ↔ (Contains survivors e × IsKept lost survivors e)
kept-iff lost survivors e =
    let law = filter-contains (λ x. is_independent (length lost) (map (coefficients lost) (smaller x survivors)) (coefficients lost x)) survivors e in (
      λ c. let r = law.0 c in (r.0, (independent-iff lost survivors e).0 r.1),
      λ c. law.1 (c.0, (independent-iff lost survivors e).1 c.1),
    )

-- ---- no lost slices

-- no exponent is kept
pub none_kept : (survivors : List ℕ) → kept [] survivors ≡ []
none_kept survivors = unfold all_lists dot is_independent in grind (arith, filter-none, by_test)

-- ---- lists that agree

known_one : (o : Option (List ℕ)) (bytes : List ℕ) → is_as_known (o, bytes) ≡ true → ForSome o (λ found. bytes ≡ found)
known_one None bytes h = λ x e. absurd (false≢true (ap is_some e))
known_one (Some y) bytes h = λ x e. sym (same_name y bytes h) ∙ ap (λ o. unwrap_or o y) e

one_known : (o : Option (List ℕ)) (bytes : List ℕ) → ForSome o (λ found. bytes ≡ found) → is_as_known (o, bytes) ≡ true
one_known None bytes h = refl
one_known (Some y) bytes h = subst (λ z. bytes_eq y z ≡ true) (sym (h y refl)) (itself y)

as_known : (known : List (Option (List ℕ))) (slices : List (List ℕ)) → length slices ≡ length known → list_all is_as_known (zip known slices) ≡ true → AllZip (λ slice bytes. ForSome slice (λ found. bytes ≡ found)) known slices
as_known (x ∷ xs) (y ∷ ys) e h =
    let r = and_parts (is_as_known (x, y)) (list_all is_as_known (zip xs ys)) h in
    (known_one x y r.0, as_known xs ys (omega (arith, e)) r.1)
as_known known slices e h = grind arith

known_as : (known : List (Option (List ℕ))) (slices : List (List ℕ)) → AllZip (λ slice bytes. ForSome slice (λ found. bytes ≡ found)) known slices → list_all is_as_known (zip known slices) ≡ true
known_as (x ∷ xs) (y ∷ ys) h = and_from _ _ (one_known x y h.0) (known_as xs ys h.1)
known_as known slices h = grind arith

-- a list of slices of s bytes passes the test exactly if it agrees
pub agrees-iff : (s : ℕ) (known : List (Option (List ℕ))) (recovered : List (ℕ × List ℕ)) (slices : List (List ℕ))
    → AllByRecursion (λ content. length content ≡ s) slices → AllByRecursion (λ content. AllByRecursion (λ b. b < 256) content) slices
    → IsTrue (agrees s known recovered slices) ↔ Agrees s known recovered slices
agrees-iff s known recovered slices sizes bytes = unfold agrees in grind (arith, and_parts, as_known, eqb-true, all_weaker, same_name, all_from_test, and_from, eq-eqb, AllZip-long, known_as, test_from_all, itself)

-- ---- the rebuilt slices

-- a buffer of s bytes
abbrev IsSliceBytes : ℕ → List ℕ → Type 0
IsSliceBytes s bytes = AreOf (IsBelow 256) s bytes

buffers_from : (s : ℕ) (slices : List (List ℕ)) → AllByRecursion (λ content. length content ≡ s) slices → AllByRecursion (λ content. AllByRecursion (λ b. b < 256) content) slices → AllByRecursion (IsSliceBytes s) slices
buffers_from s slices h k = all-both (λ content. length content ≡ s) (λ content. AllByRecursion (λ b. b < 256) content) (IsSliceBytes s) (λ x long bytes. (long, bytes)) slices h k

bytes_from : (s : ℕ) (slices : List (List ℕ)) → AllByRecursion (IsSliceBytes s) slices → AllByRecursion (λ bytes. AllByRecursion (λ b. b < 256) bytes) slices
bytes_from s slices h = all_weaker (IsSliceBytes s) (λ bytes. AllByRecursion (λ b. b < 256) bytes) (λ x t. t.1) slices h

buffers_are : (s : ℕ) → AllByRecursion (IsSliceBytes s) (all_buffers s)
buffers_are s = all_lists_are (IsBelow 256) (all_below 256) (all_below_are 256) s

-- if a list agrees, one is found, and it agrees
pub agreeing_found : (s : ℕ) (known : List (Option (List ℕ))) (recovered : List (ℕ × List ℕ)) (slices : List (List ℕ)) → Agrees s known recovered slices
    → (found : List (List ℕ)) × (find (agrees s known recovered) (all_lists (all_buffers s) (length known)) ≡ Some found) × Agrees s known recovered found
agreeing_found s known recovered slices a =
    let r = find_one (AreOf (IsSliceBytes s) (length known)) (agrees s known recovered) (all_lists (all_buffers s) (length known)) (all_lists_are (IsSliceBytes s) (all_buffers s) (buffers_are s) (length known))
    (all_lists_complete (IsSliceBytes s) (all_buffers s) (all_lists_complete (IsBelow 256) (all_below 256) (all_below_complete 256) s) (length known) (agrees s known recovered) slices
    (AllZip-long (λ slice content. ForSome slice (λ found. content ≡ found)) known slices a.as_known, buffers_from s slices a.sizes a.bytes)
    (by_true ((agrees-iff s known recovered slices a.sizes a.bytes).1 a))) in
    (r.0, r.1, (agrees-iff s known recovered r.0 (all_weaker (IsSliceBytes s) (λ bytes. length bytes ≡ s) (λ x t. t.0) r.0 r.2.1) (bytes_from s r.0 r.2.1)).0 (is_true r.3))

pub rebuilt_agrees : (set : ParSet) (known : List (Option (List ℕ))) (slices : List (List ℕ))
    → Agrees set.slice_size known (kept_slices (lost known) (survivors set) (map_of.entries set.recovery)) slices
    → Agrees set.slice_size known (kept_slices (lost known) (survivors set) (map_of.entries set.recovery)) (rebuilt set known)
rebuilt_agrees set known slices a = unfold rebuilt in grind (arith, agreeing_found)

pub rebuilt_is_only : (set : ParSet) (known : List (Option (List ℕ))) (slices : List (List ℕ))
    → IsRebuilt set.slice_size known (kept_slices (lost known) (survivors set) (map_of.entries set.recovery)) slices → rebuilt set known ≡ slices
rebuilt_is_only set known slices is = is.only (rebuilt set known) (rebuilt_agrees set known slices is.agrees)

-- The slices of intact and of matched targets are found.

-- each slice of the target is found
abbrev pub IsFound : Folder → ℕ → List (List ℕ) → Target → Type 0
IsFound folder s searched t =
    AllByRecursion (λ pair. is_some (found s (map (bytes_of folder) searched) pair) ≡ true) t.pairs

is_some-find : {A : Type 0} (test : A → Bool) (xs : List A) → is_some (find test xs) ≡ list_any test xs
is_some-find test [] = refl
is_some-find {A = A} test (x ∷ xs) = grind (arith, is_some-find test xs)

-- slice j begins within the file
pub slice_begins : (n s j : ℕ) → 0 < s → j < div_ceil n s → j * s < n
slice_begins n s j positive h = grind (arith, div_ceil_times, mul-le-mul_right, add-mul)

-- the checksums that the slices match are matched by windows
abbrev Windowed : ℕ → List ℕ → List Pair → Type 0
Windowed s bytes pairs = AllByRecursion (λ pair. list_any (is_match pair) (windows s bytes) ≡ true) pairs

slices_are_windows : (s : ℕ) (bytes : List ℕ) (pairs : List Pair) (a k : ℕ) → length pairs ≤ k → ((j : ℕ) → j < a + k → j * s < length bytes)
    → list_all (λ z. is_match z.0 z.1) (zip pairs (map (λ j. window s bytes (j * s)) (range_with_len a k))) ≡ true → Windowed s bytes pairs
slices_are_windows s bytes [] a k short begins h = tt
slices_are_windows s bytes (pair ∷ pairs) a zero short begins h = absurd (omega (arith, short))
slices_are_windows s bytes (pair ∷ pairs) a (suc k) short begins h =
    let r = and_parts (is_match pair (window s bytes (a * s))) _ h in (
      any-map (is_match pair) (window s bytes) (range_with_len 0 (length bytes))
          ∙ is_true (in_range_some (λ o. is_match pair (window s bytes o)) 0 (length bytes) (a * s) (omega arith) (let b : a * s < length bytes = begins a (omega arith) in omega (arith, b)) (by_true r.0)),
      slices_are_windows s bytes pairs (a + 1) k (omega (arith, short)) (λ j l. begins j (omega (arith, l))) r.1,
    )

-- bytes that are intact for a target contain each of its slices
pub intact_windowed : (s : ℕ) (t : Target) (bytes : List ℕ) → 0 < s → length t.pairs ≤ slice_count s t.length → is_intact s t bytes ≡ true → Windowed s bytes t.pairs
intact_windowed s t bytes positive short h =
    let r = and_parts (length bytes == t.length) _ h in
    slices_are_windows s bytes t.pairs 0 (slice_count s (length bytes)) (subst (λ n. length t.pairs ≤ slice_count s n) (sym (eqb-true (length bytes) t.length r.0)) short)
    (λ j l. slice_begins (length bytes) s j positive (omega (arith, l))) r.1

any_at : (test : List ℕ → Bool) (names : List (List ℕ)) (name : List ℕ) → is_among names name ≡ true → test name ≡ true → list_any test names ≡ true
any_at test [] name h k = h
any_at test (x ∷ names) name h k = by_either (or_cases (bytes_eq name x) (is_among names name) h)
    (λ here. or_left _ _ (subst (λ y. test y ≡ true) (same_name name x here) k))
    (λ there. or_right _ _ (any_at test names name there k))

pub windowed_found : (folder : Folder) (s : ℕ) (names : List (List ℕ)) (name : List ℕ) (pairs : List Pair) → is_among names name ≡ true → Windowed s (bytes_of folder name) pairs → AllByRecursion (λ pair. is_some (found s (map (bytes_of folder) names) pair) ≡ true) pairs
windowed_found folder s names name [] h w = tt
windowed_found folder s names name (pair ∷ pairs) h w = grind (arith, is_some-find, any-flat_map, any-map, any_at, windowed_found folder s names name pairs h w.1)

-- there are at most as many pairs as slices
abbrev pub AreSized : ℕ → List Target → Type 0
AreSized s ts = AllByRecursion (λ t. length t.pairs ≤ slice_count s t.length) ts

-- the slices of incomplete targets that have a match are found
incomplete_found : (folder : Folder) (s : ℕ) (names free : List (List ℕ)) (ts : List Target) (is_lost : List ℕ → Bool) → 0 < s → AreSized s ts
    → ((q : List ℕ) → is_among free q ≡ true → is_among names q ≡ true)
    → ((q : List ℕ) → is_among (names_without_match (pairs_with folder s free ts)) q ≡ true → is_lost q ≡ true)
    → AllByRecursion (λ t. is_lost t.name ≡ false → IsFound folder s names t) ts
incomplete_found folder s names free [] is_lost positive sized within lost_ones = tt
incomplete_found folder s names free (t ∷ ts) is_lost positive sized within lost_ones =
    let p = (λ (name : List ℕ). is_intact s t (bytes_of folder name)) in
    let later = filter (λ name. not (is_among (option_to_list (find p free)) name)) free in (
      head (find p free) (found_passes p free) (lost_ones t.name),
      incomplete_found folder s names later ts is_lost positive sized.1
          (λ q h. within q (and_parts _ _ (sym (among-filter (λ name. not (is_among (option_to_list (find p free)) name)) free q) ∙ h)).0)
          (λ q h. lost_ones q (tail (find p free) (pairs_with folder s later ts) q h)),
    )
  where
    head : (o : Option (List ℕ)) → ((x : List ℕ) → o ≡ Some x → (is_among free x ≡ true) × (is_intact s t (bytes_of folder x) ≡ true))
        → (is_among (names_without_match ((t, o) ∷ pairs_with folder s (filter (λ name. not (is_among (option_to_list o) name)) free) ts)) t.name ≡ true → is_lost t.name ≡ true)
        → is_lost t.name ≡ false → IsFound folder s names t
    head None k l i = absurd (clash (l (or_left _ _ (itself t.name))) i)
    head (Some x) k l i = let r = k x refl in windowed_found folder s names x t.pairs (within x r.0) (intact_windowed s t (bytes_of folder x) positive sized.0 r.1)

    tail : (o : Option (List ℕ)) (ms : List (Target × Option (List ℕ))) (q : List ℕ) → is_among (names_without_match ms) q ≡ true → is_among (names_without_match ((t, o) ∷ ms)) q ≡ true
    tail o ms q h = grind arith

pub all-filter : {A : Type 0} (P : A → Type 0) (p : A → Bool) (xs : List A) → AllByRecursion P xs → AllByRecursion P (filter p xs)
all-filter P p xs h = all-passing P P p (λ x k e. k) xs h

-- a property of the items that pass a test and of those that don't holds for all items
pub all_by_test : {A : Type 0} (P : A → Type 0) (p : A → Bool) (xs : List A) → AllByRecursion (λ x. p x ≡ false → P x) xs → AllByRecursion P (filter p xs) → AllByRecursion P xs
all_by_test P p [] out h = tt
all_by_test {A = A} P p (x ∷ xs) out h =
    let step : (b : Bool) → p x ≡ b → (ys : List A) → AllByRecursion P (cond b (x ∷ ys) ys) → P x = λ b e ys k. grind arith in
    let rest : (b : Bool) (ys : List A) → AllByRecursion P (cond b (x ∷ ys) ys) → AllByRecursion P ys = λ b ys k. grind arith in
    (step (p x) refl (filter p xs) h, all_by_test P p xs out.1 (rest (p x) (filter p xs) h))

pub intact_found : (folder : Folder) (set : ParSet) (names : List (List ℕ)) (ts : List Target) → 0 < set.slice_size → AreSized set.slice_size ts
    → ((q : List ℕ) → is_among (map (λ t. t.name) ts) q ≡ true → has folder q ≡ true → is_among names q ≡ true)
    → AllByRecursion (λ t. is_incomplete folder set t ≡ false → IsFound folder set.slice_size names t) ts
intact_found folder set names [] positive sized searched = tt
intact_found folder set names (t ∷ ts) positive sized searched = (
  λ e. let r = and_parts (has folder t.name) _ (not-false (has folder t.name && is_intact set.slice_size t (bytes_of folder t.name)) e) in
      windowed_found folder set.slice_size names t.name t.pairs (searched t.name (or_left _ _ (itself t.name)) r.0)
      (intact_windowed set.slice_size t (bytes_of folder t.name) positive sized.0 r.1),
  intact_found folder set names ts positive sized.1 (λ q h. searched q (or_right _ _ h)),
)

-- every target that is intact or has a match is found
pub targets_found : (folder : Folder) (set : ParSet) (names : List (List ℕ)) → 0 < set.slice_size → AreSized set.slice_size set.targets
    → ((q : List ℕ) → is_among (map (λ t. t.name) set.targets) q ≡ true → has folder q ≡ true → is_among names q ≡ true)
    → AllByRecursion (λ t. is_among (names_without_match (matches folder set names)) t.name ≡ false → IsFound folder set.slice_size names t) set.targets
unfolding matches
targets_found folder set names positive sized searched =
    let free = filter (λ name. not (is_among (intact_names folder set) name)) names in
    let is_lost = is_among (names_without_match (pairs_with folder set.slice_size free (incomplete folder set))) in
    all_by_test (λ t. is_lost t.name ≡ false → IsFound folder set.slice_size names t) (is_incomplete folder set) set.targets
    (all_weaker _ _ (λ t intact e _. intact e) set.targets (intact_found folder set names set.targets positive sized searched))
    (incomplete_found folder set.slice_size names free (incomplete folder set) is_lost positive (all-filter _ (is_incomplete folder set) set.targets sized)
    (λ q h. (and_parts _ _ (sym (among-filter (λ name. not (is_among (intact_names folder set) name)) names q) ∙ h)).0) (λ q h. h))

-- ---- the lost slices

abbrev Reported : List (Bool × Option (List ℕ)) → Type 0
Reported zs = AllByRecursion (λ z. z.0 ≡ false → is_some z.1 ≡ true) zs

reported-map : (b : Bool) (f : Pair → Option (List ℕ)) (pairs : List Pair) → (b ≡ false → AllByRecursion (λ pair. is_some (f pair) ≡ true) pairs) → Reported (map (λ pair. (b, f pair)) pairs)
reported-map b f [] h = tt
reported-map b f (pair ∷ pairs) h = (λ e. (h e).0, reported-map b f pairs (λ e. (h e).1))

reported_by_target : (is_lost : List ℕ → Bool) (f : Pair → Option (List ℕ)) (ts : List Target) → AllByRecursion (λ t. is_lost t.name ≡ false → AllByRecursion (λ pair. is_some (f pair) ≡ true) t.pairs) ts
    → Reported (flat_map (λ t. map (λ pair. (is_lost t.name, f pair)) t.pairs) ts)
reported_by_target is_lost f ts h = all-flat_map _ _ (λ t. map (λ pair. (is_lost t.name, f pair)) t.pairs) (λ t k. reported-map (is_lost t.name) f t.pairs k) ts h

abbrev second_of : Bool × Option (List ℕ) → Option (List ℕ)
second_of z = z.1

found_by_target : (is_lost : List ℕ → Bool) (f : Pair → Option (List ℕ)) (ts : List Target) → map second_of (flat_map (λ t. map (λ pair. (is_lost t.name, f pair)) t.pairs) ts) ≡ map f (flat_map (λ t. t.pairs) ts)
found_by_target is_lost f [] = refl
found_by_target is_lost f (t ∷ ts) = grind (arith, map-append, (map-map second_of (λ (pair : Pair). (is_lost t.name, f pair)) t.pairs), (found_by_target is_lost f ts), (map-append f t.pairs (flat_map (λ u. u.pairs) ts)))

lost_alike : (n : ℕ) (zs : List (Bool × Option (List ℕ))) → Reported zs → map (λ z. z.0) (filter (λ z. is_none z.1) (enumerate_from n (map (λ z. z.1) zs))) ≡ map (λ z. z.0) (filter (λ z. z.1.0 && is_none z.1.1) (enumerate_from n zs))
lost_alike n [] h = refl
lost_alike n ((b, o) ∷ zs) h = grind (arith, map-cond, false≢true, lost_alike (n + 1) zs h.1)

-- for each slice whether its target is incomplete without a match, and the slice if it is found
abbrev pub slices_by_target : Folder → ParSet → List (List ℕ) → List (Bool × Option (List ℕ))
slices_by_target folder set searched =
    flat_map (λ t. map (λ pair. (is_among (names_without_match (matches folder set searched)) t.name, found set.slice_size (map (bytes_of folder) searched) pair)) t.pairs)
    set.targets

-- the numbers of the slices that are not found and whose targets are incomplete without a match
abbrev pub lost_of_unmatched : Folder → ParSet → List (List ℕ) → List ℕ
lost_of_unmatched folder set searched =
    map (λ z. z.0) (filter (λ z. z.1.0 && is_none z.1.1) (enumerate_from 0 (slices_by_target folder set searched)))

-- the lost slices are those of the incomplete targets without a match that are not found
pub lost_is : (folder : Folder) (set : ParSet) (names : List (List ℕ)) → 0 < set.slice_size → AreSized set.slice_size set.targets
    → ((q : List ℕ) → is_among (map (λ t. t.name) set.targets) q ≡ true → has folder q ≡ true → is_among names q ≡ true)
    → lost (known folder set names) ≡ lost_of_unmatched folder set names
lost_is folder set names positive sized searched = unfold known in
    let f = found set.slice_size (map (bytes_of folder) names) in
    let is_lost = is_among (names_without_match (matches folder set names)) in
    grind (arith, (found_by_target is_lost f set.targets), (lost_alike 0 (slices_by_target folder set names) (reported_by_target is_lost f set.targets (targets_found folder set names positive sized searched))))

-- Properties of sets that can be read, and of the searched names.

-- ---- distinct names

among-distinct : (xs : List (List ℕ)) (q : List ℕ) → is_among (distinct xs) q ≡ is_among xs q
among-distinct [] q = refl
among-distinct (x ∷ xs) q =
    let step : (b c r : Bool) → (c ≡ true → b ≡ true) → (b || (r && not c)) ≡ (b || r) = λ b c r k. grind arith in
    grind (arith, (among-filter (λ other. not (bytes_eq x other)) (distinct xs) q), (among-distinct xs q), (step (bytes_eq q x) (bytes_eq x q) (is_among xs q) (λ e. subst (λ y. bytes_eq q y ≡ true) (sym (same_name x q e)) (itself q))))

length-filter-le : (p : List ℕ → Bool) (xs : List (List ℕ)) → length (filter p xs) ≤ length xs
length-filter-le p [] = omega arith
length-filter-le p (x ∷ xs) = grind (arith, length-filter-le p xs)

-- a filter that keeps the length keeps all
filter_full : (p : List ℕ → Bool) (xs : List (List ℕ)) → length (filter p xs) ≡ length xs → (q : List ℕ) → is_among xs q ≡ true → p q ≡ true
filter_full p [] e q h = absurd (false≢true h)
filter_full p (x ∷ xs) e q h =
    let step : (b : Bool) (ys : List (List ℕ)) → length ys ≤ length xs → length (cond b (x ∷ ys) ys) ≡ suc (length xs) → (b ≡ true) × (length ys ≡ length xs) = λ b ys h k. grind arith in
    let r = step (p x) (filter p xs) (length-filter-le p xs) e in
    by_either (or_cases (bytes_eq q x) (is_among xs q) h)
    (λ here. subst (λ y. p y ≡ true) (sym (same_name q x here)) r.0)
    (λ there. filter_full p xs r.1 q there)

length-distinct-le : (xs : List (List ℕ)) → length (distinct xs) ≤ length xs
length-distinct-le [] = omega arith
length-distinct-le (x ∷ xs) = omega (arith, length-filter-le (λ other. not (bytes_eq x other)) (distinct xs), length-distinct-le xs)

-- names are distinct if `distinct` leaves out none
pub distinct_by_length : (xs : List (List ℕ)) → length (distinct xs) ≡ length xs → AreDistinct xs
distinct_by_length [] e = tt
distinct_by_length (x ∷ xs) e =
    let p = (λ (other : List ℕ). not (bytes_eq x other)) in
    let a : length (filter p (distinct xs)) ≤ length (distinct xs) = length-filter-le p (distinct xs) in
    let c : suc (length (filter p (distinct xs))) ≡ suc (length xs) = e in (
      false_from_ne_true _ (λ h. clash (filter_full p (distinct xs) (omega (arith, a, (length-distinct-le xs), c)) x (among-distinct xs x ∙ h)) (ap not (itself x))),
      distinct_by_length xs (omega (arith, a, (length-distinct-le xs), c)),
    )

-- ---- a set that can be read

took : {A B : Type 0} (r : Result A Fault) (f : A → Result B Fault) (b : B) → (r >>= f) ≡ Ok b → (a : A) × (r ≡ Ok a) × (f a ≡ Ok b)
took r f b h = grind arith

pub was_some : {A : Type 0} (o : Option A) (e : Fault) (a : A) → ok_or o e ≡ Ok a → o ≡ Some a
was_some o e a h = grind arith

passed : (b : Bool) (e : Fault) (c : Bool) → unless b e ≡ Ok c → b ≡ true
passed b e c h = grind arith

pub mapped : {A B : Type 0} (f : A → B) (o : Option A) (b : B) → option_map f o ≡ Some b → (a : A) × (o ≡ Some a) × (f a ≡ b)
mapped f o b h = grind arith

chained : {A B : Type 0} (f : A → Option B) (o : Option A) (b : B) → option_and_then f o ≡ Some b → (a : A) × (o ≡ Some a) × (f a ≡ Some b)
chained f o b h = grind arith

find_passes : {A : Type 0} (p : A → Bool) (xs : List A) (a : A) → find p xs ≡ Some a → p a ≡ true
find_passes p xs a h = (found_one (Contains xs) p xs (recursion_from_All (Contains xs) xs (All-contains_itself xs)) a h).1

pub no_slices : (s : ℕ) → slice_count s 0 ≡ 0
no_slices s = ap (λ q. q + min 1 (0 % s)) (zero-div s) ∙ ap (λ r. 0 + min 1 r) (zero-mod s)

pairs_fit : (packets : List Packet) (id : List ℕ) (s n : ℕ) (pairs : List Pair) → (if n == 0 then Some [] else pairs_of packets id (slice_count s n)) ≡ Some pairs → length pairs ≡ slice_count s n
pairs_fit packets id s n pairs h = grind (arith, eqb-true, no_slices, mapped, find_passes, and_parts)

abbrev pub target_with : DescBody → List Pair → Target
target_with d pairs = record { name = d.name; length = d.length; md5 = d.md5; pairs = pairs }

abbrev IsTargetOf : ℕ → DescBody → Target → Type 0
IsTargetOf s d t = (t.name ≡ d.name) × (t.length ≡ d.length) × (length t.pairs ≡ slice_count s t.length)

of_target : (packets : List Packet) (s : ℕ) (d : DescBody) (t : Target) → target_of packets s d ≡ Some t → IsTargetOf s d t
of_target packets s d t h = grind (arith, mapped, pairs_fit)

abbrev AreCounted : ℕ → List Target → Type 0
AreCounted s ts = AllByRecursion (λ t. length t.pairs ≡ slice_count s t.length) ts

abbrev AreTargetsOf : ℕ → List DescBody → List Target → Type 0
AreTargetsOf s ds ts = (map (λ t. t.name) ts ≡ map (λ d. d.name) ds) × AreCounted s ts × (length (flat_map (λ t. t.pairs) ts) ≡ sum_by (λ d. slice_count s d.length) ds)

targets_are : (packets : List Packet) (s : ℕ) (ds : List DescBody) (ts : List Target) → all_some (map (target_of packets s) ds) ≡ Some ts → AreTargetsOf s ds ts
targets_are packets s [] ts h = subst (AreTargetsOf s []) (ap (λ o. unwrap_or o []) h) (refl, tt, refl)
targets_are packets s (d ∷ ds) ts h =
    let a = chained (λ t. option_map (λ us. t ∷ us) (all_some (map (target_of packets s) ds))) (target_of packets s d) ts h in
    let b = mapped (λ us. a.0 ∷ us) (all_some (map (target_of packets s) ds)) ts a.2 in
    let first = of_target packets s d a.0 a.1 in
    let rest = targets_are packets s ds b.0 b.1 in
    subst (AreTargetsOf s (d ∷ ds)) b.2 (
      ap (λ n. n ∷ map (λ t. t.name) b.0) first.0 ∙ ap (λ ns. d.name ∷ ns) rest.0,
      (first.2, rest.1),
      grind (arith, (length-append a.0.pairs (flat_map (λ t. t.pairs) b.0)), first.2, first.1, rest.2, (sum_by-cons (λ d. slice_count s d.length) d ds)),
    )

-- if there are as many pairs as slices, there are at most as many
pub sized_from_counted : (s : ℕ) (ts : List Target) → AreCounted s ts → AreSized s ts
sized_from_counted s [] h = tt
sized_from_counted s (t ∷ ts) h = (subst (λ n. length t.pairs ≤ n) h.0 (omega arith), sized_from_counted s ts h.1)

-- ---- the recovery slices

abbrev AreRecovery : ℕ → List (ℕ × List ℕ) → Type 0
AreRecovery s rs = AllByRecursion (λ r. (r.0 < 65536) × (length r.1 ≡ s)) rs

put_entry : (P : ℕ × List ℕ → Type 0) (k : ℕ) (v : List ℕ) (rs : List (ℕ × List ℕ)) → P (k, v) → AllByRecursion P rs → AllByRecursion P (put nat_cmp k v rs)
put_entry P k v [] is h = (is, tt)
put_entry P k v (r ∷ rs) is h = grind (arith, put, by_order, nat_cmp-IsAntisymmetric, put_entry P k v rs is h.1)

pub entries-empty : {K : Type 0} (R : K → K → Ordering) (X : Type 0) → map_of.entries (map_of.empty {X = X} {R = R}) ≡ []
entries-empty R X = nil_from_length (map_of.entries (map_of.empty {X = X} {R = R})) (sym (len-entries map_of.empty) ∙ len-empty R X)

-- a property of all entries that a map is made from holds for all entries of the map
pub all-entries : (P : ℕ × List ℕ → Type 0) (rs : List (ℕ × List ℕ)) → AllByRecursion P rs → AllByRecursion P (map_of.entries (map_of.from_entries {R = nat_cmp} rs))
all-entries P [] h = subst (AllByRecursion P) (sym (entries-empty nat_cmp (List ℕ))) tt
all-entries P (r ∷ rs) h = grind (arith, entries-insert, nat_cmp_total, put_entry, (all-entries P rs h.1))

chosen_are : (s : ℕ) (rs : List RecoveryBody) → AreRecovery s (map (λ r. (r.exponent, r.bytes)) (filter (λ r. nat_lt r.exponent 65536 && length r.bytes == s) rs))
chosen_are s [] = tt
chosen_are s (r ∷ rs) = grind (arith, and_parts, ltb-true, eqb-true, chosen_are s rs)

-- the steps of reading a set, the last one first
abbrev pub set_with : List ℕ → List Packet → ℕ → List Target → ParSet
set_with id packets s targets = record { id = id; slice_size = s; targets = targets; recovery = recovery_of packets s }

abbrev pub finished : List ℕ → List Packet → ℕ → List Target → Result ParSet Fault
finished id packets s targets = Ok (set_with id packets s targets)

-- the intermediate results of reading a set from these bytes
pub record IsReadBy (base : List ℕ) (others : List (List ℕ)) (set : ParSet) : Type 0 where
  pub id : List ℕ
  pub main : MainBody
  pub described : List DescBody
  pub targets : List Target
  pub main_there : main_of id (packets_with id (flat_map accepted (base ∷ others))) ≡ Some main
  pub size : is_slice_size main.slice_size ≡ true
  pub described_there : all_some (map (description_of (packets_with id (flat_map accepted (base ∷ others)))) main.ids) ≡ Some described
  pub profile : are_in_profile main.slice_size described ≡ true
  pub targets_there : all_some (map (target_of (packets_with id (flat_map accepted (base ∷ others))) main.slice_size) described) ≡ Some targets
  pub made : set_with id (packets_with id (flat_map accepted (base ∷ others))) main.slice_size targets ≡ set

pub read_by : (base : List ℕ) (others : List (List ℕ)) (set : ParSet) → read_set base others ≡ Ok set → IsReadBy base others set
read_by base others set h = unfold read_set in grind (arith, took, was_some, passed)

-- a set that can be read is sound
pub sound_set : (base : List ℕ) (others : List (List ℕ)) (set : ParSet) → read_set base others ≡ Ok set → IsSound set
sound_set base others set h =
    let r = read_by base others set h in
    let packets = packets_with r.id (flat_map accepted (base ∷ others)) in
    let s = r.main.slice_size in
    let ds = r.described in
    let are = targets_are packets s ds r.targets r.targets_there in
    let fits = and_parts _ (length (distinct (map (λ d. d.name) ds)) == length ds) r.profile in
    let parts = and_parts (nat_le (sum_by (λ d. slice_count s d.length) ds) 32768) (list_all (λ d. is_name d.name) ds) fits.0 in
    subst IsSound r.made
    (record {
      are_names = ap (list_all is_name) are.0 ∙ list_all-map is_name (λ d. d.name) ds ∙ parts.1;
      names_once = std_from_distinct _ (subst AreDistinct (sym are.0) (distinct_by_length (map (λ d. d.name) ds) ((eqb-true _ _ fits.1) ∙ sym (length-map ds (λ d. d.name)))));
      size = r.size;
      pairs = are.1;
      slices = subst (λ n. n ≤ 32768) (sym are.2) (leb-true (sum_by (λ d. slice_count s d.length) ds) 32768 parts.0);
      recovery = all-entries (λ r. (r.0 < 65536) × (length r.1 ≡ s)) _ (chosen_are s (filter_map (λ p. read_recovery p.kind p.body) packets));
    })

-- a slice size is a multiple of 4, nonzero and limited
pub size_parts : (s : ℕ) → is_slice_size s ≡ true → (s % 4 ≡ 0) × (4 ≤ s) × (s ≤ 2 ^ 30)
size_parts s h = grind (arith, and_parts, eqb-true, leb-true)

pub size_positive : (s : ℕ) → is_slice_size s ≡ true → 0 < s
size_positive s h = let least : 4 ≤ s = (size_parts s h).1 in omega (arith, least)

-- ---- the names that are searched

all_of : (folder : Folder) (searched : List (List ℕ)) → ((q : List ℕ) → is_among searched q ≡ true → has folder q ≡ true) → list_all (has folder) searched ≡ true
all_of folder [] h = refl
all_of folder (x ∷ searched) h = and_from _ _ (h x (or_left _ _ (itself x))) (all_of folder searched (λ q i. h q (or_right _ _ i)))

pub each_there : (folder : Folder) (extras : List (List ℕ)) → list_all (has folder) extras ≡ true → (q : List ℕ) → is_among extras q ≡ true → has folder q ≡ true
each_there folder [] h q i = absurd (false≢true i)
each_there folder (x ∷ extras) h q i =
    let r = and_parts (has folder x) (list_all (has folder) extras) h in
    by_either (or_cases (bytes_eq q x) (is_among extras q) i)
    (λ here. subst (λ y. has folder y ≡ true) (sym (same_name q x here)) r.0)
    (λ there. each_there folder extras r.1 q there)

candidates_are : (folder : Folder) (set : ParSet) (extras : List (List ℕ)) (q : List ℕ) → is_among (candidates folder set extras) q ≡ ((is_among (map (λ t. t.name) set.targets) q && has folder q) || is_among extras q)
candidates_are folder set extras q = grind (arith, among-distinct, among-append, among-filter)

-- if the extra names are in the folder, all candidates are
pub candidates_there : (folder : Folder) (set : ParSet) (extras : List (List ℕ)) → list_all (has folder) extras ≡ true → (q : List ℕ) → is_among (candidates folder set extras) q ≡ true → has folder q ≡ true
candidates_there folder set extras h q i = grind (arith, by_either, or_cases, candidates_are, and_parts, each_there)

-- each target in the folder is a candidate
pub present_searched : (folder : Folder) (set : ParSet) (extras : List (List ℕ)) (q : List ℕ) → is_among (map (λ t. t.name) set.targets) q ≡ true → has folder q ≡ true → is_among (candidates folder set extras) q ≡ true
present_searched folder set extras q i h = candidates_are folder set extras q ∙ or_left _ _ (and_from _ _ i h)

-- ---- consequences for a set of a folder

pub sound_of : (folder : Folder) (base : List ℕ) (set : ParSet) → set_of folder base ≡ Ok set → IsSound set
sound_of folder base set h = unfold set_of in sound_set (bytes_of folder base) (map (bytes_of folder) (other_par_names folder base)) set h

-- the premises of a repair on the folder, the set and the searched names
pub record FitsRepair (folder : Folder) (set : ParSet) (searched : List (List ℕ)) : Type 0 where
  pub names_once : IsDistinct bytes_eq (target_names set)
  pub all_there : IsTrue (list_all (has folder) searched)
  pub few : AreFew folder set

pub fits_of : (folder : Folder) (base : List ℕ) (set : ParSet) (extras : List (List ℕ)) → set_of folder base ≡ Ok set → list_all (has folder) extras ≡ true → AreFew folder set → FitsRepair folder set (candidates folder set extras)
fits_of folder base set extras h there few = record {
  names_once = (sound_of folder base set h).names_once;
  all_there = all_of folder (candidates folder set extras) (candidates_there folder set extras there);
  few = few;
}

pub lost_of : (folder : Folder) (base : List ℕ) (set : ParSet) (extras : List (List ℕ)) → set_of folder base ≡ Ok set → lost (known folder set (candidates folder set extras)) ≡ lost_of_unmatched folder set (candidates folder set extras)
lost_of folder base set extras h =
    let sound = sound_of folder base set h in
    lost_is folder set (candidates folder set extras) (size_positive set.slice_size sound.size) (sized_from_counted set.slice_size set.targets sound.pairs) (present_searched folder set extras)

-- ---- files that are cut out of slices have the lengths that the set describes

length-concat : (s : ℕ) (buffers : List (List ℕ)) → AllByRecursion (λ bytes. length bytes ≡ s) buffers → length (concat buffers) ≡ length buffers * s
length-concat s [] h = omega arith
length-concat s (bytes ∷ buffers) h = grind (arith, length-append, length-concat s buffers h.1)

-- the slices of a target hold its bytes
cut_long : (s size n : ℕ) (buffers : List (List ℕ)) → 0 < s → n ≡ slice_count s size → n ≤ length buffers → AllByRecursion (λ bytes. length bytes ≡ s) buffers → length (take size (concat (take n buffers))) ≡ size
cut_long s size n buffers positive count some sizes =
    let bound : size ≤ (div_ceil size s) * s = (div_ceil_times size s positive).0 in
    let enough : size ≤ length (concat (take n buffers)) =
    subst (λ k. size ≤ k) (sym ((length-concat s (take n buffers) (all-take _ n buffers sizes)) ∙ ap (λ k. k * s) ((length-take-le n buffers some) ∙ count))) bound in
    length-take-le size (concat (take n buffers)) enough

cut_lengths : (s : ℕ) (ts : List Target) (buffers : List (List ℕ)) → 0 < s → AllByRecursion (λ t. length t.pairs ≡ slice_count s t.length) ts → length (flat_map (λ t. t.pairs) ts) ≤ length buffers → AllByRecursion (λ bytes. length bytes ≡ s) buffers
    → AllByRecursion (λ (c : Target × List ℕ). length c.1 ≡ c.0.length) (map (λ z. (z.0, take z.0.length (concat z.1))) (zip ts (cut_into (map (λ t. length t.pairs) ts) buffers)))
cut_lengths s [] buffers positive counts some sizes = tt
cut_lengths s (t ∷ ts) buffers positive counts some sizes =
    let joined : length (t.pairs ++ flat_map (λ u. u.pairs) ts) ≡ length t.pairs + length (flat_map (λ u. u.pairs) ts) = length-append t.pairs (flat_map (λ u. u.pairs) ts) in
    let left : length (drop (length t.pairs) buffers) ≡ length buffers - length t.pairs = length-drop (length t.pairs) buffers in (
      cut_long s t.length (length t.pairs) buffers positive counts.0 (omega (arith, some, joined)) sizes,
      cut_lengths s ts (drop (length t.pairs) buffers) positive counts.1 (omega (arith, some, joined, left)) (all-drop _ (length t.pairs) buffers sizes),
    )

pub written_lengths : FilesHaveTheirSize
written_lengths set slices sound count sizes =
    cut_lengths set.slice_size set.targets slices (size_positive set.slice_size sound.size) sound.pairs (omega (arith, count)) sizes
