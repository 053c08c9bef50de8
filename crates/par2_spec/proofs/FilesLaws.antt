-- The slices of a file restore it, and the slices of the files that a set was made from are rebuilt.
use Rattle.par2_spec.proofs.Common.{◌≡◌, ℕ, zero, suc, ◌+◌, ◌-◌, ◌*◌, ◌%◌, ◌<◌, ◌≤◌, List, [], ◌∷◌, ◌++◌, length, map, take, drop, refl, sym, ap, ◌∙◌, subst, true, Bool, arith, inl, inr, length-append, length-drop, zero-mul, append_assoc, append-nil, flat_map, filter, find, zip, replicate, ◌==◌, Option, Some, range_with_len, list_any, concat, AllByRecursion, AllZip, ForSome, add-mul, drop-append_seam, take-append_seam, take-append-add, div_ceil_times, length-take, length-take-le, length-replicate, length-map, take_all, drop_all, take-append-drop, drop-drop, map-append, cases_lt, pair_of, slice_count, slice_at, slices, windows, is_match, found, window, recovery, Agrees, kept_slices, kept, Folder, File, bytes_of, all_slices, record_of, Target, target_of_file, MadeFrom, all_pairs, lost, survivors, NoCollision, known, cut_into, files_of_slices, TrueSlicesAreRebuilt, cond, false, not, None, option_to_list, list_all, bytes_eq, and_parts, or_from, or_cases, or_left, or_right, eqb-true, false_from_ne_true, false≢true, not-false, cases_eq, not-true, not-not, md5, IsRepairable, is_among, has, names, ParSet, is_slice_size, is_intact, is_incomplete, incomplete, intact_names, matches, aside, put_aside, names_without_match, after_repair, after_repair_and_purge, par_files, rebuilt_targets, files_of}
use Rattle.par2_spec.proofs.Basics.{all-append, all-take, all-drop, all-each, all-flat_map-map, found_one, all-filter, rebuilt_is_only, all_weaker, all-flat_map, same_name, itself, clash, among-filter, among-append, apart_by_test, slice_begins, all_by_test, pairs_with, found_passes, sound_of, size_positive, size_parts, by_either, some_if, all-parts, all-both, all_unmap, filter-map, test_from_all}
use Rattle.par2_spec.proofs.UniqueLaws.{agreeing_is_rebuilt}
use Rattle.par2_spec.proofs.MovesLaws.{get_without}
use Rattle.par2_spec.proofs.RepairLaws.{Fits, match_free, matched_ones, written_ones, other_ones, target_no_aside}
use Rattle.std.specs.FinMap as map_of

-- ---- a slice

pub length-window : (s : ℕ) (bytes : List ℕ) (o : ℕ) → length (window s bytes o) ≡ s
length-window s bytes o = grind (arith, length-take, length-replicate, length-append)

pub length-slice_at : (s : ℕ) (bytes : List ℕ) (j : ℕ) → length (slice_at s bytes j) ≡ s
length-slice_at s bytes j = length-window s bytes (j * s)

abbrev pub AreBytes : List ℕ → Type 0
AreBytes bytes = AllByRecursion (λ b. b < 256) bytes

pub bytes-take : (n : ℕ) (xs : List ℕ) → AreBytes xs → AreBytes (take n xs)
bytes-take n xs h = all-take (λ b. b < 256) n xs h

pub bytes-drop : (n : ℕ) (xs : List ℕ) → AreBytes xs → AreBytes (drop n xs)
bytes-drop n xs h = all-drop (λ b. b < 256) n xs h

pub bytes-zeros : (n : ℕ) → AreBytes (replicate n 0)
bytes-zeros zero = tt
bytes-zeros (suc n) = (omega arith, bytes-zeros n)

pub bytes-window : (s : ℕ) (content : List ℕ) (o : ℕ) → AreBytes content → AreBytes (window s content o)
bytes-window s content o h = all-append (λ b. b < 256) (take s (drop o content)) (replicate (s - length (take s (drop o content))) 0) (bytes-take s (drop o content) (bytes-drop o content h)) (bytes-zeros _)

pub bytes-slice_at : (s : ℕ) (content : List ℕ) (j : ℕ) → AreBytes content → AreBytes (slice_at s content j)
bytes-slice_at s content j h = bytes-window s content (j * s) h

-- ---- the slices of a file, joined, begin with the file

rest_joined : (s : ℕ) (bytes : List ℕ) (n j : ℕ) → length bytes ≤ (j + n) * s → take (length bytes - j * s) (concat (map (slice_at s bytes) (range_with_len j n))) ≡ drop (j * s) bytes
rest_joined s bytes zero j le = grind (arith, drop_all)
rest_joined s bytes (suc n) j le =
    let rest = drop (j * s) bytes in
    let m = length bytes - j * s in
    let long : length rest ≡ m = length-drop (j * s) bytes in
    let later = concat (map (slice_at s bytes) (range_with_len (j + 1) n)) in
    let next : (j + 1) * s ≡ j * s + 1 * s = add-mul j 1 s in
    let here = rest_joined s bytes n (j + 1) (let e : j + suc n ≡ j + 1 + n = omega arith in subst (λ k. length bytes ≤ k * s) e le) in
    elim (cases_lt m s) as (λ _. take m (slice_at s bytes j ++ later) ≡ rest) [
      | inr full ↦
          let part : length (take s rest) ≡ s = length-take-le s rest (omega (arith, full, long)) in
          let whole : slice_at s bytes j ≡ take s rest = ap (λ k. take s rest ++ replicate k 0) (let e : s - length (take s rest) ≡ 0 = omega (arith, part) in e) ∙ append-nil (take s rest) in
          let cut : m ≡ length (take s rest) + (length bytes - (j + 1) * s) = omega (arith, part, full, next) in
          grind (arith, whole, cut, (take-append-add (take s rest) later (length bytes - (j + 1) * s)), here, next, let e : j * s + 1 * s ≡ j * s + s = omega arith in e, (drop-drop s (j * s) bytes), (take-append-drop s rest))
      | inl short ↦
          let whole : take s rest ≡ rest = take_all s rest (omega (arith, short, long)) in
          grind (arith, whole, (append_assoc rest (replicate (s - length rest) 0) later), long, (take-append_seam rest (replicate (s - length rest) 0 ++ later)))
    ]

less_none : (n m : ℕ) → m ≡ 0 → n ≡ n - m
less_none n m e = omega (arith, e)

pub slices_joined : (s : ℕ) (bytes : List ℕ) → 0 < s → take (length bytes) (concat (slices s bytes)) ≡ bytes
slices_joined s bytes positive =
    let enough : length bytes ≤ (slice_count s (length bytes)) * s = (div_ceil_times (length bytes) s positive).0 in
    grind (arith, (less_none (length bytes) (0 * s) (zero-mul s)), (rest_joined s bytes (slice_count s (length bytes)) 0 (subst (λ n. length bytes ≤ n * s) (omega arith) enough)), (zero-mul s))

-- files of one length with the same slices are equal
pub same_slices : (s : ℕ) (a b : List ℕ) → 0 < s → length a ≡ length b → slices s a ≡ slices s b → a ≡ b
same_slices s a b positive long e = sym (slices_joined s a positive) ∙ ap (λ xs. take (length a) (concat xs)) e ∙ ap (λ n. take n (concat (slices s b))) long ∙ slices_joined s b positive

-- ---- the contents of a set of files

pairs-target : (s : ℕ) (file : File) → (target_of_file s file).pairs ≡ map pair_of (slices s file.1)
pairs-target s file = unfold record_of in refl

pairs_of_files : (s : ℕ) (files : List File) → flat_map (λ t. t.pairs) (map (target_of_file s) files) ≡ map pair_of (all_slices s files)
pairs_of_files s [] = refl
pairs_of_files s (file ∷ files) = grind (arith, pairs-target, map-append, pairs_of_files s files)

abbrev with_file : ℕ → File → Target × List ℕ
with_file s file = (target_of_file s file, file.1)

abbrev cut_out : Target × List (List ℕ) → Target × List ℕ
cut_out z = (z.0, take z.0.length (concat z.1))

abbrev all_cut : List Target → List (List ℕ) → List (Target × List ℕ)
all_cut ts xs = map cut_out (zip ts (cut_into (map (λ t. length t.pairs) ts) xs))

-- the files cut out of all slices
cut_files : (s : ℕ) (files : List File) → 0 < s → all_cut (map (target_of_file s) files) (all_slices s files) ≡ map (with_file s) files
unfolding record_of
cut_files s [] positive = refl
cut_files s (file ∷ files) positive = grind (arith, pairs-target, length-map, take-append_seam, drop-append_seam, slices_joined, cut_files s files positive)

-- ---- no checksum collides

-- a window of a searched file that has the checksums of this slice is the slice
abbrev pub IsRunResult : Folder → List (List ℕ) → ℕ → List ℕ → Type 0
IsRunResult folder searched s slice = AllByRecursion (λ name. AllByRecursion (λ w. is_match (pair_of slice) w ≡ true → w ≡ slice) (windows s (bytes_of folder name))) searched

found_here : (p : List ℕ → Bool) (P : List ℕ → Type 0) (ws : List (List ℕ)) → AllByRecursion (λ w. p w ≡ true → P w) ws → (w : List ℕ) → find p ws ≡ Some w → P w
found_here p P ws h w e = let r = found_one (λ v. p v ≡ true → P v) p ws h w e in r.0 r.1

known_true : (folder : Folder) (searched : List (List ℕ)) (s : ℕ) (xs : List (List ℕ)) → AllByRecursion (IsRunResult folder searched s) xs
    → AllZip (λ slice bytes. ForSome slice (λ found. bytes ≡ found)) (map (found s (map (bytes_of folder) searched)) (map pair_of xs)) xs
known_true folder searched s [] h = tt
known_true folder searched s (x ∷ xs) h = (
  λ w e. sym (found_here (is_match (pair_of x)) (λ v. v ≡ x) (flat_map (windows s) (map (bytes_of folder) searched)) (all-flat_map-map (λ v. is_match (pair_of x) v ≡ true → v ≡ x) (windows s) (bytes_of folder) searched h.0) w e),
  known_true folder searched s xs h.1,
)

-- ---- the rebuilt slices

sizes_of_files : (s : ℕ) (files : List File) → AllByRecursion (λ bytes. length bytes ≡ s) (all_slices s files)
sizes_of_files s [] = tt
sizes_of_files s (file ∷ files) = all-append (λ bytes. length bytes ≡ s) (slices s file.1) (all_slices s files) (all-each (λ bytes. length bytes ≡ s) (slice_at s file.1) (length-slice_at s file.1) (range_with_len 0 (slice_count s (length file.1)))) (sizes_of_files s files)

bytes_of_files : (s : ℕ) (files : List File) → AllByRecursion (λ file. AreBytes file.1) files → AllByRecursion AreBytes (all_slices s files)
bytes_of_files s files h =
    all-flat_map _ AreBytes (λ file. slices s file.1) (λ file bytes. all-each AreBytes (slice_at s file.1) (λ j. bytes-slice_at s file.1 j bytes) (range_with_len 0 _)) files h

swapped : (s : ℕ) (xs : List (List ℕ)) (rs : List (ℕ × List ℕ)) → AllByRecursion (λ r. r.1 ≡ recovery s xs r.0) rs → AllByRecursion (λ r. recovery s xs r.0 ≡ r.1) rs
swapped s xs rs h = all_weaker (λ r. r.1 ≡ recovery s xs r.0) (λ r. recovery s xs r.0 ≡ r.1) (λ r e. sym e) rs h

-- the slices of the files that a set was made from agree with everything that is found
pub true_slices_agree : (folder : Folder) (base : List ℕ) (files : List File) (s : ℕ) (searched : List (List ℕ)) (m : MadeFrom folder base files s) → NoCollision folder searched s (all_slices s files) → AllByRecursion (λ file. AreBytes file.1) files
    → Agrees s (known folder m.set searched) (map_of.entries m.set.recovery) (all_slices s files)
true_slices_agree folder base files s searched m reported bytes = unfold known in record {
  sizes = sizes_of_files s files;
  bytes = bytes_of_files s files bytes;
  as_known = subst (λ ks. AllZip (λ slice content. ForSome slice (λ found. content ≡ found)) ks (all_slices s files))
      (ap (map (found s (map (bytes_of folder) searched))) (sym (ap (flat_map (λ t. t.pairs)) m.targets ∙ pairs_of_files s files)) ∙ ap (λ n. map (found n (map (bytes_of folder) searched)) (all_pairs m.set)) (sym m.slice_size))
      (known_true folder searched s (all_slices s files) reported);
  as_recovered = swapped s (all_slices s files) (map_of.entries m.set.recovery) m.recovered;
}

-- they also agree with fewer recovery slices
fewer_agree : (s : ℕ) (known : List (Option (List ℕ))) (rs : List (ℕ × List ℕ)) (slices : List (List ℕ)) (p : ℕ × List ℕ → Bool) → Agrees s known rs slices → Agrees s known (filter p rs) slices
fewer_agree s known rs slices p agrees = grind (arith, all-filter)

-- they are the rebuilt slices
pub true_slices_rebuilt : TrueSlicesAreRebuilt
true_slices_rebuilt folder base files s searched m even reported bytes repairable =
    rebuilt_is_only m.set (known folder m.set searched) (all_slices s files)
    (agreeing_is_rebuilt m.set (known folder m.set searched) (all_slices s files) (ap (λ n. n % 2) m.slice_size ∙ even) repairable
    (subst (λ n. Agrees n (known folder m.set searched) (kept_slices (lost (known folder m.set searched)) (survivors m.set) (map_of.entries m.set.recovery)) (all_slices s files)) (sym m.slice_size)
    (fewer_agree s (known folder m.set searched) (map_of.entries m.set.recovery) (all_slices s files) (λ r. list_any (λ e. e == r.0) (kept (lost (known folder m.set searched)) (survivors m.set))) (true_slices_agree folder base files s searched m reported bytes))))

-- the files are cut out of them
pub true_files : (folder : Folder) (base : List ℕ) (files : List File) (s : ℕ) (m : MadeFrom folder base files s) → 0 < s → files_of_slices m.set (all_slices s files) ≡ map (λ file. (target_of_file s file, file.1)) files
true_files folder base files s m positive = ap (λ ts. all_cut ts (all_slices s files)) m.targets ∙ cut_files s files positive

-- A repair leaves each of the files that a set was made from.

-- ---- bytes that are intact for a file are its bytes

at_range : {A : Type 0} (P : A → Type 0) (f : ℕ → A) (a n o : ℕ) → AllByRecursion P (map f (range_with_len a n)) → a ≤ o → o < a + n → P (f o)
at_range P f a zero o h low high = absurd (omega (arith, low, high))
at_range P f a (suc n) o h low high = by_either (cases_eq a o)
    (λ same. subst (λ x. P (f x)) same h.0)
    (λ other. at_range P f (a + 1) n o h.1 (omega (arith, low, other)) (omega (arith, high)))

pub at_name : (P : List ℕ → Type 0) (names : List (List ℕ)) (q : List ℕ) → AllByRecursion P names → is_among names q ≡ true → P q
at_name P [] q h i = absurd (false≢true i)
at_name P (x ∷ names) q h i =
    by_either (or_cases (bytes_eq q x) (is_among names q) i) (λ here. subst P (sym (same_name q x here)) h.0) (λ there. at_name P names q h.1 there)

matched_slices : (s : ℕ) (bytes content : List ℕ) (a k : ℕ) → ((j : ℕ) → j < a + k → j * s < length bytes)
    → AllByRecursion (λ x. AllByRecursion (λ w. is_match (pair_of x) w ≡ true → w ≡ x) (windows s bytes)) (map (slice_at s content) (range_with_len a k))
    → list_all (λ z. is_match z.0 z.1) (zip (map pair_of (map (slice_at s content) (range_with_len a k))) (map (slice_at s bytes) (range_with_len a k))) ≡ true
    → map (slice_at s bytes) (range_with_len a k) ≡ map (slice_at s content) (range_with_len a k)
matched_slices s bytes content a zero begins reported h = refl
matched_slices s bytes content a (suc k) begins reported h =
    let x = slice_at s content a in
    let r = and_parts (is_match (pair_of x) (slice_at s bytes a)) (list_all (λ z. is_match z.0 z.1) (zip (map pair_of (map (slice_at s content) (range_with_len (a + 1) k))) (map (slice_at s bytes) (range_with_len (a + 1) k)))) h in
    let inside : a * s < length bytes = begins a (omega arith) in
    let same : slice_at s bytes a ≡ x = at_range (λ w. is_match (pair_of x) w ≡ true → w ≡ x) (window s bytes) 0 (length bytes) (a * s) reported.0 (omega arith) (omega (arith, inside)) r.0 in
    grind (arith, same, (matched_slices s bytes content (a + 1) k (λ j l. begins j (omega (arith, l))) reported.1 r.1))

-- the file's bytes are the only ones among the searched files that are intact for it
abbrev IsExact : Folder → ℕ → List (List ℕ) → File → Type 0
IsExact folder s searched file = (name : List ℕ) → is_among searched name ≡ true → is_intact s (target_of_file s file) (bytes_of folder name) ≡ true → bytes_of folder name ≡ file.1

exact_files : (folder : Folder) (s : ℕ) (searched : List (List ℕ)) (files : List File) → 0 < s → NoCollision folder searched s (all_slices s files) → AllByRecursion (IsExact folder s searched) files
exact_files folder s searched [] positive reported = tt
exact_files folder s searched (file ∷ files) positive reported =
    let r = all-parts (IsRunResult folder searched s) (slices s file.1) (all_slices s files) reported in
    ((λ name i h. unfold record_of in grind (arith, and_parts, eqb-true, all_weaker, at_name, same_slices, matched_slices, slice_begins)), exact_files folder s searched files positive r.1)

-- ---- file by file

-- the folder has the file
abbrev pub Holds : Folder → File → Type 0
Holds folder file = map_of.get folder file.0 ≡ Some file.1

incomplete_hold : (folder after : Folder) (s : ℕ) (searched free : List (List ℕ)) (files : List File) (is_written : List ℕ → Bool)
    → ((q : List ℕ) → is_among free q ≡ true → is_among searched q ≡ true)
    → ((q : List ℕ) → is_among (names_without_match (pairs_with folder s free (map (target_of_file s) files))) q ≡ true → is_written q ≡ true)
    → AllByRecursion (λ file. is_written file.0 ≡ true → Holds after file) files → AllByRecursion (IsExact folder s searched) files
    → AllByRecursion (λ m. ForSome m.1 (λ name. map_of.get after m.0.name ≡ Some (bytes_of folder name))) (pairs_with folder s free (map (target_of_file s) files))
    → AllByRecursion (Holds after) files
unfolding record_of
incomplete_hold folder after s searched free [] is_written within written by_slices exact by_match = tt
incomplete_hold folder after s searched free (file ∷ files) is_written within written by_slices exact by_match =
    let p = (λ (name : List ℕ). is_intact s (target_of_file s file) (bytes_of folder name)) in
    let later = filter (λ name. not (is_among (option_to_list (find p free)) name)) free in (
      head (find p free) (found_passes p free) (written file.0) by_match.0,
      incomplete_hold folder after s searched later files is_written
          (λ q h. within q (and_parts _ _ (sym (among-filter (λ name. not (is_among (option_to_list (find p free)) name)) free q) ∙ h)).0)
          (λ q h. written q (tail (find p free) (pairs_with folder s later (map (target_of_file s) files)) q h))
          by_slices.1 exact.1 by_match.1,
    )
  where
    head : (o : Option (List ℕ)) → ((x : List ℕ) → o ≡ Some x → (is_among free x ≡ true) × (is_intact s (target_of_file s file) (bytes_of folder x) ≡ true))
        → (is_among (names_without_match ((target_of_file s file, o) ∷ pairs_with folder s (filter (λ name. not (is_among (option_to_list o) name)) free) (map (target_of_file s) files))) file.0 ≡ true → is_written file.0 ≡ true)
        → ForSome o (λ name. map_of.get after file.0 ≡ Some (bytes_of folder name)) → Holds after file
    head None k w m = by_slices.0 (w (or_left _ _ (itself file.0)))
    head (Some x) k w m = let r = k x refl in m x refl ∙ ap Some (exact.0 x (within x r.0) r.1)

    tail : (o : Option (List ℕ)) (ms : List (Target × Option (List ℕ))) (q : List ℕ) → is_among (names_without_match ms) q ≡ true → is_among (names_without_match ((target_of_file s file, o) ∷ ms)) q ≡ true
    tail o ms q h = grind arith

-- the files that a test selects, written from slices
written_files : (after : Folder) (s : ℕ) (test : List ℕ → Bool) (files : List File) → AllByRecursion (λ c. map_of.get after c.0.name ≡ Some c.1) (filter (λ c. test c.0.name) (map (λ (file : File). let c : Target × List ℕ = (target_of_file s file, file.1) in c) files))
    → AllByRecursion (λ file. test file.0 ≡ true → Holds after file) files
unfolding record_of
written_files after s test [] h = tt
written_files after s test (file ∷ files) h = grind (arith, clash, written_files after s test files)

-- ---- names of targets

all_names : {A : Type 0} (name : A → List ℕ) (xs : List A) → AllByRecursion (λ x. is_among (map name xs) (name x) ≡ true) xs
all_names name [] = tt
all_names name (x ∷ xs) = (or_left _ _ (itself (name x)), all_weaker (λ y. is_among (map name xs) (name y) ≡ true) (λ y. is_among (map name (x ∷ xs)) (name y) ≡ true) (λ y h. or_right (bytes_eq (name y) (name x)) (is_among (map name xs) (name y)) h) xs (all_names name xs))

chosen_names : {A : Type 0} (name : A → List ℕ) (p : A → Bool) (xs : List A) → AllByRecursion (λ x. p x ≡ true → is_among (map name (filter p xs)) (name x) ≡ true) xs
chosen_names name p [] = tt
chosen_names {A = A} name p (x ∷ xs) = grind (arith, or_left, itself, all_weaker, or_right, chosen_names name p xs)

-- files that are read by their names have those names
pub names_of_files : (folder : Folder) (names : List (List ℕ)) → map (λ file. file.0) (files_of folder names) ≡ names
names_of_files folder [] = refl
names_of_files folder (name ∷ names) = ap (λ ns. name ∷ ns) (names_of_files folder names)

-- ---- after a repair

module _ (folder : Folder) (base : List ℕ) (files : List File) (s : ℕ) (searched : List (List ℕ)) (m : MadeFrom folder base files s) (all : Fits folder m.set searched) where
  abbrev set : ParSet
  set = m.set

  abbrev after : Folder
  after = after_repair folder m.set searched

  abbrev targets : List (List ℕ)
  targets = map (λ t. t.name) m.set.targets

  abbrev IsWanted : File → Bool
  IsWanted file = is_incomplete folder m.set (target_of_file s file)

  abbrev free : List (List ℕ)
  free = filter (λ name. not (is_among (intact_names folder m.set) name)) searched

  -- a target's name is among the targets' names and, if the target is intact, among the intact ones'
  abbrev IsNamed : Target → Type 0
  IsNamed t = (is_among (map (λ u. u.name) m.set.targets) t.name ≡ true) × (not (is_incomplete folder m.set t) ≡ true → is_among (intact_names folder m.set) t.name ≡ true)

  named : AllByRecursion (λ file. IsNamed (target_of_file s file)) files
  named =
      all_unmap IsNamed (target_of_file s) files (subst (AllByRecursion IsNamed) m.targets
      (all-both (λ t. is_among targets t.name ≡ true) (λ t. not (is_incomplete folder m.set t) ≡ true → is_among (intact_names folder m.set) t.name ≡ true) IsNamed (λ t own intact. (own, intact)) m.set.targets (all_names (λ t. t.name) m.set.targets) (chosen_names (λ t. t.name) (λ t. not (is_incomplete folder m.set t)) m.set.targets)))

  untouched : (q : List ℕ) → is_among targets q ≡ true → is_among (intact_names folder m.set) q ≡ true → map_of.get after q ≡ map_of.get folder q
  untouched q own intact =
      other_ones folder m.set searched all q
      (apart_by_test (λ t. t.name) (λ t. not (is_incomplete folder m.set t)) (is_incomplete folder m.set) (λ t. sym (not-not (is_incomplete folder m.set t))) m.set.targets all.once q intact)
      (false_from_ne_true _ (λ i. clash intact (not-true _ (match_free folder m.set searched all q i).1)))
      (target_no_aside folder m.set searched all (put_aside folder m.set) q own)

  intact_hold : ((q : List ℕ) → is_among targets q ≡ true → has folder q ≡ true → is_among searched q ≡ true) → (fs : List File) → AllByRecursion (λ file. IsNamed (target_of_file s file)) fs → AllByRecursion (IsExact folder s searched) fs
      → AllByRecursion (λ file. IsWanted file ≡ false → Holds after file) fs
  unfolding record_of
  intact_hold present [] n x = tt
  intact_hold present (file ∷ fs) n x = grind (arith, and_parts, not-false, untouched, some_if, intact_hold present fs n.1 x.1)

  -- each file is there
  pub repaired_files : ((q : List ℕ) → is_among (map (λ t. t.name) m.set.targets) q ≡ true → has folder q ≡ true → is_among searched q ≡ true) → 0 < s → s % 2 ≡ 0 → NoCollision folder searched s (all_slices s files)
      → AllByRecursion (λ file. AllByRecursion (λ b. b < 256) file.1) files → IsRepairable (lost (known folder m.set searched)) (survivors m.set) → AllByRecursion (Holds (after_repair folder m.set searched)) files
  repaired_files present positive even reported bytes repairable = unfold matches rebuilt_targets in
      let exact = exact_files folder s searched files positive reported in
      let test = is_among (names_without_match (matches folder m.set searched)) in
      let wanted = filter IsWanted files in
      let needed : incomplete folder m.set ≡ map (target_of_file s) wanted = ap (filter (is_incomplete folder m.set)) m.targets ∙ filter-map (is_incomplete folder m.set) (target_of_file s) files in
      let pairs : matches folder m.set searched ≡ pairs_with folder s free (map (target_of_file s) wanted) = ap (λ ts. pairs_with folder m.set.slice_size free ts) needed ∙ ap (λ n. pairs_with folder n free (map (target_of_file s) wanted)) m.slice_size in
      let cut = ap (files_of_slices m.set) (true_slices_rebuilt folder base files s searched m even reported bytes repairable) ∙ true_files folder base files s m positive in
      let by_slices = written_files after s test files (subst (λ cs. AllByRecursion (λ c. map_of.get after c.0.name ≡ Some c.1) (filter (λ c. test c.0.name) cs)) cut (written_ones folder m.set searched all)) in
      all_by_test (Holds after) IsWanted files (intact_hold present files named exact)
      (incomplete_hold folder after s searched free wanted test
      (λ q h. (and_parts _ _ (sym (among-filter (λ name. not (is_among (intact_names folder m.set) name)) searched q) ∙ h)).0)
      (λ q h. ap (λ ms. is_among (names_without_match ms) q) pairs ∙ h)
      (all-filter (λ file. test file.0 ≡ true → Holds after file) IsWanted files by_slices)
      (all-filter (IsExact folder s searched) IsWanted files exact)
      (subst (AllByRecursion (λ n. ForSome n.1 (λ name. map_of.get after n.0.name ≡ Some (bytes_of folder name)))) pairs (matched_ones folder m.set searched all)))

  -- the files have their MD5s
  pub right_digests : 0 < s → s % 2 ≡ 0 → NoCollision folder searched s (all_slices s files) → AllByRecursion (λ file. AllByRecursion (λ b. b < 256) file.1) files → IsRepairable (lost (known folder m.set searched)) (survivors m.set)
      → list_all (λ c. bytes_eq (md5 c.1) c.0.md5) (rebuilt_targets folder m.set searched) ≡ true
  unfolding rebuilt_targets record_of
  right_digests positive even reported bytes repairable =
      let cut = ap (files_of_slices m.set) (true_slices_rebuilt folder base files s searched m even reported bytes repairable) ∙ true_files folder base files s m positive in
      ap (λ cs. list_all is_right (filter (λ c. is_among (names_without_match (matches folder m.set searched)) c.0.name) cs)) cut ∙ some_right (λ c. is_among (names_without_match (matches folder m.set searched)) c.0.name) files
    where
      is_right : Target × List ℕ → Bool
      is_right c = bytes_eq (md5 c.1) c.0.md5

      some_right : (test : Target × List ℕ → Bool) (fs : List File) → list_all is_right (filter test (map (λ (file : File). let c : Target × List ℕ = (target_of_file s file, file.1) in c) fs)) ≡ true
      some_right test fs = test_from_all is_right _ (all-filter (λ c. is_right c ≡ true) test _
          (all-each (λ c. is_right c ≡ true) (λ (file : File). let c : Target × List ℕ = (target_of_file s file, file.1) in c) (λ file. itself (md5 file.1)) fs))

  -- a repair that also purges leaves them too
  abbrev gone : List (List ℕ)
  gone = map (aside folder m.set) (put_aside folder m.set) ++ par_files folder m.set

  stays : (q : List ℕ) → is_among targets q ≡ true → is_among gone q ≡ false
  stays q own = grind (arith, among-append, or_from, target_no_aside, false_from_ne_true, and_parts, among-filter, clash)

  all_stay : (fs : List File) → AllByRecursion (λ file. IsNamed (target_of_file s file)) fs → AllByRecursion (Holds after) fs → AllByRecursion (Holds (after_repair_and_purge folder m.set searched)) fs
  unfolding record_of
  all_stay fs n k = all-both _ _ _ (λ file named held. get_without gone after file.0 ∙ ap (λ b. cond b None (map_of.get after file.0)) (stays file.0 named.0) ∙ held) fs n k

  pub purged_files : AllByRecursion (Holds (after_repair folder m.set searched)) files → AllByRecursion (Holds (after_repair_and_purge folder m.set searched)) files
  purged_files h = all_stay files named h

-- ---- the command

pub size_even : (s : ℕ) → is_slice_size s ≡ true → s % 2 ≡ 0
size_even s h = let fours : s % 4 ≡ 0 = (size_parts s h).0 in omega (arith, fours)

-- the slice size of a set that was made from files
pub made_size : (folder : Folder) (base : List ℕ) (files : List File) (s : ℕ) (m : MadeFrom folder base files s) → (0 < s) × (s % 2 ≡ 0)
made_size folder base files s m =
    let right = subst (λ n. is_slice_size n ≡ true) m.slice_size (sound_of folder base m.set m.reads).size in
    (size_positive s right, size_even s right)
