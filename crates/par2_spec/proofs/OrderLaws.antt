-- The files sorted by File ID, and only one list of them is strictly increasing.
use Rattle.par2_spec.proofs.Common.{◌≡◌, ◌≢◌, ℕ, suc, ◌+◌, ◌<◌, ◌≤◌, List, [], ◌∷◌, length, map, refl, sym, ap₂, subst, false, Bool, eqb, arith, nat_le, IsPermutation, slice_index, w128, from_le_bytes, AllByRecursion, IsDistinct, IsStrictlyIncreasing, leb-true, leb-false, eqb-true, eq-eqb, false_from_ne_true, All-from_recursion, recursion_from_All, IsDistinct-IsPermutation, Folder, File, bytes_of, FileRecord, id_number, insert_by_id, record_of, in_id_order, files_of, All-permutation, IsPermutation-sym, IsPermutation-refl, IsPermutation-trans, IsPermutation-cons, IsPermutation-swap, IsPermutation-map}
use Rattle.par2_spec.proofs.Basics.{clash, all-map, all-both, all_weaker, same_tests, all-each, by_test}

-- ---- increasing lists

-- the number of each item is below those of later items
abbrev Rises : {A : Type 0} → (A → ℕ) → List A → Type 0
Rises n [] = Unit {0}
Rises n (x ∷ xs) = AllByRecursion (λ y. n x < n y) xs × Rises n xs

-- no two items have the same number
abbrev AreApart : {A : Type 0} → (A → ℕ) → List A → Type 0
AreApart n [] = Unit {0}
AreApart n (x ∷ xs) = AllByRecursion (λ y. n y ≡ n x → ⊥) xs × AreApart n xs

rises-increasing : {A : Type 0} (n : A → ℕ) (xs : List A) → IsStrictlyIncreasing (map n xs) → Rises n xs
rises-increasing n (x ∷ y ∷ xs) h =
    let later : (k : ℕ) → k + 1 < length (map n (y ∷ xs)) → slice_index (map n (y ∷ xs)) k < slice_index (map n (y ∷ xs)) (k + 1) = (λ k l.
    let next : suc k + 1 ≡ suc (k + 1) = omega arith in
    subst (λ m. slice_index (map n (y ∷ xs)) k < slice_index (map n (x ∷ y ∷ xs)) m) next (h (suc k) (omega (arith, l)))) in
    let rest = rises-increasing n (y ∷ xs) (λ k l. later k l) in
    (((h 0 (omega arith)), all_weaker (λ z. n y < n z) (λ z. n x < n z) (λ z l. omega (arith, (h 0 (omega arith)), l)) xs rest.0), rest)
rises-increasing n xs h = grind arith

-- a property of one list without its least item holds for the other without its own
all_but_least : {A : Type 0} (n : A → ℕ) (x y : A) (xs ys : List A) → n x ≡ n y → AllByRecursion (λ z. n y < n z) ys → ((P : A → Type 0) → AllByRecursion P (x ∷ xs) → AllByRecursion P (y ∷ ys))
    → (P : A → Type 0) → AllByRecursion P xs → AllByRecursion P ys
all_but_least {A = A} n x y xs ys same above forth P h =
    let Q : A → Type 0 = (λ z. (n z ≡ n x → ⊥) → P z) in
    all-both (λ z. n y < n z) Q P (λ z l q. q (λ e. absurd (omega (arith, l, e, same)))) ys above
    (forth Q ((λ apart. absurd (apart refl)), all_weaker P Q (λ z p apart. p) xs h)).1

-- two increasing lists with the same members are equal
rising_once : {A : Type 0} (n : A → ℕ) (xs ys : List A) → Rises n xs → Rises n ys → ((P : A → Type 0) → AllByRecursion P xs → AllByRecursion P ys) → ((P : A → Type 0) → AllByRecursion P ys → AllByRecursion P xs) → xs ≡ ys
rising_once n [] [] a b forth back = refl
rising_once n [] (y ∷ ys) a b forth back = absurd ((forth (λ z. ⊥) tt).0)
rising_once n (x ∷ xs) [] a b forth back = absurd ((back (λ z. ⊥) tt).0)
rising_once n (x ∷ xs) (y ∷ ys) a b forth back =
    let high : n x ≤ n y = (forth (λ z. n x ≤ n z) (omega arith, all_weaker (λ z. n x < n z) (λ z. n x ≤ n z) (λ z l. omega (arith, l)) xs a.0)).0 in
    let same : n x ≡ n y = omega (arith, ((back (λ z. n y ≤ n z) (omega arith, all_weaker (λ z. n y < n z) (λ z. n y ≤ n z) (λ z l. omega (arith, l)) ys b.0)).0), high) in
    let first : x ≡ y = (back (λ z. n z ≡ n x → z ≡ y) ((λ e. refl), all_weaker (λ z. n y < n z) (λ z. n z ≡ n x → z ≡ y) (λ z l e. absurd (omega (arith, l, e, same))) ys b.0)).0 refl in
    ap₂ (λ z zs. z ∷ zs) first (rising_once n xs ys a.1 b.1 (all_but_least n x y xs ys same b.0 forth) (all_but_least n y x ys xs (sym same) a.0 back))

-- ---- the files in order

-- the number of each item is at most those of later items
abbrev Climbs : {A : Type 0} → (A → ℕ) → List A → Type 0
Climbs n [] = Unit {0}
Climbs n (x ∷ xs) = AllByRecursion (λ y. n x ≤ n y) xs × Climbs n xs

climbs-map : {A B : Type 0} (n : B → ℕ) (g : A → B) (xs : List A) → Climbs (λ x. n (g x)) xs → Climbs n (map g xs)
climbs-map n g [] h = tt
climbs-map n g (x ∷ xs) h = (all-map (λ y. n (g x) ≤ n (g y)) (λ z. n (g x) ≤ n z) g (λ y l. l) xs h.0, climbs-map n g xs h.1)

rises-climbs : {A : Type 0} (n : A → ℕ) (xs : List A) → Climbs n xs → AreApart n xs → Rises n xs
rises-climbs n [] h k = tt
rises-climbs n (x ∷ xs) h k = (all-both (λ y. n x ≤ n y) (λ y. n y ≡ n x → ⊥) (λ y. n x < n y) (λ y l apart. let other : n y ≢ n x = apart in omega (arith, l, other)) xs h.0 k.0, rises-climbs n xs h.1 k.1)

pub moved-all : {A : Type 0} (P : A → Type 0) (xs ys : List A) → IsPermutation xs ys → AllByRecursion P xs → AllByRecursion P ys
moved-all P xs ys m h = recursion_from_All P ys (All-permutation P xs ys m (All-from_recursion P xs h))

moved-inserted : (file : File) (files : List File) → IsPermutation (file ∷ files) (insert_by_id file files)
moved-inserted file [] = IsPermutation-refl (file ∷ [])
moved-inserted file (next ∷ files) = by_test (nat_le (id_number file) (id_number next)) (λ e. rw e (IsPermutation-refl (file ∷ next ∷ files)))
    (λ e. rw e (IsPermutation-trans (file ∷ next ∷ files) (next ∷ file ∷ files) (next ∷ insert_by_id file files)
    (IsPermutation-swap (file ∷ next ∷ files) (next ∷ file ∷ files) 0 1 (omega arith) (omega arith) refl) (IsPermutation-cons next (file ∷ files) (insert_by_id file files) (moved-inserted file files))))

pub moved-ordered : (files : List File) → IsPermutation files (in_id_order files)
unfolding in_id_order
moved-ordered [] = IsPermutation-refl []
moved-ordered (file ∷ files) = IsPermutation-trans (file ∷ files) (file ∷ in_id_order files) (insert_by_id file (in_id_order files)) (IsPermutation-cons file files (in_id_order files) (moved-ordered files)) (moved-inserted file (in_id_order files))

climbs-inserted : (file : File) (files : List File) → Climbs id_number files → Climbs id_number (insert_by_id file files)
climbs-inserted file [] h = (tt, tt)
climbs-inserted file (next ∷ files) h = by_test (nat_le (id_number file) (id_number next))
    (λ e. let most : id_number file ≤ id_number next = leb-true (id_number file) (id_number next) e in
    rw e ((most, all_weaker (λ z. id_number next ≤ id_number z) (λ z. id_number file ≤ id_number z) (λ z l. omega (arith, most, l)) files h.0), h))
    (λ e. let less : id_number next < id_number file = leb-false (id_number file) (id_number next) e in
    rw e (moved-all (λ z. id_number next ≤ id_number z) (file ∷ files) (insert_by_id file files) (moved-inserted file files) (omega (arith, less), h.0), climbs-inserted file files h.1))

climbs-ordered : (files : List File) → Climbs id_number (in_id_order files)
unfolding in_id_order
climbs-ordered [] = tt
climbs-ordered (file ∷ files) = climbs-inserted file (in_id_order files) (climbs-ordered files)

-- ---- the records of the files, in order

-- the File ID in a record as a number
abbrev number_in : FileRecord → ℕ
number_in file = from_le_bytes w128 file.id

abbrev has_one_number : FileRecord → FileRecord → Bool
has_one_number a b = eqb (number_in a) (number_in b)

swapped : (a b : FileRecord) → has_one_number a b ≡ has_one_number b a
swapped a b = same_tests (eqb (number_in a) (number_in b)) (eqb (number_in b) (number_in a)) (λ e. eq-eqb _ _ (sym (eqb-true _ _ e))) (λ e. eq-eqb _ _ (sym (eqb-true _ _ e)))

distinct-rises : (records : List FileRecord) → Rises number_in records → IsDistinct has_one_number records
unfolding IsDistinct
distinct-rises [] h = tt
distinct-rises (r ∷ records) h = grind (arith, all_weaker, false_from_ne_true, eqb-true, distinct-rises records h.1)

apart-distinct : (records : List FileRecord) → IsDistinct has_one_number records → AreApart number_in records
unfolding IsDistinct
apart-distinct [] h = tt
apart-distinct (r ∷ records) h = (all_weaker (λ z. has_one_number r z ≡ false) (λ z. number_in z ≡ number_in r → ⊥) (λ z no e. clash (eq-eqb (number_in r) (number_in z) (sym e)) no) records h.0, apart-distinct records h.1)

climbs-records : (s : ℕ) (files : List File) → Climbs id_number files → Climbs number_in (map (record_of s) files)
climbs-records s files h = unfold record_of in climbs-map number_in (record_of s) files h

-- records of these files with increasing File IDs are those of the files in order
pub rising_records :
    (s : ℕ) (files : List File) (records : List FileRecord)
    → IsPermutation (map (record_of s) files) records
    → IsStrictlyIncreasing (map (λ file. from_le_bytes w128 file.id) records)
    → records ≡ map (record_of s) (in_id_order files)
rising_records s files records moved up =
    let ordered : List FileRecord = map (record_of s) (in_id_order files) in
    let there : IsPermutation records ordered =
    IsPermutation-trans records (map (record_of s) files) ordered (IsPermutation-sym (map (record_of s) files) records moved) (IsPermutation-map (record_of s) files (in_id_order files) (moved-ordered files)) in
    let rises : Rises number_in records = rises-increasing number_in records up in
    let apart : AreApart number_in ordered = apart-distinct ordered (IsDistinct-IsPermutation has_one_number swapped records ordered there (distinct-rises records rises)) in
    rising_once number_in records ordered rises (rises-climbs number_in ordered (climbs-records s (in_id_order files) (climbs-ordered files)) apart) (λ P h. moved-all P records ordered there h) (λ P h. moved-all P ordered records (IsPermutation-sym records ordered there) h)

-- ---- the files in order, by their names

abbrev HasItsBytes : Folder → File → Type 0
HasItsBytes folder file = (file.0, bytes_of folder file.0) ≡ file

files_by_name : (folder : Folder) (files : List File) → AllByRecursion (HasItsBytes folder) files → files_of folder (map (λ file. file.0) files) ≡ files
files_by_name folder [] h = refl
files_by_name folder (file ∷ files) h = ap₂ (λ f fs. f ∷ fs) h.0 (files_by_name folder files h.1)

-- reading the files by their names returns the files
pub files_of_ordered : (folder : Folder) (names : List (List ℕ)) → files_of folder (map (λ file. file.0) (in_id_order (files_of folder names))) ≡ in_id_order (files_of folder names)
files_of_ordered folder names = grind (arith, (files_by_name folder (in_id_order (files_of folder names)) (moved-all (HasItsBytes folder) (files_of folder names) (in_id_order (files_of folder names)) (moved-ordered (files_of folder names)) (all-each (HasItsBytes folder) (λ name. (name, bytes_of folder name)) (λ name. refl) names))))
