-- Files sorted by their names: what a search finds in them, and what an edit at a position does to their folder.
use Rattle.par2_files.proofs.Common.{AreFilesOf, IsSearched, ◌≡◌, ℕ, zero, suc, ◌+◌, ◌<◌, ◌≤◌, Bool, true, false, cond, not, List, [], ◌∷◌, ◌++◌, length, take, drop, get_or, set, is_some, Option, Some, None, Result, Ok, Err, IsTrue, T, refl, sym, ap, subst, ◌∙◌, arith, insert, remove, AllByRecursion, IsSearchInRange, IsBinarySearchResult, IsNonDecreasingBy, ordering_index, ordering_reverse, eq_by_cmp, is_lt, is_eq, is_gt, Ordering, Less, Equal, Greater, and_parts, nat_list_cmp_total, entries, is_sorted, find, put, IsAntisymmetric, slice_cmp-IsAntisymmetric, nat_cmp-IsAntisymmetric, same_entries_map, same_map, entries_sorted, entries-from_sorted, get-from_sorted, entries-insert, get-remove, get-empty, where_key, find-where_key, is_sorted-where_key, length-map, get_or-map, length-take-le, get_or-take, take_all, drop_all, take_more, get_or_default, All-from_recursion, recursion_from_All, All-append, All-cons, All-drop, All-set, All-take, File, Folder, IsFolder, has, names, name_cmp, IsSortedByName, folder_of, file_at, IsFileAt, IsGapFor, IsFile, AreFolderFiles, by_true, is_true, cond-not, common_steps, ord_min, get-retain_keys, get-insert, cases_lt, behind_length, bytes_of, is_below, fingerprint_input, first_name, IsFront, effect, Change, Write, Replace, Rename, Remove, flat_map-append, ◌-◌, map, map-append, take-map, drop-map, take-take, drop-take, take-append-drop, IsFurther, is_before, bytes_before, touches, Split, Beginning, At, End, file_of, map-set, Bor, false≢true, tied_itself, eq_by_cmp_equiv, upto, All, searchable_from_sorted}
use Rattle.std.specs.FinMap as map_of
use Rattle.par2_spec.specs.Changes as defined

pub same_names : IsAntisymmetric name_cmp
same_names = slice_cmp-IsAntisymmetric nat_cmp-IsAntisymmetric

pub less : (o : Ordering) → IsTrue (is_lt o) → o ≡ Less
less o h = grind (arith)

tail_at : (e : File) (files : List File) (name : List ℕ) (i : ℕ) → IsFileAt (e ∷ files) name (suc i) → IsFileAt files name i
tail_at e files name i here = record { in_range = omega (arith, here.in_range); has_name = here.has_name }

tail_gap : (e : File) (files : List File) (name : List ℕ) (i rest : ℕ) → IsGapFor (e ∷ files) name i → rest ≡ i - 1 → IsGapFor files name rest
tail_gap e files name i rest gap is = record {
  in_range = omega (arith, gap.in_range);
  smaller_before = λ j lt. gap.smaller_before (suc j) (omega (arith, lt, is));
  greater_after = λ j le lt. gap.greater_after (suc j) (omega (arith, le, is)) (omega (arith, lt));
}

-- a file of a sorted list comes before each that follows it
below : (name : List ℕ) (files : List File) (i : ℕ) (d : File) → IsTrue (map_of.Entries.below_all name_cmp name files) → i < length files → name_cmp name (get_or files i d).0 ≡ Less
below name (e ∷ files) (suc i) d h lt = below name files i d (and_parts _ _ h).1 (omega arith)
below name files i d h lt = grind (arith, less, and_parts)

pub rises : (files : List File) → IsSortedByName files → (i j : ℕ) (d : File) → i < j → j < length files → name_cmp (get_or files i d).0 (get_or files j d).0 ≡ Less
rises (e ∷ files) h (suc i) (suc j) d lt in_range = rises files (and_parts _ _ h).1 i j d (omega arith) (omega arith)
rises files h i j d lt in_range = grind (arith, below, and_parts)

-- if a name is less than another, the other is greater
pub inverted : (a b : List ℕ) → name_cmp a b ≡ Less → name_cmp b a ≡ Greater
inverted a b h = nat_list_cmp_total.antisymm b a ∙ ap ordering_reverse h

pub reversed_back : (a b : List ℕ) → name_cmp a b ≡ Greater → name_cmp b a ≡ Less
reversed_back a b h = nat_list_cmp_total.antisymm b a ∙ ap ordering_reverse h

-- the comparisons with a name increase along the files, as a binary search requires
comparisons_rise : (files : List File) → IsSortedByName files → (name : List ℕ) → IsNonDecreasingBy (λ file. ordering_index (name_cmp file.0 name)) files
comparisons_rise files sorted name =
    searchable_from_sorted nat_list_cmp_total (λ (file : File). file.0) files name
    (λ k d _ lt. ap is_lt (inverted (get_or files k d).0 (get_or files (k + 1) d).0 (rises files sorted k (k + 1) d (omega arith) lt)))

rest_sorted : (e : File) (files : List File) → IsSortedByName (e ∷ files) → IsSortedByName files
rest_sorted e files h = (and_parts _ _ h).1

-- a name that a later file has is greater than the first one
first_less : (e : File) (files : List File) (name : List ℕ) (at : ℕ) → IsSortedByName (e ∷ files) → IsFileAt files name at → name_cmp name e.0 ≡ Greater
first_less e files name at h here = inverted e.0 name (subst (λ n. name_cmp e.0 n ≡ Less) here.has_name (below e.0 files at ([], []) (and_parts _ _ h).0 here.in_range))

itself : (a b : List ℕ) → a ≡ b → name_cmp b a ≡ Equal
itself a b e = subst (λ n. name_cmp n a ≡ Equal) e (tied_itself nat_list_cmp_total a)

-- ---- what is found

pub find_at : (files : List File) → IsSortedByName files → (name : List ℕ) (at : ℕ) → IsFileAt files name at → find name_cmp name files ≡ Some (file_at files at).1
find_at (e ∷ files) h name (suc at) here =
    let inside = tail_at e files name at here in
    grind (arith, first_less e files name at h inside, find_at files (rest_sorted e files h) name at inside)
find_at files h name at here = grind (arith, itself)

apart : (a b : List ℕ) (o : Ordering) → name_cmp a b ≡ o → is_eq o ≡ false → is_eq (name_cmp b a) ≡ false
apart a b o e h = grind (arith, inverted, reversed_back)

first_apart : (e : File) (files : List File) (name : List ℕ) (at : ℕ) → IsGapFor (e ∷ files) name at → is_eq (name_cmp name e.0) ≡ false
first_apart e files name zero gap = apart e.0 name Greater (gap.greater_after 0 (omega arith) (omega arith)) refl
first_apart e files name (suc at) gap = apart e.0 name Less (gap.smaller_before 0 (omega arith)) refl

pub find_in_gap : (files : List File) (name : List ℕ) (at : ℕ) → IsGapFor files name at → find name_cmp name files ≡ None
find_in_gap [] name at gap = refl
find_in_gap (e ∷ files) name at gap = grind (arith, first_apart e files name at gap, find_in_gap files name (at - 1) (tail_gap e files name at (at - 1) gap refl))

-- ---- what an edit does

put_in_gap : (files : List File) (name bytes : List ℕ) (at : ℕ) → IsGapFor files name at → put name_cmp name bytes files ≡ insert files at (name, bytes)
put_in_gap (e ∷ files) name bytes (suc at) gap = grind (arith, inverted e.0 name (gap.smaller_before 0 (omega arith)), put_in_gap files name bytes at (tail_gap e files name (suc at) at gap (omega arith)))
put_in_gap files name bytes at gap = grind (arith, reversed_back, gap.greater_after 0, gap.in_range)

put_at : (files : List File) → IsSortedByName files → (name bytes : List ℕ) (at : ℕ) → IsFileAt files name at → put name_cmp name bytes files ≡ set files at (name, bytes)
put_at (e ∷ files) h name bytes (suc at) here =
    let inside = tail_at e files name at here in
    grind (arith, first_less e files name at h inside, put_at files (rest_sorted e files h) name bytes at inside)
put_at files h name bytes at here = grind (arith, itself)

abbrev other : List ℕ → List ℕ → Bool
other name n = not (eq_by_cmp name_cmp name n)

all_others : (files : List File) (name : List ℕ) → IsTrue (map_of.Entries.below_all name_cmp name files) → where_key name_cmp (other name) files ≡ files
all_others [] name h = refl
all_others (e ∷ files) name h =
    let below : IsTrue (is_lt (name_cmp name e.0)) × IsTrue (map_of.Entries.below_all name_cmp name files) = and_parts _ _ h in
    grind (arith, less, below.0, all_others files name below.1)

others_at : (files : List File) → IsSortedByName files → (name : List ℕ) (at : ℕ) → IsFileAt files name at → where_key name_cmp (other name) files ≡ remove files at
others_at (e ∷ files) h name (suc at) here =
    let inside = tail_at e files name at here in
    grind (arith, first_less e files name at h inside, others_at files (rest_sorted e files h) name at inside)
others_at files h name at here = grind (arith, itself, and_parts, all_others)

-- ---- the same of the folder

pub files_of : (files : List File) → IsSortedByName files → entries (folder_of files) ≡ files
files_of files h = entries-from_sorted name_cmp files (by_true h)

pub count_of : (files : List File) → IsSortedByName files → length files ≡ length (names (folder_of files))
count_of files h = sym (length-map (entries (folder_of files)) (λ (file : File). file.0) ∙ ap length (files_of files h))

pub is_folder : (files : List File) → AreFolderFiles files → IsFolder (folder_of files)
is_folder files h = subst (AllByRecursion IsFile) (sym (files_of files h.sorted)) (recursion_from_All IsFile files h.each)

-- these are the files of the folder with these entries
made_of : (files : List File) (folder : Folder) → entries folder ≡ files → All IsFile files → AreFilesOf files folder
made_of files folder e each =
    let sorted = subst (λ l. T (is_sorted name_cmp l)) e (entries_sorted folder) in
    record { kept = record { sorted = is_true sorted; each = each }; folder = same_entries_map _ _ (entries-from_sorted name_cmp files sorted ∙ sym e) }

pub bytes_at : (files : List File) → AreFolderFiles files → (name : List ℕ) (at : ℕ) → IsFileAt files name at → map_of.get (folder_of files) name ≡ Some (file_at files at).1
bytes_at files h name at here = get-from_sorted name_cmp files name (by_true h.sorted) ∙ find_at files h.sorted name at here

pub inserted : (files : List File) → AreFolderFiles files → (name bytes : List ℕ) (at : ℕ) → IsGapFor files name at → IsFile (name, bytes) → AreFilesOf (insert files at (name, bytes)) (map_of.insert (folder_of files) name bytes)
inserted files h name bytes at gap is =
    made_of _ _ (entries-insert nat_list_cmp_total (folder_of files) name bytes ∙ ap (put name_cmp name bytes) (files_of files h.sorted) ∙ put_in_gap files name bytes at gap)
    (All-append IsFile _ _ (All-take IsFile at files h.each) (All-cons IsFile (name, bytes) _ is (All-drop IsFile at files h.each)))

pub exchanged : (files : List File) → AreFolderFiles files → (name bytes : List ℕ) (at : ℕ) → IsFileAt files name at → IsFile (name, bytes) → AreFilesOf (set files at (name, bytes)) (map_of.insert (folder_of files) name bytes)
exchanged files h name bytes at here is =
    made_of _ _ (entries-insert nat_list_cmp_total (folder_of files) name bytes ∙ ap (put name_cmp name bytes) (files_of files h.sorted) ∙ put_at files h.sorted name bytes at here)
    (All-set IsFile files at (name, bytes) is h.each)

-- a test gives the same for equal names
alike : (p : List ℕ → Bool) (q x : List ℕ) → name_cmp q x ≡ Equal → p x ≡ p q
alike p q x e = ap p (sym (same_names q x e))

kept_where : (p : List ℕ → Bool) (files : List File) → IsSortedByName files → entries (map_of.retain_keys (folder_of files) p) ≡ where_key name_cmp p files
kept_where p files h =
    let sorted = is_sorted-where_key name_cmp p files (by_true h) in
    ap entries (same_map nat_list_cmp_total same_names _ (folder_of (where_key name_cmp p files)) (λ q.
    get-retain_keys (folder_of files) p q (alike p q)
    ∙ ap (λ o. cond (p q) o None) (get-from_sorted name_cmp files q (by_true h))
    ∙ sym (find-where_key name_cmp p q (alike p q) files) ∙ sym (get-from_sorted name_cmp _ q sorted)))
    ∙ entries-from_sorted name_cmp _ sorted

removed_is : (folder : Folder) (name : List ℕ) → map_of.remove folder name ≡ map_of.retain_keys folder (other name)
removed_is folder name = same_map nat_list_cmp_total same_names _ _ (λ q. grind (
  arith,
  get-remove nat_list_cmp_total folder name q,
  get-retain_keys folder (other name) q (alike (other name) q),
  (eq_by_cmp_equiv nat_list_cmp_total).symm name q,
))

pub removed : (files : List File) → AreFolderFiles files → (name : List ℕ) (at : ℕ) → IsFileAt files name at → AreFilesOf (remove files at) (map_of.remove (folder_of files) name)
removed files h name at here =
    made_of _ _ (ap entries (removed_is (folder_of files) name) ∙ kept_where (other name) files h.sorted ∙ others_at files h.sorted name at here)
    (All-append IsFile _ _ (All-take IsFile at files h.each) (All-drop IsFile (suc at) files h.each))

-- a binary search returns the position of the file, or where it would be inserted, and so what the folder has there
pub searched_folder : (files : List File) → AreFolderFiles files → (name : List ℕ) (r : Result ℕ ℕ) → IsSearchInRange r (length files) → IsBinarySearchResult (λ file. name_cmp file.0 name) files r
    → IsSearched files name r
searched_folder files h name (Ok at) in_range equal = grind (arith, same_names, bytes_at)
searched_folder files h name (Err at) in_range parted =
    let places = parted (comparisons_rise files h.sorted name) in
    let gap : IsGapFor files name at = record { in_range = in_range; smaller_before = λ j lt. places.0 j ([], []) (omega arith) lt; greater_after = λ j le lt. places.1 j ([], []) le lt } in
    record { found = tt; absent = gap; there = tt; not_there = get-from_sorted name_cmp files name (by_true h.sorted) ∙ find_in_gap files name at gap }

pub no_files : folder_of [] ≡ map_of.empty
no_files = same_map nat_list_cmp_total same_names _ _ (λ q. get-from_sorted name_cmp [] q tt ∙ sym (get-empty name_cmp q))

pub stays_absent : (folder : Folder) (gone name : List ℕ) → map_of.get folder name ≡ None → map_of.get (map_of.remove folder gone) name ≡ None
stays_absent folder gone name none = grind (arith, get-remove nat_list_cmp_total folder gone name)

-- what the methods of a folder are proved by
pub ruleset folder_laws = (no_files, count_of, is_folder, stays_absent)

-- ---- a folder that is filled file by file, in the order of another folder's names

pub begins_empty : (whole : Folder) → entries (map_of.empty {X = List ℕ} {R = name_cmp}) ≡ take 0 (entries whole)
begins_empty whole = ap entries (sym no_files) ∙ files_of [] refl

-- the next file of the other folder
pub record IsNext (whole folder : Folder) (i : ℕ) (name bytes : List ℕ) : Type 0 where
  pub is_new : has folder name ≡ false
  pub files : entries (map_of.insert folder name bytes) ≡ take (i + 1) (entries whole)

listed_at : (whole : Folder) (i : ℕ) (name d : List ℕ) → i < length (names whole) → name ≡ get_or (names whole) i d → IsFileAt (entries whole) name i
listed_at whole i name d lt is = grind (arith, entries, length-map, get_or_default, get_or-map)

listed_is_there : (whole : Folder) (i : ℕ) (name d : List ℕ) → i < length (names whole) → name ≡ get_or (names whole) i d → IsTrue (has whole name)
listed_is_there whole i name d lt is =
    let all = entries whole in
    ap is_some (map_of.get-entries whole name ∙ find_at all (is_true (entries_sorted whole)) name i (listed_at whole i name d lt is))

-- a listed name is that of a file, as long as the folder doesn't change
pub still_there : (whole folder : Folder) (list : List (List ℕ)) (i : ℕ) (name : List ℕ) → folder ≡ whole → list ≡ names whole → i < length list → name ≡ get_or list i name → IsTrue (has folder name)
still_there whole folder list i name same listed lt is = grind (arith, listed_is_there)

pub next_file : (whole folder : Folder) (i : ℕ) (name bytes d : List ℕ) → entries folder ≡ take i (entries whole) → i < length (names whole) → name ≡ get_or (names whole) i d → map_of.get whole name ≡ Some bytes → IsNext whole folder i name bytes
next_file whole folder i name bytes d so_far lt is found =
    let all = entries whole in
    let sorted : IsSortedByName all = is_true (entries_sorted whole) in
    let here : IsFileAt all name i = listed_at whole i name d lt is in
    let in_range = here.in_range in
    let named = here.has_name in
    let its_bytes : bytes ≡ (file_at all i).1 = let same = sym found ∙ map_of.get-entries whole name ∙ find_at all sorted name i here in cc in
    let so_many : length (take i all) ≡ i = length-take-le i all (omega arith) in
    let gap : IsGapFor (take i all) name i = record {
      in_range = omega arith;
      smaller_before = λ j before. rw (get_or-take i all j ([], []) before) (subst (λ n. name_cmp (file_at all j).0 n ≡ Less) named (rises all sorted j i ([], []) before in_range));
      greater_after = λ j after within. absurd (omega arith);
    } in
    record {
      is_new = ap is_some (map_of.get-entries folder name ∙ ap (find name_cmp name) so_far ∙ find_in_gap (take i all) name i gap);
      files = entries-insert nat_list_cmp_total folder name bytes ∙ ap (put name_cmp name bytes) so_far ∙ put_in_gap (take i all) name bytes i gap
          ∙ ap (λ front. front ++ (name, bytes) ∷ drop i (take i all)) (take_all i (take i all) (omega arith))
          ∙ ap (λ rest. take i all ++ (name, bytes) ∷ rest) (drop_all i (take i all) (omega arith))
          ∙ ap (λ (file : File). take i all ++ file ∷ []) (λ k. (sym named k, its_bytes k))
          ∙ sym (take_more all i ([], []) in_range);
    }

pub is_whole : (whole folder : Folder) (i : ℕ) → entries folder ≡ take i (entries whole) → length (names whole) ≤ i → folder ≡ whole
is_whole whole folder i so_far over = same_entries_map folder whole (so_far ∙ take_all i (entries whole) (omega (arith, length-map (entries whole) (λ (file : File). file.0))))

-- The files of a folder before a name, which changes from the name on leave as they are, and their message.

-- ---- the files before a position

-- a test that only the names before a position pass
front_only : (p : List ℕ → Bool) (files : List File) (at : ℕ) → at ≤ length files → ((j : ℕ) → j < at → p (file_at files j).0 ≡ true)
    → ((j : ℕ) → at ≤ j → j < length files → p (file_at files j).0 ≡ false) → where_key name_cmp p files ≡ take at files
front_only p (f ∷ files) zero le before after = grind (arith, after 0, front_only p files zero (omega arith) (λ j lt. absurd (omega arith)) (λ j ge lt. after (suc j) (omega arith) (omega arith)))
front_only p (f ∷ files) (suc at) le before after =
    grind (arith, before 0, front_only p files at (omega (arith, le)) (λ j lt. before (suc j) (omega arith)) (λ j ge lt. after (suc j) (omega arith) (omega arith)))
front_only p files at le before after = grind (arith)

-- a search returns the number of names before the name
pub front_at : (files : List File) → AreFolderFiles files → (name : List ℕ) (at : ℕ) → IsFileAt files name at → IsFront (is_below name) files at
front_at files kept name at here = grind (arith, rises, cases_lt, inverted)

-- the files that pass a test are those before a position
pub front_entries : (test : List ℕ → Bool) (files : List File) → AreFolderFiles files → (count : ℕ) → IsFront test files count
    → entries (map_of.retain_keys (folder_of files) test) ≡ take count files
front_entries test files kept count front = grind (arith, kept_where, front_only)

-- if more names pass a test, its front is longer
pub front_further : (test wider : List ℕ → Bool) (files : List File) (a b : ℕ) → IsFront test files a → IsFront wider files b
    → ((name : List ℕ) → test name ≡ true → wider name ≡ true) → a ≤ b
front_further test wider files a b front longer further = grind (arith, cases_lt)

-- ---- changes

flipped : (a b : List ℕ) → is_lt (name_cmp b a) ≡ is_gt (name_cmp a b)
flipped a b = grind (arith, nat_list_cmp_total.antisymm b a)

-- "not less than" is transitive
pub not_before : (name a b : List ℕ) → is_below a b ≡ false → is_below name a ≡ false → is_below name b ≡ false
not_before name a b h k = flipped name b ∙ upto nat_list_cmp_total name a b (sym (flipped name a) ∙ k) (sym (flipped a b) ∙ h)

-- a split that isn't after a name is not further than the one at the name
pub further : (split : Split) (name : Bor (List ℕ)) → is_before split name.now ≡ false → IsFurther split (At name)
further Beginning name h = λ other before. absurd (false≢true before)
further (At next) name h = λ other before. grind (arith, not_before, false≢true)
further End name h = absurd (false≢true (sym h))

not_after : (a b : List ℕ) (r : Ordering) → name_cmp b a ≡ r → is_lt r ≡ true → is_below b a ≡ false
not_after a b r e h = grind (arith, inverted)

both_from : (name a b : List ℕ) → is_below name (ord_min name_cmp a b) ≡ false → (is_below name a ≡ false) × (is_below name b ≡ false)
both_from name a b = grind (arith, not_before, not_after)

get_below : (name : List ℕ) (folder : Folder) (q : List ℕ) → map_of.get (map_of.retain_keys folder (is_below name)) q ≡ cond (is_below name q) (map_of.get folder q) None
get_below name folder q = get-retain_keys folder (is_below name) q (alike (is_below name) q)

equal : (o : Ordering) → is_eq o ≡ true → o ≡ Equal
equal o h = grind arith

tied : (q n : List ℕ) → eq_by_cmp name_cmp q n ≡ true → q ≡ n
tied q n e = same_names q n (equal _ e)

module _ (name n : List ℕ) (folder : Folder) (h : is_below name n ≡ false) where
  put_from : (bytes : List ℕ) → map_of.retain_keys (map_of.insert folder n bytes) (is_below name) ≡ map_of.retain_keys folder (is_below name)
  put_from bytes = same_map nat_list_cmp_total same_names _ _ (λ q. grind (arith, get_below, get-insert nat_list_cmp_total folder n bytes q, tied q n))

  gone_from : map_of.retain_keys (map_of.remove folder n) (is_below name) ≡ map_of.retain_keys folder (is_below name)
  gone_from = same_map nat_list_cmp_total same_names _ _ (λ q. grind (arith, get_below, get-remove nat_list_cmp_total folder n q, tied q n))

-- a change from the name on leaves the files before it
pub effect_below : (name : List ℕ) (folder : Folder) (change : Change) → is_below name (first_name change) ≡ false → map_of.retain_keys (effect folder change) (is_below name) ≡ map_of.retain_keys folder (is_below name)
unfolding effect
effect_below name folder (Write n bytes) h = put_from name n folder h bytes
effect_below name folder (Replace n bytes) h = put_from name n folder h bytes
effect_below name folder (Rename from to) h =
    let both = both_from name from to h in
    put_from name to (map_of.remove folder from) both.1 (bytes_of folder from) ∙ gone_from name from folder both.0
effect_below name folder (Remove n) h = gone_from name n folder h

-- The files between two splits, and the files before a split that changes leave as they are.

-- ---- splits in order

-- a name that is before a name is before a later one
pub later : (before next name : List ℕ) → is_lt (name_cmp before next) ≡ true → is_below before name ≡ true → is_below next name ≡ true
later before next name rise h = ap is_lt (nat_list_cmp_total.trans name before next (less _ h) (less _ rise))

pub none_before : (files : List File) → IsFront (is_before Beginning) files 0
none_before files = record { within = omega arith; before = λ j lt. absurd (omega arith); behind = λ j le lt. refl }

-- ---- the files between two splits

pub taken_on : {A : Type 0} (xs : List A) (from to : ℕ) → from ≤ to → take from xs ++ take (to - from) (drop from xs) ≡ take to xs
taken_on xs from to le =
    let whole : from + (to - from) ≡ to = omega (arith, le) in
    grind (arith, whole, drop-take from (to - from) xs, take-take from to xs le, take-append-drop from (take to xs))

module _ (items : List (Bor (List ℕ) × Bor (List ℕ))) (kept : AreFolderFiles (map file_of items)) (from to : Split) (start end : ℕ) where
  pub between : (parts : List ℕ) → IsFront (is_before from) (map file_of items) start → IsFront (is_before to) (map file_of items) end → start ≤ end
      → parts ≡ fingerprint_input (map file_of (take (end - start) (drop start items)))
      → bytes_before from (folder_of (map file_of items)) ++ parts ≡ bytes_before to (folder_of (map file_of items))
  between parts front longer le is =
      let files = map file_of items in
      (λ i. fingerprint_input (front_entries (is_before from) files kept start front i) ++ is i)
      ∙ ap (λ l. fingerprint_input (take start files) ++ fingerprint_input l) (sym (take-map file_of (end - start) (drop start items)) ∙ ap (take (end - start)) (sym (drop-map file_of start items)))
      ∙ sym (flat_map-append (λ (file : File). behind_length file.0 ++ behind_length file.1) (take start files) (take (end - start) (drop start files)))
      ∙ ap fingerprint_input (taken_on files start end le ∙ sym (front_entries (is_before to) files kept end longer))

-- ---- changes

same_none : (folder other : Folder) → map_of.retain_keys folder (is_before Beginning) ≡ map_of.retain_keys other (is_before Beginning)
same_none folder other =
    same_map nat_list_cmp_total same_names _ _ (λ q. get-retain_keys folder (is_before Beginning) q (λ x e. refl) ∙ sym (get-retain_keys other (is_before Beginning) q (λ x e. refl)))

-- a change that touches no name before the split leaves the message up to it
pub bytes_on : (split : Split) (folder : Folder) (change : defined.Change) → touches split change ≡ false
    → bytes_before split (effect folder change) ≡ bytes_before split folder
bytes_on Beginning folder change h = ap (λ f. fingerprint_input (entries f)) (same_none (effect folder change) folder)
bytes_on (At name) folder change h = ap (λ f. fingerprint_input (entries f)) (effect_below name.now folder change h)
bytes_on End folder change h = cc

-- the whole folder is before the end
pub whole_bytes : (folder : Folder) → bytes_before End folder ≡ fingerprint_input (entries folder)
whole_bytes folder = ap (λ f. fingerprint_input (entries f)) (same_map nat_list_cmp_total same_names _ _ (λ q. get-retain_keys folder (is_before End) q (λ x e. refl)))

nothing_kept : AreFolderFiles []
nothing_kept = record { sorted = refl; each = λ i none lt. absurd (omega (arith, lt)) }

pub no_bytes : (folder : Folder) → bytes_before Beginning folder ≡ []
no_bytes folder =
    ap (λ f. fingerprint_input (entries f)) (same_none folder (folder_of []))
    ∙ ap fingerprint_input (front_entries (is_before Beginning) [] nothing_kept 0 (none_before []))

-- A snapshot's files, through searches and edits.

-- ---- lists seen through a function

map-insert : {A B : Type 0} (v : A → B) (xs : List A) (i : ℕ) (x : A) → map v (insert xs i x) ≡ insert (map v xs) i (v x)
map-insert v xs i x = grind (arith, map-append, take-map, drop-map)

map-remove : {A B : Type 0} (v : A → B) (xs : List A) (i : ℕ) → map v (remove xs i) ≡ remove (map v xs) i
map-remove v xs i = grind (arith, map-append, take-map, drop-map)

-- an item whose view is in the list of the views
some_item : {A B : Type 0} (v : A → B) (xs : List A) (i : ℕ) (d : B) → i < length xs → (x : A) × (v (get_or xs i x) ≡ get_or (map v xs) i d)
some_item v [] i d lt = absurd (omega (arith, lt))
some_item v (x ∷ xs) i d lt = (x, sym (get_or-map v (x ∷ xs) i x d lt))

-- a search through a view of the items is one of the list of the views
searched_through : {A B : Type 0} (v : A → B) (order : B → Ordering) (xs : List A) (r : Result ℕ ℕ) → IsSearchInRange r (length xs)
    → IsBinarySearchResult (λ x. order (v x)) xs r → IsBinarySearchResult order (map v xs) r
searched_through v order xs (Ok at) in_range found =
    λ d. let item = some_item v xs at d in_range in ap order (sym item.1) ∙ found item.0
searched_through v order xs (Err at) in_range found =
    λ rise.
    let parted = found (λ i j d le lt.
    let last = get_or-map v xs j d (v d) lt in
    let front = get_or-map v xs i d (v d) (omega (arith, le, lt)) in
    let risen = rise i j (v d) le (omega (arith, lt, length-map xs v)) in
    rw (← front, ← last) risen) in (
      λ k d low lt. let item = some_item v xs k d (omega (arith, lt, in_range)) in ap order (sym item.1) ∙ parted.0 k item.0 low lt,
      λ k d low lt. let within : k < length xs = omega (arith, lt, length-map xs v) in let item = some_item v xs k d within in ap order (sym item.1) ∙ parted.1 k item.0 low within,
    )

-- ---- a snapshot's files

module _ (items : List (Bor (List ℕ) × Bor (List ℕ))) (kept : AreFolderFiles (map file_of items)) (name : List ℕ) where
  pub searched_files : (r : Result ℕ ℕ) → IsSearchInRange r (length items) → IsBinarySearchResult (λ item. name_cmp (file_of item).0 name) items r
      → IsSearched (map file_of items) name r
  searched_files r in_range found =
      searched_folder (map file_of items) kept name r (rw length-map in_range) (searched_through file_of (λ (file : File). name_cmp file.0 name) items r in_range found)

  pub put_borrowed_in_gap : (bytes : List ℕ) (file : Bor (List ℕ) × Bor (List ℕ)) (at : ℕ) → file_of file ≡ (name, bytes) → IsGapFor (map file_of items) name at → IsFile (name, bytes)
      → AreFilesOf (map file_of (insert items at file)) (map_of.insert (folder_of (map file_of items)) name bytes)
  put_borrowed_in_gap bytes file at same gap is = search (arith, map-insert, same, inserted)

  pub put_borrowed_at : (bytes : List ℕ) (file : Bor (List ℕ) × Bor (List ℕ)) (at : ℕ) → file_of file ≡ (name, bytes) → IsFileAt (map file_of items) name at → IsFile (name, bytes)
      → AreFilesOf (map file_of (set items at file)) (map_of.insert (folder_of (map file_of items)) name bytes)
  put_borrowed_at bytes file at same here is = search (arith, map-set, same, exchanged)

  pub taken_from : (at : ℕ) → IsFileAt (map file_of items) name at → AreFilesOf (map file_of (remove items at)) (map_of.remove (folder_of (map file_of items)) name)
  taken_from at here = search (arith, map-remove, removed)

  pub bytes_taken : (at : ℕ) (file : Bor (List ℕ) × Bor (List ℕ)) → IsFileAt (map file_of items) name at → file ≡ get_or items at file → file.1.now ≡ bytes_of (folder_of (map file_of items)) name
  bytes_taken at file here is = grind (arith, length-map, get_or-map, bytes_at)

-- no file has a name that a search doesn't find
pub not_absent : (folder : Folder) (name : List ℕ) → IsTrue (has folder name) → map_of.get folder name ≡ None → ⊥
not_absent folder name there none = let missing : has folder name ≡ false = ap is_some none in cc
