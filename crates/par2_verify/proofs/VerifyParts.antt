-- What is read and found before a verify reports: names, matches, and the set with the extras.
use Rattle.par2_verify.proofs.Common.{◌≡◌, subst, ℕ, List, [], ◌∷◌, ◌++◌, length, map, refl, sym, ap, ap₂, ◌∙◌, Bool, true, false, not, cond, ◌&&◌, ◌||◌, ◌+◌, arith, ◌==◌, Option, filter, None, Some, AllByRecursion, list_any, bytes_eq, matches, incomplete_names, is_among, map-map, Folder, bytes_of, has, ParSet, Target, set_of, Fault, all-filter, BTreeSet, slice_cmp, nat_cmp, option_map, among-filter, Err, Verify, set_in, early_refusal, append-nil, bytes_eq-Decides, filter-append, distinct, same_either_way, AreDistinct, distinct-filter, position_from, NoSuchFile, absent_file, missing, position_from-zero, at_none, never_found, ◌<◌, all_below_are, found_one, length-map, zip, slice_get, IsDistinct, range_with_len, incomplete, intact_names, distinct_from_std, std_from_distinct, listed_at, first_intact, without_number, matched_from, matched_numbers, NumbersAreNames, option_and_then, slice_get-get_or, and-false, HoldsOwned, matches_of_incomplete, IsFromIterResult, eq_by_cmp, is_eq-slice_cmp, all_below}

-- Names that come once.

-- one more name is added if it is new
pub distinct_more : (xs : List (List ℕ)) (x : List ℕ) → distinct (xs ++ x ∷ []) ≡ cond (is_among xs x) (distinct xs) (distinct xs ++ x ∷ [])
distinct_more [] x = refl
distinct_more (y ∷ xs) x = grind (arith, same_either_way y x, distinct_more xs x, filter-append (λ z. not (bytes_eq y z)) (distinct xs) (x ∷ []), append-nil (filter (λ z. not (bytes_eq y z)) (distinct xs)))

out_of_filter : (x : List ℕ) (xs : List (List ℕ)) → is_among (filter (λ z. not (bytes_eq x z)) xs) x ≡ false
out_of_filter x xs = among-filter (λ z. not (bytes_eq x z)) xs x ∙ ap (λ b. is_among xs x && not b) ((bytes_eq-Decides x x).1 refl) ∙ and-false (is_among xs x)

-- each name is there once
pub distinct_once : (xs : List (List ℕ)) → AreDistinct (distinct xs)
distinct_once [] = tt
distinct_once (x ∷ xs) = (out_of_filter x (distinct xs), distinct-filter (λ z. not (bytes_eq x z)) (distinct xs) (distinct_once xs))

-- The base and the extras that are in the folder.

-- ---- the first word that is absent

later_place : {X : Type 0} (test : X → Bool) (i j : ℕ) (xs : List X) → position_from test (i + j) xs ≡ option_map (λ k. i + k) (position_from test j xs)
later_place test i j [] = refl
later_place test i j (x ∷ xs) = grind (arith, later_place test i (j + 1) xs)

missing_behind : (folder : Folder) (base : List ℕ) (extras : List (List ℕ)) → has folder base ≡ true → missing folder (base ∷ extras) ≡ option_map (λ k. 1 + k) (missing folder extras)
missing_behind folder base extras there =
    let test = λ (word : List ℕ). not (has folder word) in
    position_from-zero test (base ∷ extras)
    ∙ ap (λ b. cond (not b) (Some 0) (position_from test 1 extras)) there
    ∙ later_place test 1 0 extras
    ∙ ap (option_map (λ k. 1 + k)) (sym (position_from-zero test extras))

module _ (folder : Folder) (base : List ℕ) (extras : List (List ℕ)) where
  pub base_first : has folder base ≡ false → absent_file folder base extras ≡ Some (NoSuchFile 0)
  base_first gone =
      let test = λ (word : List ℕ). not (has folder word) in
      ap (option_map (λ k. NoSuchFile (0 + k))) (position_from-zero test (base ∷ extras) ∙ ap (λ b. cond (not b) (Some 0) (position_from test 1 extras)) gone)

  module _ (there : has folder base ≡ true) where
    pub extra_first : (k : ℕ) → missing folder extras ≡ Some k → absent_file folder base extras ≡ Some (NoSuchFile (k + 1))
    extra_first k e =
        ap (option_map (λ k. NoSuchFile (0 + k))) (missing_behind folder base extras there ∙ ap (option_map (λ k. 1 + k)) e)
        ∙ ap (λ n. Some (NoSuchFile n)) (let n : 0 + (1 + k) ≡ k + 1 = omega arith in n)

    pub none_absent : missing folder extras ≡ None → absent_file folder base extras ≡ None
    none_absent e = ap (option_map (λ k. NoSuchFile (0 + k))) (missing_behind folder base extras there ∙ ap (option_map (λ k. 1 + k)) e)

  -- an absent file is why no set is read
  pub unread : (fault : Fault) → absent_file folder base extras ≡ Some fault → set_in folder base extras ≡ Err fault
  unread fault e = unfold set_in in rw e refl

  -- if no file is absent, the set is that of the base
  pub all_present : absent_file folder base extras ≡ None → set_in folder base extras ≡ set_of folder base
  all_present e = unfold set_in in rw e refl

  pub is_early : early_refusal folder (Verify base extras) ≡ absent_file folder base extras
  unfolding early_refusal
  is_early = refl

  pub not_early : absent_file folder base extras ≡ None → (fault : Fault) → early_refusal folder (Verify base extras) ≡ Some fault → ⊥
  not_early none fault early = never_found _ fault none (sym is_early ∙ early)

-- if no file is absent, each extra word is a file's name
pub all_there : (folder : Folder) (base : List ℕ) (words : List (List ℕ)) → absent_file folder base words ≡ None → filter (has folder) words ≡ words
all_there folder base words e = kept words (at_none 0 NoSuchFile (λ word. not (has folder word)) (base ∷ words) e).1
  where
    kept : (words : List (List ℕ)) → AllByRecursion (λ word. not (has folder word) ≡ false) words → filter (has folder) words ≡ words
    kept [] h = refl
    kept (word ∷ words) h = let there = h.0 in grind (arith, kept words h.1)

-- The matches of incomplete targets, by numbers and by names.

-- ---- numbers are indices

left_hold : (P : ℕ → Type 0) (o : Option ℕ) (free : List ℕ) → AllByRecursion P free → AllByRecursion P (without_number o free)
left_hold P None free h = h
left_hold P (Some taken) free h = all-filter P (λ i. not (i == taken)) free h

-- each number has a name
named : (names : List (List ℕ)) (s : ℕ) (buffers : List (List ℕ)) (ts : List Target) (free : List ℕ) → AllByRecursion (λ i. i < length names) free
    → map (option_and_then (slice_get names)) (matched_from s buffers free ts) ≡ map (option_map (listed_at names)) (matched_from s buffers free ts)
named names s buffers [] free h = refl
named names s buffers (t ∷ ts) free h =
    ap₂ (λ (name : Option (List ℕ)) (found : List (Option (List ℕ))). name ∷ found) (one (first_intact s buffers t free) (λ i e. (found_one (λ i. i < length names) _ free h i e).0))
    (named names s buffers ts (without_number (first_intact s buffers t free) free) (left_hold (λ i. i < length names) (first_intact s buffers t free) free h))
  where
    one : (o : Option ℕ) → ((i : ℕ) → o ≡ Some i → i < length names) → option_and_then (slice_get names) o ≡ option_map (listed_at names) o
    one None h = refl
    one (Some i) h = slice_get-get_or names i [] (h i refl)

-- ---- the matches of a set

module _ (folder : Folder) (set : ParSet) (searched : List (List ℕ)) where
  -- the candidates that aren't names of intact targets
  abbrev pub free_by : List (List ℕ)
  free_by = filter (λ name. not (is_among (intact_names folder set) name)) searched

  pub matches_by_numbers : IsDistinct bytes_eq searched → NumbersAreNames folder set.slice_size free_by (incomplete folder set)
      → zip (incomplete folder set) (map (option_and_then (slice_get free_by)) (matched_numbers set.slice_size (map (bytes_of folder) free_by) (incomplete folder set))) ≡ matches folder set searched
  unfolding matches all_below
  matches_by_numbers once law =
      let buffers : List (List ℕ) = map (bytes_of folder) free_by in
      let low : AllByRecursion (λ i. i < length free_by) (range_with_len 0 (length buffers)) = subst (λ n. AllByRecursion (λ i. i < n) (range_with_len 0 (length buffers))) (length-map free_by (bytes_of folder)) (all_below_are (length buffers)) in
      ap (λ found. zip (incomplete folder set) found)
      (named free_by set.slice_size buffers (incomplete folder set) (range_with_len 0 (length buffers)) low
      ∙ law (std_from_distinct free_by (distinct-filter _ searched (distinct_from_std searched once))))

  pub names_in_pairs : incomplete_names folder set ≡ map (λ m. m.0.name) (matches folder set searched)
  names_in_pairs =
      ap (map (λ (t : Target). t.name)) (sym (matches_of_incomplete folder set searched))
      ∙ map-map (λ (t : Target). t.name) (λ (m : Target × Option (List ℕ)). m.0) (matches folder set searched)

-- Trees that are made of lists.

pub member_among : (names : List (List ℕ)) (q : List ℕ) → list_any (eq_by_cmp (slice_cmp nat_cmp) q) names ≡ is_among names q
member_among [] q = refl
member_among (name ∷ names) q = ap₂ (λ a b. a || b) (is_eq-slice_cmp q name) (member_among names q)

pub holds : (names : List (List ℕ)) (tree : BTreeSet (List ℕ)) → IsFromIterResult (slice_cmp nat_cmp) names tree → HoldsOwned tree names
holds names tree is name = is.0 name ∙ member_among names name
