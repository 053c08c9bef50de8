-- Lists of distinct names.
use Rattle.par2_sets.proofs.Common.{◌≡◌, ℕ, suc, ◌==◌, Bool, true, false, ◌||◌, cond, List, [], ◌∷◌, length, map, refl, ap, ap₂, ◌∙◌, eq-eqb, IsDistinct, distinct_count, is_member, bytes_eq, nat_list_eq_equiv, eqb-true, distinct, distinct_from_std, distinct_same, std_from_distinct, distinct_by_length, IsDistinct-from_count, distinct_count-from_IsDistinct, ◌+◌, ◌-◌, ◌^◌, ◌<◌, ◌≤◌, ◌++◌, take, sym, not, arith, inl, inr, IsTrue, Ok, Err, Result, find, IfErr, IsOk, nat_lt, unwrap_or, AllByRecursion, list_all, range_with_len, and_from, cases_lt, false_from_ne_true, false≢true, leb-true, lt-ltb, ltb-true, map_more, NameTooLong, Folder, File, IsFolder, files, names, is_among, is_name, numbered, taken_for, aside, IsSound, target_names, ParSet, name_is_short, where_none, long_aside, get_or, Some, None, fault_where}
use Rattle.std.specs.Bool.{Decides}
use Rattle.std.proofs.lemmas.Bool.Decides.{same_from_decides}
use Rattle.std.proofs.lemmas.List.Folds.{list_all-append, list_any_more}
use Rattle.par2_spec.proofs.AsideNames.{numbered_is_name}

-- ---- keys that are compared by their names

module _ {K : Type 0} (same : K → K → Bool) (name : K → List ℕ) (by_name : (a b : K) → same a b ≡ bytes_eq (name a) (name b)) where
  is_member-map : (ks : List K) (q : K) → is_member same ks q ≡ is_member bytes_eq (map name ks) (name q)
  is_member-map [] q = refl
  is_member-map (k ∷ ks) q = ap₂ (λ a b. a || b) (by_name q k) (is_member-map ks q)

  pub distinct_count-map : (ks : List K) → distinct_count same ks ≡ distinct_count bytes_eq (map name ks)
  distinct_count-map [] = refl
  distinct_count-map (k ∷ ks) = grind (arith, distinct_count-map ks, is_member-map ks k)

-- ---- distinct names

by_count : (xs : List (List ℕ)) → Decides (distinct_count bytes_eq xs == length xs) (IsDistinct bytes_eq xs)
by_count xs = (λ h. IsDistinct-from_count nat_list_eq_equiv xs (eqb-true _ _ h), λ d. eq-eqb _ _ (distinct_count-from_IsDistinct nat_list_eq_equiv xs d))

by_distinct : (xs : List (List ℕ)) → Decides (length (distinct xs) == length xs) (IsDistinct bytes_eq xs)
by_distinct xs = (λ h. std_from_distinct xs (distinct_by_length xs (eqb-true _ _ h)), λ d. eq-eqb _ _ (ap length (distinct_same xs (distinct_from_std xs d))))

-- there are as many keys as names if and only if the names are distinct
pub counted : (xs : List (List ℕ)) → (distinct_count bytes_eq xs == length xs) ≡ (length (distinct xs) == length xs)
counted xs = same_from_decides _ _ (by_count xs) (by_distinct xs)

-- Names that are taken, and the first number that is free.

-- ---- what is taken

names_of_files : (entries : List File) → AllByRecursion (λ file. IsTrue (is_name file.0) × (length file.1 < 2 ^ 64)) entries
    → list_all is_name (map (λ file. file.0) entries) ≡ true
names_of_files [] h = refl
names_of_files (file ∷ entries) h = and_from _ _ h.0.0 (names_of_files entries h.1)

-- the names in a folder and of targets are valid
pub all_names : (folder : Folder) (set : ParSet) → IsFolder folder → IsSound set → IsTrue (list_all is_name (taken_for folder set))
all_names folder set kept sound =
    list_all-append is_name (names folder) (target_names set) ∙ and_from _ _ (names_of_files (files folder) kept) sound.are_names

-- ---- numbers

-- the name with the first free number from n up to `most`
abbrev pub first_from : List (List ℕ) → List ℕ → ℕ → ℕ → List ℕ
first_from taken name most n = unwrap_or (find (λ other. not (is_among taken other)) (map (numbered name) (range_with_len n (most + 1 - n)))) []

-- an aside has the first free number from 1 on
pub from_one : (folder : Folder) (set : ParSet) (name : List ℕ) (most : ℕ) → most ≡ length (taken_for folder set) + 1
    → aside folder set name ≡ first_from (taken_for folder set) name most 1
unfolding aside
from_one folder set name most h =
    ap (λ k. unwrap_or (find (λ other. not (is_among (taken_for folder set) other)) (map (numbered name) (range_with_len 1 k))) [])
    (let e : length (taken_for folder set) + 1 ≡ most + 1 - 1 = omega (arith, h) in e)

module _ (taken : List (List ℕ)) (name : List ℕ) (most n : ℕ) (low : n ≤ most) where
  one_more : (b : Bool) → is_among taken (numbered name n) ≡ b
      → first_from taken name most n ≡ unwrap_or (cond (not b) (Some (numbered name n)) (find (λ other. not (is_among taken other)) (map (numbered name) (range_with_len (n + 1) (most - n))))) []
  one_more b h =
      ap (λ k. unwrap_or (find (λ other. not (is_among taken other)) (map (numbered name) (range_with_len n k))) [])
      (let e : most + 1 - n ≡ suc (most - n) = omega (arith, low) in e)
      ∙ ap (λ t. unwrap_or (cond (not t) (Some (numbered name n)) (find (λ other. not (is_among taken other)) (map (numbered name) (range_with_len (n + 1) (most - n))))) []) h

  -- a number that is free is the first
  pub first_here : is_among taken (numbered name n) ≡ false → first_from taken name most n ≡ numbered name n
  first_here free = one_more false free

  -- a number that is taken is skipped
  pub first_later : is_among taken (numbered name n) ≡ true → first_from taken name most n ≡ first_from taken name most (n + 1)
  first_later full =
      one_more true full ∙ ap (λ k. unwrap_or (find (λ other. not (is_among taken other)) (map (numbered name) (range_with_len (n + 1) k))) [])
      (let e : most - n ≡ most + 1 - (n + 1) = omega (arith, low) in e)

-- ---- refusals

-- a name whose aside is too long
pub too_long : (folder : Folder) (set : ParSet) (name : List ℕ) → 255 < length (aside folder set name) → long_aside folder set (name ∷ []) ≡ Some NameTooLong
too_long folder set name h = ap (λ b. fault_where (b || false) NameTooLong) (lt-ltb 255 (length (aside folder set name)) h)

no_longer : (bytes : List ℕ) → IsTrue (is_name bytes) → nat_lt 255 (length bytes) ≡ false
no_longer bytes named =
    false_from_ne_true _ (λ long. let most : length bytes ≤ 255 = leb-true (length bytes) 255 (name_is_short bytes named) in absurd (omega (arith, most, ltb-true 255 (length bytes) long)))

-- bytes that are too long are no name
pub long_is_no_name : (bytes : List ℕ) → 255 < length bytes → is_name bytes ≡ false
long_is_no_name bytes h = false_from_ne_true _ (λ named. false≢true (sym (no_longer bytes named) ∙ lt-ltb 255 (length bytes) h))

-- a numbered name is invalid only if it is too long
pub long_where_err : {E : Type 0} (r : Result (List ℕ) E) (name : List ℕ) (n : ℕ) (bytes : List ℕ) → n < 2 ^ 64 → IsTrue (is_name name) → bytes ≡ numbered name n
    → (IsTrue (is_name bytes) → IsOk r) → IfErr r (λ _. 255 < length (numbered name n))
long_where_err (Ok x) name n bytes small named is h = tt
long_where_err (Err e) name n bytes small named is h = elim (cases_lt 255 (length (numbered name n))) as (λ _. 255 < length (numbered name n)) [
  | inl long ↦ long
  | inr short ↦ absurd (false≢true (h (ap is_name is ∙ numbered_is_name name n small named short)))
]

-- ---- one more name

module _ (folder : Folder) (set : ParSet) (names : List (List ℕ)) (i : ℕ) (name other : List ℕ) (low : i < length names) (is : name ≡ get_or names i name)
    (named : other ≡ aside folder set name) where
  -- its aside comes last
  pub one_more_aside : (asides : List (List ℕ)) → asides ≡ map (aside folder set) (take i names)
      → asides ++ other ∷ [] ≡ map (aside folder set) (take (i + 1) names)
  one_more_aside asides before =
      ap (λ xs. xs ++ other ∷ []) before ∙ ap (λ x. map (aside folder set) (take i names) ++ x ∷ []) (named ∙ ap (aside folder set) is)
      ∙ sym (map_more (aside folder set) names i name low)

  -- if its aside is a name, none is too long so far
  pub one_more_short : IsTrue (is_name other) → long_aside folder set (take i names) ≡ None → long_aside folder set (take (i + 1) names) ≡ None
  one_more_short good before =
      let test : List ℕ → Bool = λ x. nat_lt 255 (length (aside folder set x)) in
      let short : test (get_or names i name) ≡ false = ap test (sym is) ∙ ap (λ x. nat_lt 255 (length x)) (sym named) ∙ no_longer other good in
      ap (λ b. fault_where b NameTooLong) (list_any_more test names i name low ∙ ap (λ b. b || test (get_or names i name)) (where_none _ _ before) ∙ short)
