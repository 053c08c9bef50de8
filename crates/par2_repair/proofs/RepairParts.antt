-- The parts of a repair are those of the definitions.
use Rattle.par2_repair.proofs.Common.{◌≡◌, ◌⊎◌, inl, inr, subst, ℕ, List, [], ◌∷◌, ◌++◌, length, map, refl, sym, ap, ap₂, ◌∙◌, Bool, true, false, not, cond, ◌&&◌, ◌||◌, ◌+◌, arith, Ok, ◌==◌, Option, is_none, filter, filter_map, flat_map, None, Some, AllByRecursion, enumerate_from, list_any, bytes_eq, or_right, and_parts, not-true, false_from_ne_true, is_incomplete, matching, matches, lost, survivors, candidates, incomplete_names, known, is_par_name, is_among, Change, Rename, Remove, Pair, first_fault, fault_where, Folder, bytes_of, has, now_at, repair_changes, repair_removals, is_repairable, aside, put_aside, names_without_match, rebuilt, par_files, files_of_slices, is_par_file, rebuilt_targets, ParSet, Target, set_of, found, Fault, all-append, filter-map, all-each, all-filter, lost_of, long_aside, undetermined_fault, list_all, RepairFailed, matches_taken, writes, removed, renamed, place_in, BTreeMap, BTreeSet, contains, slice_cmp, nat_cmp, option_map, itself, among-filter, among_some, clash, repair_refusal, Err, Verify, Repair, Purge, then_fault, purge_changes, LeadsToAfter, changes_of, set_in, purge_refusal, by_set, early_refusal, refusal, AreFew, command_leads, set_in_reads, same_ok, repair_by, filter_agree, names_there, HasAsides, md5, HoldsOwned, repairable-iff, all_weaker, filter_passes, recursion_from_All, names_in_pairs}
use Rattle.par2_spec.specs.Prelude.{accepted, names as names_in}

-- the refusal if a file has another MD5 than its target describes
abbrev pub wrong_digest : List (Target × List ℕ) → Option Fault
wrong_digest targets = fault_where (not (list_all (λ c. bytes_eq (md5 c.1) c.0.md5) targets)) RepairFailed

-- if each incomplete target has a match, nothing is lost
abbrev pub IsWholeWhereMatched : Folder → ParSet → List (List ℕ) → Type 0
IsWholeWhereMatched folder set searched = names_without_match (matches folder set searched) ≡ [] → lost (known folder set searched) ≡ []

abbrev Pairs : Type 0
Pairs = List (Target × Option (List ℕ))

-- ---- files that are put aside have their asides as names

-- the name of a file once the files of these names are put aside
abbrev place_by : (List ℕ → List ℕ) → List (List ℕ) → List ℕ → List ℕ
place_by aside names name = cond (is_among names name) (aside name) name

own_places : (aside : List ℕ → List ℕ) (all : List (List ℕ)) (change : List ℕ → List ℕ → Change) (names : List (List ℕ)) → AllByRecursion (λ n. is_among all n ≡ true) names
    → map (λ n. change n (place_by aside all n)) names ≡ map (λ n. change n (aside n)) names
own_places aside all change [] h = refl
own_places aside all change (name ∷ names) h = let here = h.0 in grind (arith, here, own_places aside all change names h.1)

-- the others keep their names
old_places : (aside : List ℕ → List ℕ) (all : List (List ℕ)) (change : List ℕ → Change) (names : List (List ℕ)) → AllByRecursion (λ n. is_among all n ≡ false) names
    → map (λ n. change (place_by aside all n)) names ≡ map change names
old_places aside all change [] h = refl
old_places aside all change (name ∷ names) h = let here = h.0 in grind (arith, here, old_places aside all change names h.1)

all_own : (names more : List (List ℕ)) → ((q : List ℕ) → is_among names q ≡ true → is_among more q ≡ true) → AllByRecursion (λ n. is_among more n ≡ true) names
all_own [] more h = tt
all_own (name ∷ names) more h =
    (h name (ap (λ b. b || is_among names name) (itself name)), all_own names more (λ q k. h q (or_right (bytes_eq q name) _ k)))

-- ---- nothing is lost if each incomplete target has a match

quiet : (n : ℕ) (xs : List (Bool × Option (List ℕ))) → AllByRecursion (λ x. x.0 ≡ false) xs → filter (λ (z : ℕ × (Bool × Option (List ℕ))). z.1.0 && is_none z.1.1) (enumerate_from n xs) ≡ []
quiet n [] h = refl
quiet n ((b, slice) ∷ xs) h = let here = h.0 in grind (arith, here, quiet (n + 1) xs h.1)

all_quiet : (f : Pair → Option (List ℕ)) (ts : List Target) → AllByRecursion (λ (x : Bool × Option (List ℕ)). x.0 ≡ false) (flat_map (λ t. map (λ pair. (is_among [] t.name, f pair)) t.pairs) ts)
all_quiet f [] = tt
all_quiet f (t ∷ ts) = all-append _ (map (λ pair. (false, f pair)) t.pairs) _ (all-each (λ (x : Bool × Option (List ℕ)). x.0 ≡ false) (λ (pair : Pair). (false, f pair)) (λ pair. refl) t.pairs) (all_quiet f ts)

pub whole_where_matched : (folder : Folder) (base : List ℕ) (set : ParSet) (extras : List (List ℕ)) → set_of folder base ≡ Ok set → IsWholeWhereMatched folder set (candidates folder set extras)
whole_where_matched folder base set extras reads = λ none.
    let searched = candidates folder set extras in
    let f = found set.slice_size (map (bytes_of folder) searched) in
    let of_names = λ (names : List (List ℕ)). flat_map (λ (t : Target). map (λ (pair : Pair). (is_among names t.name, f pair)) t.pairs) set.targets in
    lost_of folder base set extras reads
    ∙ ap (λ names. map (λ (z : ℕ × (Bool × Option (List ℕ))). z.0) (filter (λ z. z.1.0 && is_none z.1.1) (enumerate_from 0 (of_names names)))) none
    ∙ ap (map (λ (z : ℕ × (Bool × Option (List ℕ))). z.0)) (quiet 0 (of_names []) (all_quiet f set.targets))

-- zero lost slices are repairable
none_to_repair : (survivors : List ℕ) → is_repairable [] survivors ≡ true
none_to_repair survivors = (repairable-iff [] survivors).1 (λ v h k. no_element v h.0)
  where
    no_element : (v : List ℕ) → length v ≡ 0 → AllByRecursion (λ x. x ≡ 0) v
    no_element [] h = tt
    no_element (x ∷ v) h = absurd (let no : ⊥ = cc in no)

none_among : (files : List (Target × List ℕ)) → filter (λ c. is_among [] c.0.name) files ≡ []
none_among [] = refl
none_among (file ∷ files) = none_among files

-- ---- a folder, a set and the names that are searched

module _ (folder : Folder) (set : ParSet) (searched : List (List ℕ)) where
  abbrev ms : Pairs
  ms = matches folder set searched

  -- ---- refusals

  by_parts : repair_refusal folder set searched ≡ first_fault (undetermined_fault folder set searched ∷ long_aside folder set (put_aside folder set) ∷ wrong_digest (rebuilt_targets folder set searched) ∷ [])
  unfolding repair_refusal
  by_parts = refl

  pub not_repairable : (fault : Fault) → undetermined_fault folder set searched ≡ Some fault → repair_refusal folder set searched ≡ Some fault
  not_repairable fault h = grind (arith, by_parts)

  module _ (reported : undetermined_fault folder set searched ≡ None) where
    pub too_long : (fault : Fault) → long_aside folder set (put_aside folder set) ≡ Some fault → repair_refusal folder set searched ≡ Some fault
    too_long fault h = grind (arith, by_parts)

    module _ (short : long_aside folder set (put_aside folder set) ≡ None) where
      pub by_digests : repair_refusal folder set searched ≡ wrong_digest (rebuilt_targets folder set searched)
      by_digests = grind (arith, by_parts)

  -- ---- slices and files

  -- the lost slices can be rebuilt, if each target has a match or its files are restored
  pub determined : IsWholeWhereMatched folder set searched → (names_without_match ms ≡ []) ⊎ (undetermined_fault folder set searched ≡ None) → undetermined_fault folder set searched ≡ None
  determined whole (inl none) =
      grind (arith, whole none, none_to_repair (survivors set))
  determined whole (inr reported) = reported

  -- without names, no file is restored
  pub none_rebuilt : names_without_match ms ≡ [] → rebuilt_targets folder set searched ≡ []
  unfolding rebuilt_targets
  none_rebuilt none =
      ap (λ names. filter (λ c. is_among names c.0.name) (files_of_slices set (rebuilt set (known folder set searched)))) none ∙ none_among (files_of_slices set (rebuilt set (known folder set searched)))

  -- files that are cut out of all slices, if their names are those of targets without a match
  pub targets_are : (test : List ℕ → Bool) (slices : List (List ℕ)) → ((name : List ℕ) → test name ≡ is_among (names_without_match ms) name) → slices ≡ rebuilt set (known folder set searched)
      → filter (λ c. test c.0.name) (files_of_slices set slices) ≡ rebuilt_targets folder set searched
  unfolding rebuilt_targets
  targets_are test slices is are =
      ap (λ all. filter (λ c. test c.0.name) (files_of_slices set all)) are ∙ filter_agree (λ (c : Target × List ℕ). test c.0.name) (λ c. is_among (names_without_match ms) c.0.name) (λ c. is c.0.name) _

  -- ---- changes

  -- a PAR2 file is no target, so it isn't put aside
  par_file_stays : (n : List ℕ) → is_par_file folder set n ≡ true → is_among (put_aside folder set) n ≡ false
  par_file_stays n e =
      let targets = map (λ (t : Target). t.name) set.targets in
      let some = (and_parts (is_par_name n && not (is_among targets n) && list_any (λ p. bytes_eq p.set_id set.id) (accepted (bytes_of folder n))) _ e).0 in
      let other = not-true (is_among targets n) (and_parts (is_par_name n) _ (and_parts (is_par_name n && not (is_among targets n)) _ some).0).1 in
      false_from_ne_true _ (λ h. clash (among_some (λ (t : Target). t.name) (is_incomplete folder set) set.targets n (and_parts _ _ (sym (among-filter (has folder) (incomplete_names folder set) n) ∙ h)).0) other)

  module _ (asides : BTreeMap (List ℕ) (List ℕ)) (held : (name : List ℕ) → place_in asides name ≡ now_at folder set name) where
    -- each name leads where the definitions say
    places : ◌≡◌ {A = List ℕ → List ℕ} (place_in asides) (now_at folder set)
    places = λ i name. held name i

    pub changes_are : (incomplete : Pairs) (names : List (List ℕ)) (targets : List (Target × List ℕ)) → incomplete ≡ ms → names ≡ put_aside folder set → targets ≡ rebuilt_targets folder set searched
        → renamed asides names ++ matches_taken asides incomplete ++ writes targets ≡ repair_changes folder set searched
    unfolding repair_changes
    changes_are incomplete names targets of_incomplete of_names of_targets =
        ap₂ (λ (a b : List Change). a ++ b)
        (ap₂ (λ (a b : List Change). a ++ b)
        (ap₂ (λ (place : List ℕ → List ℕ) (ns : List (List ℕ)). map (λ n. Rename n (place n)) ns) places of_names
        ∙ own_places (aside folder set) (put_aside folder set) Rename (put_aside folder set) (all_own (put_aside folder set) (put_aside folder set) (λ q h. h)))
        (ap₂ (λ (place : List ℕ → List ℕ) (us : Pairs). filter_map (λ m. option_map (λ name. Rename (place name) m.0.name) m.1) us) places of_incomplete))
        (ap writes of_targets)

    -- the files of these names that aren't matches are removed, by the names that they have by then
    abbrev removals : (List ℕ → List ℕ) → (List ℕ → Bool) → List (List ℕ) → List Change
    removals place is_match names = map (λ name. Remove (place name)) (filter (λ name. not (is_match name)) names)

    pub removals_are : (tree : BTreeSet (List ℕ)) (incomplete : Pairs) (names files : List (List ℕ))
        → HoldsOwned tree (filter_map (λ m. m.1) incomplete) → incomplete ≡ ms → names ≡ put_aside folder set → files ≡ par_files folder set
        → removed asides tree names ++ removed asides tree files ≡ repair_removals folder set searched
    unfolding repair_removals
    removals_are tree incomplete names files of_tree of_incomplete of_names of_files =
        let free = λ (n : List ℕ). not (is_among (matching folder set searched) n) in
        let tests : ◌≡◌ {A = List ℕ → Bool} (contains (slice_cmp nat_cmp) tree) (is_among (matching folder set searched)) = λ i n. (of_tree n ∙ ap (λ (us : Pairs). is_among (filter_map (λ m. m.1) us) n) of_incomplete) i in
        let all : (ns : List (List ℕ)) → removed asides tree ns ≡ removals (now_at folder set) (is_among (matching folder set searched)) ns = λ ns. ap₂ (λ (place : List ℕ → List ℕ) (test : List ℕ → Bool). removals place test ns) places tests in
        ap₂ (λ (a b : List Change). a ++ b)
        (all names ∙ ap (removals (now_at folder set) (is_among (matching folder set searched))) of_names
        ∙ own_places (aside folder set) (put_aside folder set) (λ n other. Remove other) (filter free (put_aside folder set))
        (all-filter (λ n. is_among (put_aside folder set) n ≡ true) free (put_aside folder set) (all_own (put_aside folder set) (put_aside folder set) (λ q h. h))))
        (all files ∙ ap (removals (now_at folder set) (is_among (matching folder set searched))) of_files
        ∙ old_places (aside folder set) (put_aside folder set) Remove (filter free (par_files folder set))
        (all-filter (λ n. is_among (put_aside folder set) n ≡ false) free (par_files folder set) (all_weaker _ _ par_file_stays (par_files folder set) (recursion_from_All _ _ (filter_passes (is_par_file folder set) (names_in folder))))))

  pub put_aside_in : (incomplete : Pairs) → incomplete ≡ ms → names_there folder incomplete ≡ put_aside folder set
  put_aside_in incomplete e =
      ap (names_there folder) e
      ∙ sym (filter-map (has folder) (λ (m : Target × Option (List ℕ)). m.0.name) ms) ∙ ap (filter (has folder)) (sym (names_in_pairs folder set searched))

  -- each file that is put aside has its aside in the map
  pub asides_are : (names others : List (List ℕ)) (asides : BTreeMap (List ℕ) (List ℕ)) → HasAsides names others asides → names ≡ put_aside folder set → others ≡ map (aside folder set) names
      → (name : List ℕ) → place_in asides name ≡ now_at folder set name
  asides_are names others asides has are own name = has (aside folder set) own name ∙ ap (λ (ns : List (List ℕ)). cond (is_among ns name) (aside folder set name) name) are

-- ---- purges

-- some targets are incomplete if and only if one is
pub any_incomplete : (test : Target → Bool) (ts : List Target) → not (length (filter test ts) == 0) ≡ list_any test ts
any_incomplete test [] = refl
any_incomplete test (t ∷ ts) = grind (arith, any_incomplete test ts)

-- A repair and a purge by the set that they read.

-- ---- early refusals

pub repair_as_verify : (folder : Folder) (base : List ℕ) (extras : List (List ℕ)) (purge : Bool) → early_refusal folder (Verify base extras) ≡ early_refusal folder (Repair base extras purge)
unfolding early_refusal
repair_as_verify folder base extras purge = refl

pub purge_as_verify : (folder : Folder) (base : List ℕ) → early_refusal folder (Verify base []) ≡ early_refusal folder (Purge base)
unfolding early_refusal
purge_as_verify folder base = refl

module _ (folder : Folder) (base : List ℕ) (extras : List (List ℕ)) (purge : Bool) where
  pub repair_unread : (fault : Fault) → set_in folder base extras ≡ Err fault → refusal folder (Repair base extras purge) ≡ Some fault
  unfolding refusal
  repair_unread fault e = ap (λ r. then_fault r (λ (set : ParSet). repair_refusal folder set (candidates folder set extras))) e

  module _ (set : ParSet) (reads : set_in folder base extras ≡ Ok set) where
    pub whole_if_matched : IsWholeWhereMatched folder set (candidates folder set extras)
    whole_if_matched = whole_where_matched folder base set extras (set_in_reads folder base extras set reads).0

    pub repair_refused : refusal folder (Repair base extras purge) ≡ repair_refusal folder set (candidates folder set extras)
    unfolding refusal
    repair_refused = ap (λ r. then_fault r (λ (set : ParSet). repair_refusal folder set (candidates folder set extras))) reads

    pub repair_by_set : changes_of folder (Repair base extras purge) ≡ repair_by purge folder set (candidates folder set extras)
    unfolding changes_of
    repair_by_set = ap (by_set [] (λ (set : ParSet). repair_by purge folder set (candidates folder set extras))) reads

    pub repair_leads : AreFew folder set → LeadsToAfter folder (Repair base extras purge)
    repair_leads few =
        command_leads folder (Repair base extras purge)
        (λ other h. subst (AreFew folder) (same_ok set other (sym (set_in_reads folder base extras set reads).0 ∙ h)) few)

module _ (folder : Folder) (base : List ℕ) where
  pub purge_unread : (fault : Fault) → set_in folder base [] ≡ Err fault → refusal folder (Purge base) ≡ Some fault
  unfolding refusal
  purge_unread fault e = ap (λ r. then_fault r (purge_refusal folder)) e

  pub purge_leads : LeadsToAfter folder (Purge base)
  purge_leads = command_leads folder (Purge base) tt

  module _ (set : ParSet) (reads : set_in folder base [] ≡ Ok set) where
    pub purge_refused : refusal folder (Purge base) ≡ purge_refusal folder set
    unfolding refusal
    purge_refused = ap (λ r. then_fault r (purge_refusal folder)) reads

    pub purge_by_set : changes_of folder (Purge base) ≡ purge_changes folder set
    unfolding changes_of
    purge_by_set = ap (by_set [] (purge_changes folder)) reads
