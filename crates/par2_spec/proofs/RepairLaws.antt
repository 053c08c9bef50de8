-- The changes of a repair lead to its folder.
use Rattle.par2_spec.proofs.SearchLaws.{FitsRepair}
use Rattle.par2_spec.proofs.Common.{◌≡◌, ℕ, List, [], ◌∷◌, ◌++◌, length, map, inl, inr, refl, sym, ap, ◌∙◌, subst, cond, true, false, Bool, not, ◌&&◌, ◌||◌, take, drop, arith, filter, filter_map, zip, Option, Some, None, Ok, option_map, is_some, is_none, unwrap_or, if◌then◌else◌, concat, list_all, AllByRecursion, ForSome, bytes_eq, map-append, map-id, map-map, and_parts, and_right, or_parts, or_cases, or_left, or_right, or_from, and_from, false_from_ne_true, cases_Bool, not_from_false, false≢true, not-true, and-false, is_among, Folder, has, bytes_of, names, File, without, laid_over, Write, Rename, Remove, effects, are_applicable, ParSet, Target, set_of, target_names, candidates, known, incomplete, incomplete_names, is_incomplete, intact_names, matching, matches, aside, put_aside, files_of_slices, cut_into, rebuilt, matched_files, names_without_match, aside_files, is_par_file, par_files, after_repair_and_purge, HoldsRepaired, AreFew, taken_for, rebuilt_targets, after_repair, now_at, purge_changes, repair_changes, repair_removals}
use Rattle.std.specs.FinMap as map_of
use Rattle.par2_spec.proofs.Basics.{effects-append, are_applicable-append, removals_lead, same_name, itself, clash, AreDistinct, among-filter, among-append, among_some, apart_by_test, distinct-map, distinct-filter, distinct_some, image_of, image_in, distinct-append, distinct_from_std, each_there, candidates_there, sound_of, names_of_pairs, taken_was_free, taken_once, by_either, same_tests, none_if, some_if, filter-map, map-cond, all_unmap, by_test}
use Rattle.par2_spec.proofs.MovesLaws.{Move, CanMove, renames, sources, goals, arrived, renames_apply, renames_lead, writes_apply, writes_lead, get_put, get_laid, get_without, has_laid, has_without, has_by_names, laid_over-append, without-laid_over, without_without, same_without, removals_apply, names_once, all_laid}
use Rattle.par2_spec.proofs.AsideNames.{aside_out, aside_one, aside_no_target}

-- ---- the matched targets

abbrev Pairs : Type 0
Pairs = List (Target × Option (List ℕ))

abbrev taken : Pairs → List (List ℕ)
taken ms = filter_map (λ m. m.1) ms

abbrev moves_of : (List ℕ → List ℕ) → Pairs → List Move
moves_of now ms = filter_map (λ m. option_map (λ name. (now name, m.0.name)) m.1) ms

sources-moves : (now : List ℕ → List ℕ) (ms : Pairs) → sources (moves_of now ms) ≡ map now (taken ms)
sources-moves now [] = refl
sources-moves now ((t, found) ∷ ms) = grind (arith, (sources-moves now ms))

goals-moves : (now : List ℕ → List ℕ) (ms : Pairs) → goals (moves_of now ms) ≡ map (λ m. m.0.name) (filter (λ m. is_some m.1) ms)
goals-moves now [] = refl
goals-moves now ((t, found) ∷ ms) = grind (arith, (goals-moves now ms))

renames-moves : (now : List ℕ → List ℕ) (ms : Pairs) → filter_map (λ m. option_map (λ name. Rename (now name) m.0.name) m.1) ms ≡ renames (moves_of now ms)
renames-moves now [] = refl
renames-moves now ((t, found) ∷ ms) = grind (arith, (renames-moves now ms))

-- each match gets its target's name, with its bytes of the folder
arrived-moves : (now : List ℕ → List ℕ) (f g : Folder) (ms : Pairs) → ((q : List ℕ) → is_among (taken ms) q ≡ true → bytes_of g (now q) ≡ bytes_of f q) → arrived g (moves_of now ms) ≡ matched_files f ms
arrived-moves now f g [] h = refl
arrived-moves now f g ((t, None) ∷ ms) h = arrived-moves now f g ms h
arrived-moves now f g ((t, Some x) ∷ ms) h = grind (arith, arrived, or_left, itself, or_right, (arrived-moves now f g ms (λ q i. h q (or_right _ _ i))))

names-matched : (f : Folder) (ms : Pairs) → map (λ file. file.0) (matched_files f ms) ≡ map (λ m. m.0.name) (filter (λ m. is_some m.1) ms)
names-matched f [] = refl
names-matched f ((t, found) ∷ ms) = grind (arith, (names-matched f ms))

-- ---- the files under other names

abbrev put_under : (List ℕ → List ℕ) → Folder → List (List ℕ) → List File
put_under g f ns = map (λ n. (g n, bytes_of f n)) ns

-- a file has its bytes under its new name
get_under : (g : List ℕ → List ℕ) (f base : Folder) (ns : List (List ℕ)) → ((a b : List ℕ) → g a ≡ g b → a ≡ b) → (x : List ℕ) → is_among ns x ≡ true → map_of.get (laid_over (put_under g f ns) base) (g x) ≡ Some (bytes_of f x)
unfolding laid_over
get_under g f base [] one x h = absurd (false≢true h)
get_under g f base (n ∷ ns) one x h =
    let later = map_of.insert base (g n) (bytes_of f n) in
    let others : is_among ns x ≡ false → is_among (map (λ file. file.0) (put_under g f ns)) (g x) ≡ false = λ out. false_from_ne_true _ (λ i.
    let r = image_of g ns (g x) (sym (ap (λ qs. is_among qs (g x)) (map-map (λ file. file.0) (λ m. (g m, bytes_of f m)) ns)) ∙ i) in
    clash r.1 (subst (λ y. is_among ns y ≡ false) (one x r.0 r.2) out)) in
    by_test (is_among ns x) (λ i. get_under g f later ns one x i)
    (λ i. grind (arith, (get_laid (put_under g f ns) later (g x) (others i)), (get_put base (g n) (bytes_of f n) (g x)), (same_name x n), (itself (g x))))

-- ---- the targets that are written

names_of_contents : (f : Target × List (List ℕ) → List ℕ) (ts : List Target) (slices : List (List ℕ)) → map (λ (c : Target × List ℕ). c.0.name) (map (λ (z : Target × List (List ℕ)). (z.0, f z)) (zip ts (cut_into (map (λ t. length t.pairs) ts) slices))) ≡ map (λ t. t.name) ts
names_of_contents f [] slices = refl
names_of_contents f (t ∷ ts) slices = ap (λ ns. t.name ∷ ns) (names_of_contents f ts (drop (length t.pairs) slices))

-- ---- the law

-- premises on the targets: their names are distinct, the searched names are in the folder, and no aside is a target's
-- name
pub record Fits (folder : Folder) (set : ParSet) (given : List (List ℕ)) : Type 0 where
  pub once : AreDistinct (map (λ t. t.name) set.targets)
  pub there : (q : List ℕ) → is_among given q ≡ true → has folder q ≡ true
  pub aside_apart : (n : List ℕ) → is_among (map (λ t. t.name) set.targets) (aside folder set n) ≡ false

-- premises on the files put aside: no aside is in the folder, and distinct names have distinct asides
pub record AreFree (folder : Folder) (set : ParSet) : Type 0 where
  pub aside_free : (n : List ℕ) → has folder (aside folder set n) ≡ false
  pub aside_one : (a b : List ℕ) → aside folder set a ≡ aside folder set b → a ≡ b

module _ (folder : Folder) (set : ParSet) (given : List (List ℕ)) (fits : Fits folder set given) where
  abbrev targets : List (List ℕ)
  targets = map (λ t. t.name) set.targets

  abbrev wanted : List (List ℕ)
  wanted = map (λ t. t.name) (incomplete folder set)

  abbrev intact : List (List ℕ)
  intact = intact_names folder set

  abbrev moved : List (List ℕ)
  moved = put_aside folder set

  abbrev taken_names : List (List ℕ)
  taken_names = matching folder set given

  abbrev off : List ℕ → List ℕ
  off = aside folder set

  abbrev now : List ℕ → List ℕ
  now = now_at folder set

  pub target_no_aside : (ns : List (List ℕ)) (q : List ℕ) → is_among targets q ≡ true → is_among (map off ns) q ≡ false
  target_no_aside ns q h = false_from_ne_true _ (λ i. let r = image_of off ns q i in clash h (subst (λ x. is_among targets x ≡ false) (sym r.2) (fits.aside_apart r.0)))

  -- the targets of the matches are the incomplete targets
  heads : map (λ m. m.0.name) (matches folder set given) ≡ wanted
  heads = unfold matches in names_of_pairs folder set.slice_size (filter (λ name. not (is_among intact name)) given) (incomplete folder set)

  wanted_is_target : (q : List ℕ) → is_among wanted q ≡ true → is_among targets q ≡ true
  wanted_is_target q h = among_some (λ t. t.name) (is_incomplete folder set) set.targets q h

  wanted_once : AreDistinct wanted
  wanted_once = distinct_some (λ t. t.name) (is_incomplete folder set) set.targets fits.once

  heads_once : AreDistinct (map (λ m. m.0.name) (matches folder set given))
  heads_once = subst AreDistinct (sym heads) wanted_once

  -- a match was free
  pub match_free : (q : List ℕ) → is_among taken_names q ≡ true → (is_among given q ≡ true) × (not (is_among intact q) ≡ true)
  match_free q h = unfold matches in grind (arith, and_parts, among-filter, taken_was_free)

  -- the incomplete targets that exist
  moved_is : (q : List ℕ) → is_among moved q ≡ (is_among wanted q && has folder q)
  moved_is q = among-filter (has folder) wanted q

  abbrev won : List (List ℕ)
  won = map (λ m. m.0.name) (filter (λ m. is_some m.1) (matches folder set given))

  won_wanted : (q : List ℕ) → is_among won q ≡ true → is_among wanted q ≡ true
  won_wanted q h = subst (λ ns. is_among ns q ≡ true) heads (among_some (λ m. m.0.name) (λ m. is_some m.1) (matches folder set given) q h)

  -- the folder after the renames, as the map of the repair
  abbrev settled : Folder
  settled =
      laid_over (matched_files folder (matches folder set given))
      (laid_over (aside_files folder set taken_names) (without (map (λ m. m.0.name) (matches folder set given) ++ taken_names) folder))

  abbrev written : List File
  written = map (λ c. (c.0.name, c.1)) (rebuilt_targets folder set given)

  abbrev unwon : List (List ℕ)
  unwon = names_without_match (matches folder set given)

  written_names : map (λ file. file.0) written ≡ filter (is_among unwon) targets
  written_names = unfold rebuilt_targets in
      map-map (λ file. file.0) (λ c. (c.0.name, c.1)) (rebuilt_targets folder set given)
      ∙ sym (filter-map (is_among unwon) (λ c. c.0.name) (files_of_slices set (rebuilt set (known folder set given))))
      ∙ ap (filter (is_among unwon)) (names_of_contents (λ z. take z.0.length (concat z.1)) set.targets (rebuilt set (known folder set given)))

  unwon_apart : (q : List ℕ) → is_among unwon q ≡ true → is_among won q ≡ false
  unwon_apart q h = grind (arith, apart_by_test, heads_once)

  abbrev left : List (List ℕ)
  left = filter (λ name. not (is_among taken_names name)) moved

  abbrev gone_names : List (List ℕ)
  gone_names = map (λ m. m.0.name) (matches folder set given) ++ taken_names

  left_is : (q : List ℕ) → is_among left q ≡ (is_among moved q && not (is_among taken_names q))
  left_is q = among-filter (λ name. not (is_among taken_names name)) moved q

  left_moved : (q : List ℕ) → is_among left q ≡ true → is_among moved q ≡ true
  left_moved q h = (and_parts _ _ (sym (left_is q) ∙ h)).0

  module _ (free : AreFree folder set) where
    present_no_aside : (ns : List (List ℕ)) (q : List ℕ) → has folder q ≡ true → is_among (map off ns) q ≡ false
    present_no_aside ns q h = false_from_ne_true _ (λ i. let r = image_of off ns q i in clash h (subst (λ x. has folder x ≡ false) (sym r.2) (free.aside_free r.0)))

    match_there : (q : List ℕ) → is_among taken_names q ≡ true → has folder q ≡ true
    match_there q h = fits.there q (match_free q h).0

    matches_once : AreDistinct taken_names
    matches_once = unfold matches in taken_once folder set.slice_size (filter (λ name. not (is_among intact name)) given) (incomplete folder set)

    wanted_moved : (q : List ℕ) → is_among wanted q ≡ true → has folder q ≡ true → is_among moved q ≡ true
    wanted_moved q h k = moved_is q ∙ and_from _ _ h k

    moved_once : AreDistinct moved
    moved_once = distinct-filter (has folder) wanted wanted_once

    now_moved : (q : List ℕ) → is_among moved q ≡ true → now q ≡ off q
    now_moved q h = ap (λ b. if b then off q else q) h

    now_other : (q : List ℕ) → is_among moved q ≡ false → now q ≡ q
    now_other q h = ap (λ b. if b then off q else q) h

    -- distinct matches have distinct current names
    now_one : (a b : List ℕ) → is_among taken_names a ≡ true → is_among taken_names b ≡ true → now a ≡ now b → a ≡ b
    now_one a b i j e = grind (arith, cases_Bool, by_either, aside_one, now_moved, clash, match_there, now_other)

    -- ---- first: the existing incomplete targets are put aside

    abbrev first : List Move
    first = map (λ n. (n, off n)) moved

    first_sources : sources first ≡ moved
    first_sources = map-map (λ m. m.0) (λ n. (n, off n)) moved ∙ map-id moved

    first_goals : goals first ≡ map off moved
    first_goals = map-map (λ m. m.1) (λ n. (n, off n)) moved

    can_put_aside : CanMove folder first
    can_put_aside = record {
      sources_once = subst AreDistinct (sym first_sources) moved_once;
      goals_once = subst AreDistinct (sym first_goals) (distinct-map off moved (λ a b i j. free.aside_one a b) moved_once);
      there = λ q h. (and_parts _ _ (sym (moved_is q) ∙ subst (λ ns. is_among ns q ≡ true) first_sources h)).1;
      free = λ q h. let r = image_of off moved q (subst (λ ns. is_among ns q ≡ true) first_goals h) in subst (λ x. has folder x ≡ false) (sym r.2) (free.aside_free r.0);
    }

    -- the folder after that
    abbrev cleared : Folder
    cleared = laid_over (put_under off folder moved) (without moved folder)

    first_leads : effects folder (renames first) ≡ cleared
    first_leads =
        renames_lead folder first can_put_aside
        ∙ ap (λ ns. laid_over (arrived folder first) (without ns folder)) first_sources
        ∙ ap (λ fs. laid_over fs (without moved folder)) (map-map (λ m. (m.1, bytes_of folder m.0)) (λ n. (n, off n)) moved)

    cleared_has : (q : List ℕ) → has cleared q ≡ (is_among (map off moved) q || (not (is_among moved q) && has folder q))
    cleared_has q = grind (arith, has_laid, map-map, has_without)

    -- no incomplete target is there
    cleared_wanted : (q : List ℕ) → is_among wanted q ≡ true → has cleared q ≡ false
    cleared_wanted q h = grind (arith, cleared_has, or_from, target_no_aside, wanted_is_target, wanted_moved, and-false)

    -- a match has its bytes under its current name
    cleared_match : (q : List ℕ) → is_among taken_names q ≡ true → map_of.get cleared (now q) ≡ map_of.get folder q
    cleared_match q h = elim (cases_Bool (is_among moved q)) as (λ _. map_of.get cleared (now q) ≡ map_of.get folder q) [
      | inl k ↦ ap (map_of.get cleared) (now_moved q k) ∙ get_under off folder (without moved folder) moved free.aside_one q k ∙ sym (some_if [] (map_of.get folder q) (match_there q h))
      | inr k ↦ ap (map_of.get cleared) (now_other q k)
          ∙ get_laid (put_under off folder moved) (without moved folder) q (ap (λ ns. is_among ns q) (map-map (λ file. file.0) (λ n. (off n, bytes_of folder n)) moved) ∙ present_no_aside moved q (match_there q h))
          ∙ get_without moved folder q ∙ ap (λ b. cond b None (map_of.get folder q)) k
    ]

    -- ---- second: the matched targets take their matches

    abbrev second : List Move
    second = moves_of now (matches folder set given)

    second_sources : sources second ≡ map now taken_names
    second_sources = sources-moves now (matches folder set given)

    second_goals : goals second ≡ won
    second_goals = goals-moves now (matches folder set given)

    can_take : CanMove cleared second
    can_take = record {
      sources_once = subst AreDistinct (sym second_sources) (distinct-map now taken_names now_one matches_once);
      goals_once = subst AreDistinct (sym second_goals) (distinct_some (λ m. m.0.name) (λ m. is_some m.1) (matches folder set given) heads_once);
      there = λ q h. let r = image_of now taken_names q (subst (λ ns. is_among ns q ≡ true) second_sources h) in
          ap (has cleared) r.2 ∙ ap is_some (cleared_match r.0 r.1) ∙ match_there r.0 r.1;
      free = λ q h. cleared_wanted q (won_wanted q (subst (λ ns. is_among ns q ≡ true) second_goals h));
    }

    -- an incomplete target that is put aside and is a match leaves no file under its aside
    aside_taken : (n : List ℕ) → is_among moved n ≡ true → is_among (map now taken_names) (off n) ≡ is_among taken_names n
    aside_taken n k =
        let from : (x : List ℕ) → is_among taken_names x ≡ true → off n ≡ now x → is_among taken_names n ≡ true = λ x i e. by_either (cases_Bool (is_among moved x))
        (λ j. subst (λ y. is_among taken_names y ≡ true) (sym (free.aside_one n x (e ∙ now_moved x j))) i)
        (λ j. absurd (clash (match_there x i) (subst (λ y. has folder y ≡ false) (e ∙ now_other x j) (free.aside_free n)))) in
        same_tests _ _
        (λ h. let r = image_of now taken_names (off n) h in from r.0 r.1 r.2)
        (λ h. subst (λ x. is_among (map now taken_names) x ≡ true) (now_moved n k) (image_in now taken_names n h))

    -- the asides that are left
    asides_left : (ns : List (List ℕ)) → ((n : List ℕ) → is_among ns n ≡ true → is_among moved n ≡ true) → filter (λ file. not (is_among (map now taken_names) file.0)) (put_under off folder ns) ≡ put_under off folder (filter (λ n. not (is_among taken_names n)) ns)
    asides_left [] k = refl
    asides_left (n ∷ ns) k = grind (arith, aside_taken, or_left, itself, or_right, map-cond, (asides_left ns (λ m i. k m (or_right _ _ i))))

    -- the names that are gone from the folder
    gone_alike : (q : List ℕ) → has folder q ≡ true → is_among (map now taken_names ++ moved) q ≡ is_among (map (λ m. m.0.name) (matches folder set given) ++ taken_names) q
    gone_alike q k =
        let in_goals : is_among wanted q ≡ true → is_among (map (λ m. m.0.name) (matches folder set given) ++ taken_names) q ≡ true =
        λ h. among-append (map (λ m. m.0.name) (matches folder set given)) taken_names q ∙ or_left _ _ (subst (λ ns. is_among ns q ≡ true) (sym heads) h) in
        let in_taken : is_among taken_names q ≡ true → is_among (map (λ m. m.0.name) (matches folder set given) ++ taken_names) q ≡ true =
        λ h. among-append (map (λ m. m.0.name) (matches folder set given)) taken_names q ∙ or_right _ _ h in
        let in_moved : is_among moved q ≡ true → is_among (map now taken_names ++ moved) q ≡ true = λ h. among-append (map now taken_names) moved q ∙ or_right _ _ h in
        let of_now : (x : List ℕ) → is_among taken_names x ≡ true → q ≡ now x → is_among taken_names q ≡ true = λ x i e. by_either (cases_Bool (is_among moved x))
        (λ j. absurd (clash k (subst (λ y. has folder y ≡ false) (sym (e ∙ now_moved x j)) (free.aside_free x))))
        (λ j. subst (λ y. is_among taken_names y ≡ true) (sym (e ∙ now_other x j)) i) in
        let to : is_among (map now taken_names ++ moved) q ≡ true → is_among (map (λ m. m.0.name) (matches folder set given) ++ taken_names) q ≡ true = (λ h. by_either (or_cases (is_among (map now taken_names) q) (is_among moved q) (sym (among-append (map now taken_names) moved q) ∙ h))
        (λ i. let r = image_of now taken_names q i in in_taken (of_now r.0 r.1 r.2))
        (λ i. in_goals (and_parts _ _ (sym (moved_is q) ∙ i)).0)) in
        let from : is_among (map (λ m. m.0.name) (matches folder set given) ++ taken_names) q ≡ true → is_among (map now taken_names ++ moved) q ≡ true = (λ h. elim (or_cases (is_among (map (λ m. m.0.name) (matches folder set given)) q) (is_among taken_names q) (sym (among-append (map (λ m. m.0.name) (matches folder set given)) taken_names q) ∙ h)) as (λ _. is_among (map now taken_names ++ moved) q ≡ true) [
          | inl i ↦ in_moved (wanted_moved q (subst (λ ns. is_among ns q ≡ true) heads i) k)
          | inr i ↦ by_either (cases_Bool (is_among moved q))
              (λ j. in_moved j)
              (λ j. among-append (map now taken_names) moved q ∙ or_left _ _ (subst (λ x. is_among (map now taken_names) x ≡ true) (now_other q j) (image_in now taken_names q i)))
        ]) in
        same_tests _ _ to from

    left_over : without (map now taken_names) cleared ≡ laid_over (aside_files folder set taken_names) (without (map (λ m. m.0.name) (matches folder set given) ++ taken_names) folder)
    left_over =
        without-laid_over (map now taken_names) (put_under off folder moved) (without moved folder)
        ∙ ap (λ fs. laid_over fs (without (map now taken_names) (without moved folder))) (asides_left moved (λ n i. i))
        ∙ ap (laid_over (aside_files folder set taken_names))
        (without_without (map now taken_names) moved folder ∙ same_without (map now taken_names ++ moved) (map (λ m. m.0.name) (matches folder set given) ++ taken_names) folder gone_alike)

    second_leads : effects cleared (renames second) ≡ settled
    second_leads = grind (arith, renames_lead, can_take, sources, arrived-moves, cleared_match, second_sources, left_over)

    -- ---- third: the others are written

    -- the names of incomplete targets are free, and then those of the matched ones are taken
    settled_has : (q : List ℕ) → is_among wanted q ≡ true → has settled q ≡ is_among won q
    settled_has q h = grind (arith, second_leads, renames_lead, can_take, has_laid, arrived, sources, map-map, second_goals, has_without, cleared_wanted)

    third_apply : are_applicable settled (map (λ file. Write file.0 file.1) written) ≡ true
    third_apply =
        writes_apply settled written (subst AreDistinct (sym written_names) (distinct-filter (is_among unwon) targets fits.once))
        (λ q h.
        let r = and_parts _ _ (sym (among-filter (is_among unwon) targets q) ∙ subst (λ ns. is_among ns q ≡ true) written_names h) in
        settled_has q (subst (λ ns. is_among ns q ≡ true) heads (among_some (λ m. m.0.name) (λ m. is_none m.1) (matches folder set given) q r.1)) ∙ unwon_apart q r.1)

    -- ---- together

    changes_are : repair_changes folder set given ≡ renames first ++ renames second ++ map (λ file. Write file.0 file.1) written
    changes_are = unfold repair_changes in grind (arith, map-map, (renames-moves now (matches folder set given)))

    -- the changes of a repair apply in order
    pub repair_applies : are_applicable folder (repair_changes folder set given) ≡ true
    repair_applies = grind (arith, changes_are, are_applicable-append, renames, renames_apply, can_put_aside, first_leads, can_take, effects-append, second_leads, third_apply)

    -- the changes lead to its folder
    pub repair_leads : effects folder (repair_changes folder set given) ≡ after_repair folder set given
    repair_leads = unfold after_repair in grind (arith, changes_are, effects-append, renames, first_leads, second_leads, writes_lead, laid_over-append)

    -- ---- then the asides that are left and the PAR2 files are removed

    abbrev par_left : List (List ℕ)
    par_left = filter (λ name. not (is_among taken_names name)) (par_files folder set)

    -- the names of the folder after a repair
    after_has : (q : List ℕ) → has (after_repair folder set given) q ≡ (is_among (filter (is_among unwon) targets) q || (is_among won q || (is_among (map off left) q || (not (is_among gone_names q) && has folder q))))
    after_has q = unfold after_repair in
        ap (λ f. has f q) (laid_over-append (matched_files folder (matches folder set given)) written (laid_over (aside_files folder set taken_names) (without gone_names folder)))
        ∙ has_laid written settled q
        ∙ ap (λ ns. is_among ns q || has settled q) written_names
        ∙ ap (λ b. is_among (filter (is_among unwon) targets) q || b)
        (has_laid (matched_files folder (matches folder set given)) (laid_over (aside_files folder set taken_names) (without gone_names folder)) q
        ∙ ap (λ ns. is_among ns q || has (laid_over (aside_files folder set taken_names) (without gone_names folder)) q) (names-matched folder (matches folder set given))
        ∙ ap (λ b. is_among won q || b)
        (has_laid (aside_files folder set taken_names) (without gone_names folder) q
        ∙ ap (λ ns. is_among ns q || has (without gone_names folder) q) (map-map (λ file. file.0) (λ n. (off n, bytes_of folder n)) left)
        ∙ ap (λ b. is_among (map off left) q || b) (has_without gone_names folder q)))

    -- a name that is no target's exists only as an aside that is left, or as before
    after_other : (q : List ℕ) → is_among targets q ≡ false → has (after_repair folder set given) q ≡ (is_among (map off left) q || (not (is_among gone_names q) && has folder q))
    after_other q h = grind (arith, after_has, false≢true, among-filter, false_from_ne_true, clash, wanted_is_target, won_wanted)

    par_left_is : (q : List ℕ) → is_among par_left q ≡ (is_among (par_files folder set) q && not (is_among taken_names q))
    par_left_is q = among-filter (λ name. not (is_among taken_names name)) (par_files folder set) q

    -- no file has the aside of a match
    pub vacant_aside : (q : List ℕ) → is_among taken_names q ≡ true → has (after_repair folder set given) (off q) ≡ false
    vacant_aside q h = grind (arith, image_of, aside_one, clash, not-true, and_parts, left_is, after_other, or_from, false_from_ne_true, and_right)

    par_left_par : (q : List ℕ) → is_among par_left q ≡ true → is_among (par_files folder set) q ≡ true
    par_left_par q h = (and_parts _ _ (sym (par_left_is q) ∙ h)).0

    par_no_target : (q : List ℕ) → is_among (par_files folder set) q ≡ true → is_among targets q ≡ false
    par_no_target q h = grind (arith, and_parts, among-filter, not-true)

    par_there : (q : List ℕ) → is_among (par_files folder set) q ≡ true → has folder q ≡ true
    par_there q h = has_by_names folder q ∙ (and_parts _ _ (sym (among-filter (is_par_file folder set) (names folder) q) ∙ h)).0

    -- the names to remove that exist after the repair are those that are removed
    removed_alike : (q : List ℕ) → has (after_repair folder set given) q ≡ true → is_among (map off left ++ par_left) q ≡ is_among (map off moved ++ par_files folder set) q
    removed_alike q k = grind (arith, or_cases, among-append, image_of, or_left, image_in, left_moved, or_right, par_left_par, false_from_ne_true, clash, after_other, par_no_target, or_from, present_no_aside, par_there, by_either, par_left_is, and_from, not_from_false, same_tests, false≢true)

    removed_there : (q : List ℕ) → is_among (map off left ++ par_left) q ≡ true → has (after_repair folder set given) q ≡ true
    removed_there q h = grind (arith, among-append, or_from, heads, false_from_ne_true, clash, wanted_is_target, par_no_target, not-true, or_cases, image_of, after_other, or_left, and_parts, par_left_is, or_right, and_from, not_from_false, par_there)

    removed_once : AreDistinct (map off left ++ par_left)
    removed_once = distinct-append (map off left) par_left
        (distinct-map off left (λ a b i j. free.aside_one a b) (distinct-filter (λ name. not (is_among taken_names name)) moved moved_once))
        (distinct-filter (λ name. not (is_among taken_names name)) (par_files folder set) (distinct-filter (is_par_file folder set) (names folder) (names_once folder)))
        (λ q i. false_from_ne_true _ (λ j. clash i (present_no_aside left q (par_there q (par_left_par q j)))))

    removals_are : repair_removals folder set given ≡ map Remove (map off left ++ par_left)
    removals_are = unfold repair_removals in grind (arith, map-map, map-append)

    pub repair_and_purge_applies : are_applicable folder (repair_changes folder set given ++ repair_removals folder set given) ≡ true
    repair_and_purge_applies = grind (arith, are_applicable-append, repair_applies, repair_leads, removals_are, removals_apply, removed_once, removed_there)

    pub repair_and_purge_leads : effects folder (repair_changes folder set given ++ repair_removals folder set given) ≡ after_repair_and_purge folder set given
    repair_and_purge_leads = grind (arith, effects-append, repair_leads, removals_are, removals_lead, same_without, removed_alike)

-- ---- file by file

module _ (folder : Folder) (set : ParSet) (given : List (List ℕ)) (fits : Fits folder set given) where
  abbrev base : Folder
  base = without (gone_names folder set given fits) folder

  abbrev with_asides : Folder
  with_asides = laid_over (aside_files folder set (matching folder set given)) base

  after_is : after_repair folder set given ≡ laid_over (written folder set given fits) (settled folder set given fits)
  after_is = unfold after_repair in laid_over-append (matched_files folder (matches folder set given)) (written folder set given fits) with_asides

  -- a name that is not written has the same file as before
  unwritten : (q : List ℕ) → is_among (unwon folder set given fits) q ≡ false → map_of.get (after_repair folder set given) q ≡ map_of.get (settled folder set given fits) q
  unwritten q h = grind (arith, after_is, get_laid, written_names, among-filter, and-false)

  -- a name of no incomplete target has the same file as after the asides
  unwanted : (q : List ℕ) → is_among (wanted folder set given fits) q ≡ false → map_of.get (after_repair folder set given) q ≡ map_of.get with_asides q
  unwanted q h = grind (arith, unwritten, false_from_ne_true, clash, get_laid, names-matched, won_wanted, heads, among_some)

  matched_hold : (f after : Folder) (ms : Pairs) → AllByRecursion (λ file. map_of.get after file.0 ≡ Some file.1) (matched_files f ms) → AllByRecursion (λ m. ForSome m.1 (λ name. map_of.get after m.0.name ≡ Some (bytes_of f name))) ms
  matched_hold f after [] h = tt
  matched_hold f after ((t, None) ∷ ms) h = (λ x e. absurd (false≢true (ap is_some e)), matched_hold f after ms h)
  matched_hold f after ((t, Some x) ∷ ms) h = (λ y e. subst (λ z. map_of.get after t.name ≡ Some (bytes_of f z)) (ap (λ o. unwrap_or o x) e) h.0, matched_hold f after ms h.1)

  unaside : (q : List ℕ) → is_among (map (aside folder set) (left folder set given fits)) q ≡ false → map_of.get with_asides q ≡ map_of.get base q
  unaside q h = get_laid (aside_files folder set (matching folder set given)) base q (ap (λ ns. is_among ns q) (map-map (λ file. file.0) (λ n. (aside folder set n, bytes_of folder n)) (left folder set given fits)) ∙ h)

  -- each matched target has the bytes of its match
  pub matched_ones : AllByRecursion (λ m. ForSome m.1 (λ name. map_of.get (after_repair folder set given) m.0.name ≡ Some (bytes_of folder name))) (matches folder set given)
  matched_ones =
      matched_hold folder (after_repair folder set given) (matches folder set given)
      (all_laid (matched_files folder (matches folder set given)) with_asides (after_repair folder set given)
      (subst AreDistinct (sym (names-matched folder (matches folder set given))) (distinct_some (λ m. m.0.name) (λ m. is_some m.1) (matches folder set given) (heads_once folder set given fits)))
      (λ q h. unwritten q (false_from_ne_true _ (λ i. clash (subst (λ ns. is_among ns q ≡ true) (names-matched folder (matches folder set given)) h) (unwon_apart folder set given fits q i)))))

  -- each other incomplete target has its rebuilt bytes
  pub written_ones : AllByRecursion (λ c. map_of.get (after_repair folder set given) c.0.name ≡ Some c.1) (rebuilt_targets folder set given)
  written_ones =
      all_unmap (λ file. map_of.get (after_repair folder set given) file.0 ≡ Some file.1) (λ c. (c.0.name, c.1)) (rebuilt_targets folder set given)
      (all_laid (written folder set given fits) (settled folder set given fits) (after_repair folder set given)
      (subst AreDistinct (sym (written_names folder set given fits)) (distinct-filter (is_among (unwon folder set given fits)) (targets folder set given fits) fits.once))
      (λ q h. ap (λ f. map_of.get f q) after_is))

  -- a name that is no incomplete target's, no match and no aside has the same file as before
  pub other_ones : (name : List ℕ) → is_among (incomplete_names folder set) name ≡ false → is_among (matching folder set given) name ≡ false
      → is_among (map (aside folder set) (put_aside folder set)) name ≡ false → map_of.get (after_repair folder set given) name ≡ map_of.get folder name
  other_ones name h k l = grind (arith, unwanted, unaside, false_from_ne_true, image_of, clash, image_in, left_moved, get_without, among-append, or_from, heads)

  pub repaired_holds : AreFree folder set → HoldsRepaired folder set given (after_repair folder set given)
  repaired_holds free = record {
    matched_ones = matched_ones;
    written_ones = written_ones;
    asides = λ name h k.
        unwanted (aside folder set name) (false_from_ne_true _ (λ i. clash (wanted_is_target folder set given fits (aside folder set name) i) (fits.aside_apart name)))
        ∙ get_under (aside folder set) folder base (left folder set given fits) free.aside_one name (left_is folder set given fits name ∙ and_from _ _ h (not_from_false _ k));
    taken_asides = λ name h k. none_if (map_of.get (after_repair folder set given) (aside folder set name)) (vacant_aside folder set given fits free name k);
    moved_away = λ name h k.
        unwanted name k ∙ unaside name (present_no_aside folder set given fits free (left folder set given fits) name (match_there folder set given fits free name h))
        ∙ get_without (gone_names folder set given fits) folder name
        ∙ ap (λ b. cond b None (map_of.get folder name)) (among-append (map (λ m. m.0.name) (matches folder set given)) (matching folder set given) name ∙ or_right _ _ h);
    others = other_ones;
  }

-- ---- from the premises of a repair

-- a name that is not taken is in no folder and no target's
apart_parts : (folder : Folder) (set : ParSet) (n : List ℕ) → is_among (taken_for folder set) (aside folder set n) ≡ false → (is_among (names folder) (aside folder set n) ≡ false) × (is_among (target_names set) (aside folder set n) ≡ false)
apart_parts folder set n h = or_parts _ _ (sym (among-append (names folder) (target_names set) (aside folder set n)) ∙ h)

pub fits_all : (folder : Folder) (set : ParSet) (given : List (List ℕ)) → FitsRepair folder set given → Fits folder set given
fits_all folder set given f = record {
  once = distinct_from_std _ f.names_once;
  there = each_there folder given f.all_there;
  aside_apart = λ n. (apart_parts folder set n (aside_out folder set n f.few)).1;
}

-- for any set that can be read, without a bound on the names: if no number is free, the aside is the empty name, which
-- is no target's
pub targets_fit : (folder : Folder) (name : List ℕ) (set : ParSet) (extras : List (List ℕ)) → set_of folder name ≡ Ok set → list_all (has folder) extras ≡ true → Fits folder set (candidates folder set extras)
targets_fit folder name set extras h there =
    let sound = sound_of folder name set h in
    record {
      once = distinct_from_std _ sound.names_once;
      there = candidates_there folder set extras there;
      aside_apart = λ n. aside_no_target folder set n sound.are_names;
    }

pub asides_free : (folder : Folder) (set : ParSet) → AreFew folder set → AreFree folder set
asides_free folder set few = record {
  aside_free = λ n. has_by_names folder (aside folder set n) ∙ (apart_parts folder set n (aside_out folder set n few)).0;
  aside_one = λ a b. aside_one folder set a b few;
}

pub purge_applies : (folder : Folder) (set : ParSet) → are_applicable folder (purge_changes folder set) ≡ true
purge_applies folder set =
    removals_apply folder (par_files folder set) (distinct-filter (is_par_file folder set) (names folder) (names_once folder))
    (λ q h. has_by_names folder q ∙ (and_parts _ _ (sym (among-filter (is_par_file folder set) (names folder) q) ∙ h)).0)
