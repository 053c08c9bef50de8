-- Lists of slices, part by part.
use Rattle.par2_verify.proofs.Common.{◌≡◌, ◌∙◌, cond, List, ◌∷◌, Ok, Err, [], ℕ, Bool, true, false, ◌&&◌, map, refl, sym, ap, ap₂, and_parts, eq-eqb, or_right, is_some, is_none, filter, flat_map, zip, filter_map, list_any, Option, None, Some, AllByRecursion, eq_by_cmp, itself, Pair, Target, Window, padded_windows, count_cmp, pairs_sought, arith, ◌+◌, ◌||◌, length, not, false_from_ne_true, option_map, option_and_then, enumerate_from, length-map, bytes_eq, subst, IsDistinct, is_among, slice_cmp, nat_cmp, BTreeMap, AreDistinct, among_some, clash, distinct_from_std, std_from_distinct, same_either_way, Fault, found, rank, Folder, bytes_of, has, ParSet, all_pairs, is_incomplete, matches, lost, survivors, candidates, known, set_in, Complete, Report, TargetReport, incomplete_state, report_of_target, report_of, report_in, set_in_reads, sound_of, present_searched, size_positive, sized_from_counted, targets_found, HoldsMatches, names_without_match, numbers_of_lost, said_of, and-true, or_left, eqb-true, or_parts, list_any-append, any-filter_same, get, option_map_or, find, same_count, same_name, distinct_some, all-both, all-flat_map, state_of, all_weaker, by_target}
use Rattle.par2_verify.proofs.VerifyParts.{names_in_pairs}

-- equal lists have equal heads and tails
pub heads : {X : Type 0} (x y : X) (xs ys : List X) → x ∷ xs ≡ y ∷ ys → (x ≡ y) × (xs ≡ ys)
heads x y xs ys e = (cc, cc)

-- Which slices are lost.

-- the checksums of a slice without a window
abbrev pub lost_one : Pair × Window → Option Pair
lost_one z = cond (is_none z.1) (Some z.0) None

pub lost_among : (s : ℕ) (f : Pair → Option (List ℕ)) (pairs : List Pair) (windows : List Window) → padded_windows s windows ≡ map f pairs → filter_map lost_one (zip pairs windows) ≡ filter (λ pair. is_none (f pair)) pairs
lost_among s f [] windows h = refl
lost_among s f (pair ∷ pairs) [] h = absurd (let no : ⊥ = cc in no)
lost_among s f (pair ∷ pairs) (None ∷ windows) h = let r = heads _ _ _ _ h in let rest = lost_among s f pairs windows r.1 in grind (arith, r.0, rest)
lost_among s f (pair ∷ pairs) (Some bytes ∷ windows) h = let r = heads _ _ _ _ h in let rest = lost_among s f pairs windows r.1 in grind (arith, r.0, rest)

-- checksums that the order doesn't tell apart are equal
same_pair : (p q : Pair) → eq_by_cmp count_cmp p q ≡ true → q ≡ p
same_pair (a, n) (b, m) e =
    let r = and_parts _ _ (sym (same_count a b n m) ∙ e) in
    ap₂ (λ (md5 : List ℕ) (crc : ℕ). (md5, crc)) (same_name b a r.0) (eqb-true m n r.1)

own_pair : (p : Pair) → eq_by_cmp count_cmp p p ≡ true
own_pair (a, n) = same_count a a n n ∙ ap₂ (λ x y. x && y) (itself a) (eq-eqb n n refl)

module _ (f : Pair → Option (List ℕ)) where
  -- those of these checksums whose slices aren't found
  abbrev pub lost_in : List Pair → List Pair
  lost_in pairs = filter (λ pair. is_none (f pair)) pairs

  abbrev pub IsKept : List Pair → Pair → Type 0
  IsKept sought pair = list_any (eq_by_cmp count_cmp pair) (lost_in sought) ≡ is_none (f pair)

  kept : (sought : List Pair) (pair : Pair) → list_any (eq_by_cmp count_cmp pair) (lost_in sought) ≡ (is_none (f pair) && list_any (eq_by_cmp count_cmp pair) sought)
  kept sought pair = any-filter_same (eq_by_cmp count_cmp pair) (λ p. is_none (f p)) (is_none (f pair)) (λ q e. ap (λ p. is_none (f p)) (same_pair pair q e)) sought

  abbrev Within : List Pair → List Pair → Type 0
  Within pairs sought = (pair : Pair) → list_any (eq_by_cmp count_cmp pair) pairs ≡ true → list_any (eq_by_cmp count_cmp pair) sought ≡ true

  all_sought : (sought pairs : List Pair) → Within pairs sought → AllByRecursion (IsKept sought) pairs
  all_sought sought [] h = tt
  all_sought sought (pair ∷ pairs) h =
      (kept sought pair ∙ ap (λ b. is_none (f pair) && b) (h pair (or_left _ _ (own_pair pair))) ∙ and-true (is_none (f pair)), all_sought sought pairs (λ p e. h p (or_right _ _ e)))

  all_found : (sought pairs : List Pair) → AllByRecursion (λ pair. is_some (f pair) ≡ true) pairs → AllByRecursion (IsKept sought) pairs
  all_found sought [] h = tt
  all_found sought (pair ∷ pairs) h = (let some = h.0 in grind (arith, kept sought pair), all_found sought pairs h.1)

  -- if all slices of the other targets are found, a slice of the set is lost exactly if it is one of the lost ones that
  -- are searched for
  pub lost_exactly : (sought : Target → Bool) (all : List Pair) (ts : List Target) → Within (pairs_sought sought ts) all
      → AllByRecursion (λ t. sought t ≡ false → AllByRecursion (λ pair. is_some (f pair) ≡ true) t.pairs) ts → AllByRecursion (λ t. AllByRecursion (IsKept all) t.pairs) ts
  lost_exactly sought all [] within h = tt
  lost_exactly sought all (t ∷ ts) within h = step (sought t) refl within (λ k. lost_exactly sought all ts k h.1)
    where
      step : (b : Bool) → sought t ≡ b → Within (flat_map (λ (u : Target). u.pairs) (cond b (t ∷ filter sought ts) (filter sought ts))) all
          → (Within (pairs_sought sought ts) all → AllByRecursion (λ u. AllByRecursion (IsKept all) u.pairs) ts) → AllByRecursion (λ u. AllByRecursion (IsKept all) u.pairs) (t ∷ ts)
      step true e k rest = (
        all_sought all t.pairs (λ p i. k p (list_any-append _ t.pairs _ ∙ or_left _ _ i)),
        rest (λ p i. k p (list_any-append _ t.pairs _ ∙ or_right (list_any (eq_by_cmp count_cmp p) t.pairs) _ i)),
      )
      step false e k rest = (all_found all t.pairs (h.0 e), rest k)

-- A report by what is found is that of the definitions.

-- ---- numbers

-- exactly the slices that aren't found are lost
abbrev AreLost : (Pair → Option (List ℕ)) → (Pair → Bool) → List Pair → Type 0
AreLost f is_lost pairs = AllByRecursion (λ pair. is_lost pair ≡ is_none (f pair)) pairs

numbered : (f : Pair → Option (List ℕ)) (is_lost : Pair → Bool) (n : ℕ) (pairs : List Pair) → AreLost f is_lost pairs → numbers_of_lost n is_lost pairs ≡ map (λ z. z.0) (filter (λ z. is_none z.1) (enumerate_from n (map f pairs)))
numbered f is_lost n [] h = refl
numbered f is_lost n (pair ∷ pairs) h = let here = h.0 in grind (arith, numbered f is_lost (n + 1) pairs h.1)

found_count : (f : Pair → Option (List ℕ)) (is_lost : Pair → Bool) (pairs : List Pair) → AreLost f is_lost pairs → length (filter (λ pair. not (is_lost pair)) pairs) ≡ length (filter (λ slice. is_some slice) (map f pairs))
found_count f is_lost [] h = refl
found_count f is_lost (pair ∷ pairs) h = let here = h.0 in grind (arith, found_count f is_lost pairs h.1)

-- ---- target by target

-- the slices of a target are searched for: it is incomplete and has no match
abbrev pub is_sought : Folder → ParSet → List (List ℕ) → Target → Bool
is_sought folder set searched t = is_among (names_without_match (matches folder set searched)) t.name

found_there : (ms : List (Target × Option (List ℕ))) (q : List ℕ) → is_some (find (λ m. bytes_eq m.0.name q) ms) ≡ is_among (map (λ m. m.0.name) ms) q
found_there [] q = refl
found_there (m ∷ ms) q = grind (arith, same_either_way m.0.name q, found_there ms q)

others : (ts : List Target) (name : List ℕ) → is_among (map (λ t. t.name) ts) name ≡ false → AllByRecursion (λ t. bytes_eq t.name name ≡ false) ts
others [] name h = tt
others (t ∷ ts) name h = let r = or_parts (bytes_eq name t.name) _ h in (same_either_way t.name name ∙ r.0, others ts name r.1)

-- the name of a target is among those that pass a test exactly if the target passes
passing : (p : Target → Bool) (ts : List Target) → AreDistinct (map (λ t. t.name) ts) → AllByRecursion (λ t. is_among (map (λ u. u.name) (filter p ts)) t.name ≡ p t) ts
passing p [] d = tt
passing p (t ∷ ts) d = (first (p t), all-both _ _ _ (λ u out is. later (p t) u out ∙ is) ts (others ts t.name d.0) (passing p ts d.1))
  where
    rest : List Target
    rest = filter p ts

    first : (b : Bool) → is_among (map (λ u. u.name) (cond b (t ∷ rest) rest)) t.name ≡ b
    first true = ap (λ b. b || is_among (map (λ u. u.name) rest) t.name) (itself t.name)
    first false = false_from_ne_true _ (λ h. clash (among_some (λ u. u.name) p ts t.name h) d.0)

    later : (b : Bool) (u : Target) → bytes_eq u.name t.name ≡ false → is_among (map (λ v. v.name) (cond b (t ∷ rest) rest)) u.name ≡ is_among (map (λ v. v.name) rest) u.name
    later true u out = ap (λ b. b || is_among (map (λ v. v.name) rest) u.name) out
    later false u out = refl

state_is : (there : Bool) (o : Option (Target × Option (List ℕ))) (b : Bool) → is_some o ≡ b → option_map_or (incomplete_state there) (option_map (λ m. m.1) o) Complete ≡ cond b (incomplete_state there (option_and_then (λ m. m.1) o)) Complete
state_is there o b e = grind arith

module _ (folder : Folder) (set : ParSet) (searched : List (List ℕ)) (tree : BTreeMap (List ℕ) (Option (List ℕ))) (held : HoldsMatches (matches folder set searched) tree) where
  states : AreDistinct (map (λ t. t.name) set.targets) → AllByRecursion (λ t. option_map_or (incomplete_state (has folder t.name)) (get (slice_cmp nat_cmp) tree t.name) Complete ≡ state_of folder set searched t) set.targets
  unfolding state_of
  states d = all_weaker _ _ (λ t is.
      ap (λ o. option_map_or (incomplete_state (has folder t.name)) o Complete) (held t.name)
      ∙ state_is (has folder t.name) (find (λ m. bytes_eq m.0.name t.name) (matches folder set searched)) (is_incomplete folder set t)
      (found_there (matches folder set searched) t.name ∙ ap (λ ns. is_among ns t.name) (sym (names_in_pairs folder set searched)) ∙ is))
      set.targets (passing (is_incomplete folder set) set.targets d)

  said_so : (f : Pair → Option (List ℕ)) (is_lost : Pair → Bool) (ts : List Target) → AllByRecursion (λ t. option_map_or (incomplete_state (has folder t.name)) (get (slice_cmp nat_cmp) tree t.name) Complete ≡ state_of folder set searched t) ts
      → AllByRecursion (λ t. AreLost f is_lost t.pairs) ts → map (said_of folder tree is_lost) ts ≡ map (λ t. report_of_target folder set searched (t, map f t.pairs)) ts
  unfolding report_of_target
  said_so f is_lost [] states lost = refl
  said_so f is_lost (t ∷ ts) states lost =
      ap₂ (λ (x : TargetReport) (xs : List TargetReport). x ∷ xs)
      (let found = found_count f is_lost t.pairs lost.0 in let total : length t.pairs ≡ length (map f t.pairs) = sym (length-map t.pairs f) in let state = states.0 in cc)
      (said_so f is_lost ts states.1 lost.1)

module _ (folder : Folder) (base : List ℕ) (extras : List (List ℕ)) where
  pub refused_in : (fault : Fault) → set_in folder base extras ≡ Err fault → report_in folder base extras ≡ Err fault
  unfolding report_in
  refused_in fault e = rw e refl

  module _ (set : ParSet) (reads : set_in folder base extras ≡ Ok set) where
    abbrev names : List (List ℕ)
    names = candidates folder set extras

    accepted_in : report_in folder base extras ≡ Ok (report_of folder set names)
    unfolding report_in
    accepted_in = rw reads refl

    -- the names of the incomplete targets are distinct
    pub once : IsDistinct bytes_eq (map (λ m. m.0.name) (matches folder set names))
    once =
        let sound = sound_of folder base set (set_in_reads folder base extras set reads).0 in
        subst (IsDistinct bytes_eq) (names_in_pairs folder set names) (std_from_distinct _ (distinct_some (λ (t : Target). t.name) (is_incomplete folder set) set.targets (distinct_from_std _ sound.names_once)))

    abbrev finder : Pair → Option (List ℕ)
    finder = found set.slice_size (map (bytes_of folder) names)

    -- the report by the matches, and by the lost slices among those that are searched for
    module _ (tree : BTreeMap (List ℕ) (Option (List ℕ))) (is_lost : Pair → Bool) (held : HoldsMatches (matches folder set names) tree)
        (lost_are : (pair : Pair) → is_lost pair ≡ list_any (eq_by_cmp count_cmp pair) (filter (λ p. is_none (finder p)) (pairs_sought (is_sought folder set names) set.targets))) where
      are_lost : AllByRecursion (λ t. AreLost finder is_lost t.pairs) set.targets
      are_lost =
          let sound = sound_of folder base set (set_in_reads folder base extras set reads).0 in
          all_weaker _ _ (λ t h. all_weaker _ _ (λ pair e. lost_are pair ∙ e) t.pairs h) set.targets
          (lost_exactly finder (is_sought folder set names) (pairs_sought (is_sought folder set names) set.targets) set.targets (λ pair h. h)
          (targets_found folder set names (size_positive set.slice_size sound.size) (sized_from_counted set.slice_size set.targets sound.pairs) (present_searched folder set extras)))

      -- the report has these parts
      pub answered : (id : List ℕ) (reports : List TargetReport) (numbers : List ℕ) (n count : ℕ) → id ≡ set.id → reports ≡ map (said_of folder tree is_lost) set.targets → numbers ≡ numbers_of_lost 0 is_lost (all_pairs set)
          → n ≡ length numbers → count ≡ rank numbers (survivors set) → report_in folder base extras ≡ Ok (record { set_id = id; targets = reports; lost = n; rank = count })
      unfolding report_of known
      answered id reports numbers n count own said lost_ones long is_rank =
          let sound = sound_of folder base set (set_in_reads folder base extras set reads).0 in
          let reported : reports ≡ (report_of folder set names).targets =
          said ∙ said_so folder set names tree held finder is_lost set.targets (states folder set names tree held (distinct_from_std _ sound.names_once)) are_lost ∙ sym (by_target folder set names) in
          let missing : numbers ≡ lost (known folder set names) = lost_ones ∙ numbered finder is_lost 0 (all_pairs set) (all-flat_map _ _ (λ (t : Target). t.pairs) (λ t h. h) set.targets are_lost) in
          let report = λ (id : List ℕ) (reports : List TargetReport) (n count : ℕ). let r : Report = record { set_id = id; targets = reports; lost = n; rank = count } in r in
          accepted_in ∙ ap Ok (sym (ap₂ (λ (id : List ℕ) n. report id reports n count) own long ∙ ap (report set.id reports (length numbers)) is_rank
          ∙ ap₂ (λ (rs : List TargetReport) (ns : List ℕ). report set.id rs (length ns) (rank ns (survivors set))) reported missing))
