-- The meaning of the verdict.
use Rattle.par2_spec.proofs.Common.{◌≡◌, ◌+◌, ℕ, List, [], ◌∷◌, T, length, map, refl, sym, ap, ◌∙◌, subst, Bool, true, false, not, Less, arith, ◌↔◌, ◌==◌, nat_lt, Option, Some, Result, Ok, filter, is_some, is_none, if◌then◌else◌, bytes_eq, md5, nat_cmp, is_lt, entries_sorted, is_sorted, below_all, list_all, list_any, enumerate_from, AllByRecursion, eqb-true, eq-eqb, false≢true, not-true, false_from_ne_true, IsStrictlyIncreasing-from_sorted, Fault, NotRepairable, NameTooLong, RepairFailed, then_fault, first_fault, fault_where, Folder, bytes_of, ParSet, Target, set_of, all_pairs, found, is_incomplete, incomplete, lost, survivors, candidates, known, is_repairable, IsRepairable, rank, aside, put_aside, rebuilt_targets, Repair, set_in, refusal, repair_refusal, Report, is_complete, verdict_of, IsVerdict, IsVerdictIn, RefusedAsReported, state_of, report_of_target, report_of, report_in, IsStrictlySortedBy, Ordering, ◌>>=◌, Verdict, Complete, Repairable}
use Rattle.par2_spec.specs.declared.Verdict.TheVariants as verdict
use Rattle.par2_spec.proofs.Basics.{T-parts, repairable-iff, none_kept, all_by_test, same_ok, all-map, all-flat_map}
use Rattle.par2_spec.proofs.FullRank.{full-iff}
use Rattle.par2_spec.proofs.RefusedLaws.{first_cause}
use Rattle.par2_spec.proofs.AcceptedCommands.{set_in_reads}
use Rattle.par2_spec.proofs.SearchLaws.{IsFound}
use Rattle.par2_spec.proofs.ReportLaws.{by_target, found_of, intact_are_found}

-- ---- the exponents of a map increase

below_keys : {X : Type 0} (k : ℕ) (es : List (ℕ × X)) → T (below_all nat_cmp k es) → AllByRecursion (λ y. nat_cmp k y ≡ Less) (map (λ e. e.0) es)
below_keys k [] h = tt
below_keys k (e ∷ es) h =
    let less : (o : Ordering) → T (is_lt o) → o ≡ Less = λ o t. grind arith in
    let r = T-parts _ _ h in (less (nat_cmp k e.0) r.0, below_keys k es r.1)

sorted_keys : {X : Type 0} (es : List (ℕ × X)) → T (is_sorted nat_cmp es) → IsStrictlySortedBy nat_cmp (map (λ e. e.0) es)
unfolding IsStrictlySortedBy
sorted_keys [] h = tt
sorted_keys (e ∷ es) h = let r = T-parts _ _ h in (below_keys e.0 es r.0, sorted_keys es r.1)

-- ---- complete if no target is incomplete

abbrev is_nil : {A : Type 0} → List A → Bool
is_nil [] = true
is_nil (x ∷ xs) = false

nil-iff : {A : Type 0} (xs : List A) → (is_nil xs ≡ true) ↔ (xs ≡ [])
nil-iff xs = grind arith

complete_by_target : (folder : Folder) (set : ParSet) (searched : List (List ℕ)) (ts : List Target)
    → list_all (λ r. is_complete r.state) (map (λ t. report_of_target folder set searched (t, found_of folder set searched t)) ts) ≡ is_nil (filter (is_incomplete folder set) ts)
unfolding report_of_target state_of
complete_by_target folder set searched [] = refl
complete_by_target folder set searched (t ∷ ts) = grind (arith, complete_by_target folder set searched ts)

-- ---- no slice is lost if no target is incomplete

none_lost : (n : ℕ) (slices : List (Option (List ℕ))) → AllByRecursion (λ slice. is_some slice ≡ true) slices → filter (λ z. is_none z.1) (enumerate_from n slices) ≡ []
none_lost n (Some slice ∷ slices) h = none_lost (n + 1) slices h.1
none_lost n slices h = grind arith

lost_of_complete : (folder : Folder) (base : List ℕ) (set : ParSet) (extras : List (List ℕ)) → set_of folder base ≡ Ok set → incomplete folder set ≡ [] → lost (known folder set (candidates folder set extras)) ≡ []
lost_of_complete folder base set extras reads none = unfold known in
    let searched = candidates folder set extras in
    let f = found set.slice_size (map (bytes_of folder) searched) in
    let all = all_by_test (IsFound folder set.slice_size searched) (is_incomplete folder set) set.targets (intact_are_found folder base set extras reads) (subst (AllByRecursion (IsFound folder set.slice_size searched)) (sym none) tt) in
    ap (map (λ z. z.0)) (none_lost 0 (map f (all_pairs set)) (all-map (λ pair. is_some (f pair) ≡ true) (λ slice. is_some slice ≡ true) f (λ pair h. h) (all_pairs set)
    (all-flat_map (IsFound folder set.slice_size searched) (λ pair. is_some (f pair) ≡ true) (λ t. t.pairs) (λ t h. h) set.targets all)))

-- ---- the verdict by its two tests

said : Bool → Bool → Verdict
said a b = if a then verdict.Complete else if b then verdict.Repairable else verdict.NotRepairable

said-repairable : (b : Bool) → (said false b ≡ verdict.Repairable) ↔ (b ≡ true)
unfolding said
said-repairable true = (λ e. refl, λ e. refl)
said-repairable false = (λ e. cc, λ e. absurd (false≢true e))

said-not_repairable : (a b : Bool) → (said a b ≡ verdict.NotRepairable) ↔ ((a ≡ false) × (b ≡ false))
said-not_repairable a b = unfold said in grind arith

module _ (folder : Folder) (base : List ℕ) (extras : List (List ℕ)) (set : ParSet) (reads : set_in folder base extras ≡ Ok set) where
  abbrev searched : List (List ℕ)
  searched = candidates folder set extras

  abbrev missing : List ℕ
  missing = lost (known folder set searched)

  abbrev is_full : Bool
  is_full = rank missing (survivors set) == length missing

  verdict_is : verdict_of (report_of folder set searched) ≡ said (is_nil (incomplete folder set)) is_full
  verdict_is = unfold said report_of in ap (λ a. said a is_full) (ap (list_all (λ r. is_complete r.state)) (by_target folder set searched) ∙ complete_by_target folder set searched set.targets)

  repairable_if_full : (is_full ≡ true) ↔ IsRepairable missing (survivors set)
  repairable_if_full = grind (arith, full-iff, IsStrictlyIncreasing-from_sorted, sorted_keys, entries_sorted, eqb-true, eq-eqb)

  by_words : IsVerdict folder set searched (verdict_of (report_of folder set searched))
  by_words = unfold said in grind (arith, verdict_is, nil-iff, said-repairable, false_from_ne_true, said, repairable_if_full)

  is_unrepairable : is_full ≡ false → is_repairable missing (survivors set) ≡ false
  is_unrepairable less = false_from_ne_true _ (λ yes. false≢true (sym less ∙ repairable_if_full.1 ((repairable-iff missing (survivors set)).0 yes)))

  is_less : is_repairable missing (survivors set) ≡ false → is_full ≡ false
  is_less short = false_from_ne_true _ (λ full. false≢true (sym short ∙ (repairable-iff missing (survivors set)).1 (repairable_if_full.0 full)))

  -- if no target is incomplete, the rank and the number of lost slices are both 0
  some_incomplete : is_full ≡ false → is_nil (incomplete folder set) ≡ false
  some_incomplete less = false_from_ne_true _ (λ none.
      let nothing : missing ≡ [] = lost_of_complete folder base set extras (set_in_reads folder base extras set reads).0 ((nil-iff _).0 none) in
      false≢true (sym less ∙ ap (λ xs. rank xs (survivors set) == length xs) nothing ∙ ap (λ n. n == 0) (ap length (none_kept (survivors set)))))

  -- the refusal, from three tests: whether the lost slices are determined, whether an aside is too long, and whether
  -- all MD5s are right
  refusal_by : Bool → Bool → Bool → Option Fault
  refusal_by determined long right =
      first_fault (fault_where (not determined) (NotRepairable (length missing) (rank missing (survivors set))) ∷ fault_where long NameTooLong ∷ fault_where (not right) RepairFailed ∷ [])

  abbrev is_long : Bool
  is_long = list_any (λ name. nat_lt 255 (length (aside folder set name))) (put_aside folder set)

  abbrev are_right : Bool
  are_right = list_all (λ c. bytes_eq (md5 c.1) c.0.md5) (rebuilt_targets folder set searched)

  refused : (purge : Bool) → refusal folder (Repair base extras purge) ≡ refusal_by (is_repairable missing (survivors set)) is_long are_right
  refused purge = unfold refusal repair_refusal refusal_by in ap (λ r. then_fault r (λ (set : ParSet). repair_refusal folder set (candidates folder set extras))) reads

  as_refused : RefusedAsReported folder base extras (report_of folder set searched)
  as_refused purge = unfold report_of refusal_by in grind (arith, refusal_by, said-not_repairable, refused, is_unrepairable, verdict_is, is_less, not-true, first_cause, some_incomplete)

-- ---- the verdict of a report

-- a set that is read is reported
reported_set : (P : Report → Type 0) (folder : Folder) (base : List ℕ) (extras : List (List ℕ)) (report : Report) → report_in folder base extras ≡ Ok report
    → ((set : ParSet) → set_in folder base extras ≡ Ok set → P (report_of folder set (candidates folder set extras))) → P report
unfolding report_in
reported_set P folder base extras report h holds = step (set_in folder base extras) refl h
  where
    step : (r : Result ParSet Fault) → set_in folder base extras ≡ r → (r >>= (λ set. Ok (report_of folder set (candidates folder set extras)))) ≡ Ok report → P report
    step r e k = grind arith

pub verdict_by_words : (folder : Folder) (base : List ℕ) (extras : List (List ℕ)) (report : Report) → report_in folder base extras ≡ Ok report → IsVerdictIn folder base extras (verdict_of report)
verdict_by_words folder base extras report h =
    reported_set (λ r. IsVerdictIn folder base extras (verdict_of r)) folder base extras report h (λ set reads other e.
    subst (λ s. IsVerdict folder s (candidates folder s extras) (verdict_of (report_of folder set (candidates folder set extras)))) (same_ok set other (sym reads ∙ e)) (by_words folder base extras set reads))

pub refused_as_reported : (folder : Folder) (base : List ℕ) (extras : List (List ℕ)) (report : Report) → report_in folder base extras ≡ Ok report → RefusedAsReported folder base extras report
refused_as_reported folder base extras report h = reported_set (λ r. RefusedAsReported folder base extras r) folder base extras report h (λ set reads. as_refused folder base extras set reads)
