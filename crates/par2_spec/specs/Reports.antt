-- The report of a verify.
use Rattle.std.specs.Prelude.{◌≡◌, ◌≢◌, ◌↔◌, ℕ, ◌==◌, Bool, true, false, List, [], length, map, filter, zip, Option, Some, None, Result, Ok, is_some, if◌then◌else◌}
use Rattle.std.specs.List.{list_all}
use Rattle.par2_spec.specs.Rank.{rank, IsRepairable}
use Rattle.par2_spec.specs.Folders.{Folder, has}
use Rattle.par2_spec.specs.Sets.{ParSet, Target, ◌>>=◌}
use Rattle.par2_spec.specs.Search.{is_incomplete, incomplete, matches, match_of, known, lost, survivors, candidates}
use Rattle.par2_spec.specs.Repairs.{cut_into}
use Rattle.par2_spec.specs.Refusals.{set_in, refusal}
use Rattle.par2_spec.specs.Commands.{Repair}
use Rattle.par2_spec.specs.declared.Fault.{Fault}
use Rattle.par2_spec.specs.declared.Fault.TheVariants.{NotRepairable}
use Rattle.par2_spec.specs.declared.Verdict.{Verdict}
use Rattle.par2_spec.specs.declared.Verdict.TheVariants as verdict

-- the state of a target: its file is intact; another file is intact for it; its file is damaged; its file is missing
pub data State : Type 0 where
  Complete : State
  Misplaced : List ℕ → State
  Damaged : State
  Missing : State

-- the report of a target
pub record TargetReport : Type 0 where
  pub name : List ℕ
  pub state : State
  -- how many of its slices are found, and how many it has
  pub found : ℕ
  pub total : ℕ

-- the report of a set
pub record Report : Type 0 where
  pub set_id : List ℕ
  pub targets : List TargetReport
  pub lost : ℕ
  pub rank : ℕ

-- the state of an incomplete target: by its match, or else by whether its file exists
abbrev pub incomplete_state : Bool → Option (List ℕ) → State
incomplete_state is_there (Some name) = Misplaced name
incomplete_state is_there None = if is_there then Damaged else Missing

-- the state of a target
unfoldable pub state_of : Folder → ParSet → List (List ℕ) → Target → State
unfolding matches
state_of folder set searched t =
    if is_incomplete folder set t then incomplete_state (has folder t.name) (match_of (matches folder set searched) t.name) else Complete

-- the report of a target with its slices
unfoldable pub report_of_target : Folder → ParSet → List (List ℕ) → Target × List (Option (List ℕ)) → TargetReport
unfolding state_of
report_of_target folder set searched z = record {
  name = z.0.name;
  state = state_of folder set searched z.0;
  found = length (filter (λ slice. is_some slice) z.1);
  total = length z.1;
}

-- the report of a set over the searched files
unfoldable pub report_of : Folder → ParSet → List (List ℕ) → Report
unfolding known report_of_target
report_of folder set searched =
    let slices = known folder set searched in
    record {
      set_id = set.id;
      targets = map (report_of_target folder set searched) (zip set.targets (cut_into (map (λ t. length t.pairs) set.targets) slices));
      lost = length (lost slices);
      rank = rank (lost slices) (survivors set);
    }

-- whether the state is complete
abbrev pub is_complete : State → Bool
is_complete Complete = true
is_complete state = false

-- complete if every target is; else repairable if the rank is the number of lost slices
abbrev pub verdict_of : Report → Verdict
verdict_of r =
    if list_all (λ t. is_complete t.state) r.targets then verdict.Complete
    else if r.rank == r.lost then verdict.Repairable
    else verdict.NotRepairable

-- the result of a verify: the report of the base's set over its candidates, or the first fault
unfoldable pub report_in : Folder → List ℕ → List (List ℕ) → Result Report Fault
unfolding set_in report_of
report_in folder base extras = do
  set ← set_in folder base extras
  Ok (report_of folder set (candidates folder set extras))

-- ---- the meaning of the verdict

-- complete exactly if no target is incomplete; else repairable exactly if the surviving exponents determine the lost
-- slices
pub record IsVerdict (folder : Folder) (set : ParSet) (searched : List (List ℕ)) (v : Verdict) : Type 0 where
  pub complete : (v ≡ verdict.Complete) ↔ (incomplete folder set ≡ [])
  pub repairable : incomplete folder set ≢ [] → (v ≡ verdict.Repairable) ↔ IsRepairable (lost (known folder set searched)) (survivors set)

-- the verdict on the set of a base
abbrev pub IsVerdictIn : Folder → List ℕ → List (List ℕ) → Verdict → Type 0
IsVerdictIn folder base extras v =
    (set : ParSet) → set_in folder base extras ≡ Ok set → IsVerdict folder set (candidates folder set extras) v

-- a repair is refused as not repairable exactly if that is the verdict, and with the same numbers
abbrev pub RefusedAsReported : Folder → List ℕ → List (List ℕ) → Report → Type 0
RefusedAsReported folder base extras report =
    (purge : Bool)
    → (verdict_of report ≡ verdict.NotRepairable)
    ↔ (refusal folder (Repair base extras purge) ≡ Some (NotRepairable report.lost report.rank))
