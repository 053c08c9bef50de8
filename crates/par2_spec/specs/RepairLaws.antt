-- The result of a repair: the folder that it leaves, or a fault.
use Rattle.std.specs.Prelude.{◌≡◌, ◌≢◌, ◌⊎◌, ℕ, Bool, false, IsTrue, List, Some, None, Result, Ok, Err, IfErr, IfOk}
use Rattle.std.specs.List.{AllByRecursion}
use Rattle.std.specs.FinMap as map_of
use Rattle.par2_spec.specs.Commands.{Command, CreateArgs, Repair}
use Rattle.par2_spec.specs.Folders.{Folder, File}
use Rattle.par2_spec.specs.Rank.{AnotherAgrees, TwoAgree}
use Rattle.par2_spec.specs.Plans.{AreFewFor}
use Rattle.par2_spec.specs.Refusals.{set_in, refusal, after}
use Rattle.par2_spec.specs.Repairs.{HoldsRepaired, kept_recovery}
use Rattle.par2_spec.specs.Search.{candidates, known}
use Rattle.par2_spec.specs.Sets.{ParSet}
use Rattle.par2_spec.specs.Volumes.{all_slices}
use Rattle.par2_spec.specs.declared.Fault.{Fault}
use Rattle.par2_spec.specs.declared.Fault.TheVariants.{Memory, NotRepairable, RepairFailed}
use Rattle.par2_spec.specs.Damage.{FollowsCreate, HaveAChoice, may_refuse}
use Rattle.par2_spec.specs.Premises.{HoldsBytes, IsTrueTo}

-- the result of a call, as the folder that it leaves
abbrev pub folder_left : {A : Type 0} → (A → Folder) → Result A Fault → Result Folder Fault
folder_left left (Ok x) = Ok (left x)
folder_left left (Err fault) = Err fault

-- the repair is accepted, and the new folder is the one after it
pub record IsRepaired (old new : Folder) (command : Command) : Type 0 where
  pub accepted : refusal old command ≡ None
  pub left : new ≡ after old command

-- the result of a repair, a folder or a fault, is that of the definitions, or memory ran out
pub record AnswersRepair (folder : Folder) (base : List ℕ) (extras : List (List ℕ)) (purge : Bool) (answer : Result Folder Fault) : Type 0 where
  pub left : IfOk answer (λ left. IsRepaired folder left (Repair base extras purge))
  pub refused : IfErr answer (λ fault. (fault ≡ Memory) ⊎ (refusal folder (Repair base extras purge) ≡ Some fault))

-- ---- a set that was made from known files, if no checksum collides

-- the folder has each of these files, with its bytes
abbrev pub HasFiles : List File → Folder → Type 0
HasFiles originals folder = AllByRecursion (λ file. map_of.get folder file.0 ≡ Some file.1) originals

-- slices other than the files' also agree with everything that is found
abbrev pub OthersAgree : (folder : Folder) (base : List ℕ) (extras : List (List ℕ)) (originals : List File) (s : ℕ) → IsTrueTo folder base extras originals s → Type 0
OthersAgree folder base extras originals s original =
    let set = original.made.set in
    AnotherAgrees s (known folder set (candidates folder set extras)) (map_of.entries set.recovery) (all_slices s originals)

-- a repair leaves the files, also one that purges
abbrev pub AcceptedRepairLeavesTheFiles : Type 0
AcceptedRepairLeavesTheFiles =
    (folder : Folder) (base : List ℕ) (extras : List (List ℕ)) (purge : Bool) (files : List File) (s : ℕ)
    → IsTrueTo folder base extras files s → refusal folder (Repair base extras purge) ≡ None
    → HasFiles files (after folder (Repair base extras purge))

-- no rebuilt file has a wrong MD5
abbrev pub RepairNeverFails : Type 0
RepairNeverFails =
    (folder : Folder) (base : List ℕ) (extras : List (List ℕ)) (purge : Bool) (files : List File) (s : ℕ)
    → IsTrueTo folder base extras files s → refusal folder (Repair base extras purge) ≢ Some RepairFailed

-- a repair is refused as not repairable only if other slices also agree
abbrev pub RefusedRepairLeavesAChoice : Type 0
RefusedRepairLeavesAChoice =
    (folder : Folder) (base : List ℕ) (extras : List (List ℕ)) (purge : Bool) (files : List File) (s missing rank : ℕ)
    (original : IsTrueTo folder base extras files s) → refusal folder (Repair base extras purge) ≡ Some (NotRepairable missing rank)
    → OthersAgree folder base extras files s original

-- with this result a repair restores the files that its set was made from
pub record RestoresFiles (folder : Folder) (base : List ℕ) (extras : List (List ℕ)) (answer : Result Folder Fault) : Type 0 where
  -- an accepted repair leaves each of the files
  pub restored : (originals : List File) (s : ℕ) → IsTrueTo folder base extras originals s → IfOk answer (HasFiles originals)
  -- no rebuilt file has a wrong MD5
  pub right : (originals : List File) (s : ℕ) → IsTrueTo folder base extras originals s → IfErr answer (λ fault. fault ≢ RepairFailed)
  -- a repair is refused as not repairable only if other slices also agree
  pub undetermined : (originals : List File) (s missing rank : ℕ) (original : IsTrueTo folder base extras originals s) → IfErr answer (λ fault. fault ≡ NotRepairable missing rank → OthersAgree folder base extras originals s original)

-- a repair with the result of the definitions restores the files
abbrev pub RepairRestoresTheFiles : Type 0
RepairRestoresTheFiles =
    (folder : Folder) (base : List ℕ) (extras : List (List ℕ)) (purge : Bool) (answer : Result Folder Fault)
    → AnswersRepair folder base extras purge answer → RestoresFiles folder base extras answer

-- ---- a folder that was damaged after a create

-- each of these files is as it was
abbrev pub KeepsFiles : List (List ℕ) → Folder → Folder → Type 0
KeepsFiles names before folder = AllByRecursion (λ name. map_of.get folder name ≡ map_of.get before name) names

-- an accepted repair leaves each input as it was at the create, also one that purges
abbrev pub RepairGivesTheCreatedFilesBack : Type 0
RepairGivesTheCreatedFilesBack =
    (before damaged : Folder) (a : CreateArgs) (base : List ℕ) (extras : List (List ℕ)) (purge : Bool)
    → FollowsCreate before damaged a base extras → refusal damaged (Repair base extras purge) ≡ None
    → KeepsFiles a.inputs before (after damaged (Repair base extras purge))

-- a repair is refused for few causes
abbrev pub CreatedFilesMayBeRefused : Type 0
CreatedFilesMayBeRefused =
    (before damaged : Folder) (a : CreateArgs) (base : List ℕ) (extras : List (List ℕ)) (purge : Bool) (fault : Fault)
    → FollowsCreate before damaged a base extras → refusal damaged (Repair base extras purge) ≡ Some fault → IsTrue (may_refuse fault)

-- a repair is refused as not repairable only if other slices also agree
abbrev pub CreatedFilesHaveAChoice : Type 0
CreatedFilesHaveAChoice =
    (before damaged : Folder) (a : CreateArgs) (base : List ℕ) (extras : List (List ℕ)) (purge : Bool) (missing rank : ℕ)
    → FollowsCreate before damaged a base extras → refusal damaged (Repair base extras purge) ≡ Some (NotRepairable missing rank)
    → HaveAChoice before damaged a base extras

-- with this result a repair restores the inputs of a create
pub record RestoresInputs (folder : Folder) (base : List ℕ) (extras : List (List ℕ)) (answer : Result Folder Fault) : Type 0 where
  -- an accepted repair leaves each input as it was
  pub restored : (before : Folder) (a : CreateArgs) → FollowsCreate before folder a base extras → IfOk answer (KeepsFiles a.inputs before)
  -- the set can be read, and no rebuilt file has a wrong MD5
  pub right : (before : Folder) (a : CreateArgs) → FollowsCreate before folder a base extras → IfErr answer (λ fault. (fault ≡ Memory) ⊎ IsTrue (may_refuse fault))
  -- a repair is refused as not repairable only if other slices also agree
  pub undetermined : (before : Folder) (a : CreateArgs) (missing rank : ℕ) → FollowsCreate before folder a base extras → IfErr answer (λ fault. fault ≡ NotRepairable missing rank → HaveAChoice before folder a base extras)

-- a repair with the result of the definitions restores the inputs of a create
abbrev pub RepairRestoresTheInputs : Type 0
RepairRestoresTheInputs =
    (folder : Folder) (base : List ℕ) (extras : List (List ℕ)) (purge : Bool) (answer : Result Folder Fault)
    → AnswersRepair folder base extras purge answer → RestoresInputs folder base extras answer

-- ---- any set

-- a repair that doesn't purge leaves this folder, file by file: targets and asides, and all others as they were
abbrev pub LeavesEachFile : Folder → List ℕ → List (List ℕ) → Folder → Type 0
LeavesEachFile folder base extras left = (set : ParSet) → set_in folder base extras ≡ Ok set → HoldsRepaired folder set (candidates folder set extras) left

-- an accepted repair that doesn't purge leaves each file as `HoldsRepaired` says
abbrev pub RepairLeavesEachFile : Type 0
RepairLeavesEachFile =
    (folder left : Folder) (base : List ℕ) (extras : List (List ℕ)) → IsRepaired folder left (Repair base extras false)
    → AreFewFor folder (Repair base extras false) → LeavesEachFile folder base extras left

-- if a repair is refused as not repairable, two lists of slices agree with the known slices and with the recovery slices
-- of the kept exponents
abbrev pub RefusedRepairLeavesTwoLists : Type 0
RefusedRepairLeavesTwoLists =
    (folder : Folder) (base : List ℕ) (extras : List (List ℕ)) (purge : Bool) (set : ParSet) (missing rank : ℕ)
    → HoldsBytes folder → set_in folder base extras ≡ Ok set → refusal folder (Repair base extras purge) ≡ Some (NotRepairable missing rank)
    → let slices = known folder set (candidates folder set extras) in TwoAgree set.slice_size slices (kept_recovery set slices)
