-- Results of calls that perform or plan a command.
use Rattle.std.specs.Prelude.{◌≡◌, ◌⊎◌, ℕ, Bool, List, map, None, Some, Result, Err, String, IfErr, IfOk, OnOk, IsErrOf, string_bytes}
use Rattle.par2_spec.specs.Answers.{FailsFor}
use Rattle.par2_spec.specs.Changes.{Change, effects}
use Rattle.par2_spec.specs.Commands.{Command, Repair, Verify}
use Rattle.par2_spec.specs.Folders.{Folder}
use Rattle.par2_spec.specs.Plans.{changes_of}
use Rattle.par2_spec.specs.Refusals.{early_refusal, refusal, after}
use Rattle.par2_spec.specs.declared.Fault.{Fault}
use Rattle.par2_spec.specs.declared.Fault.TheVariants.{Memory}

-- a call that fails reports the refusal of the definitions, or that memory ran out
abbrev pub FailsAs : {A : Type 0} → Folder → Command → Result A Fault → Type 0
FailsAs folder command result = FailsFor (refusal folder command) result

-- the definitions don't refuse a command that succeeds
abbrev pub SucceedsAs : {A : Type 0} → Folder → Command → Result A Fault → Type 0
SucceedsAs folder command result = OnOk result (refusal folder command ≡ None)

-- an early refusal is returned as itself, and not as a lack of memory
abbrev pub RefusesEarly : {A : Type 0} → Folder → Command → Result A Fault → Type 0
RefusesEarly folder command result = (fault : Fault) → early_refusal folder command ≡ Some fault → IsErrOf result fault

-- the returned changes are those of the definitions
abbrev pub GivesChanges : Folder → Command → Result (List Change) Fault → Type 0
GivesChanges folder command result = IfOk result (λ changes. changes ≡ changes_of folder command)

-- the returned changes lead to the folder of the definitions
abbrev pub LeadsAs : Folder → Command → Result (List Change) Fault → Type 0
LeadsAs folder command result = IfOk result (λ changes. effects folder changes ≡ after folder command)

-- a call that fails reports the fault of this result, or that memory ran out
abbrev pub FailsIn : {A B : Type 0} → Result B Fault → Result A Fault → Type 0
FailsIn answer result = IfErr result (λ fault. (fault ≡ Memory) ⊎ (answer ≡ Err fault))

-- the verify with these arguments
abbrev pub verify_of : {Z : Type 0} → List ℕ → List (String Z) → Command
verify_of base extras = Verify base (map string_bytes extras)

-- the repair with these arguments
abbrev pub repair_of : {Z : Type 0} → List ℕ → List (String Z) → Bool → Command
repair_of base extras purge = Repair base (map string_bytes extras) purge
