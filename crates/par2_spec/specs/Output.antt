-- The output and the exit status of the program.
use Rattle.std.specs.Prelude.{ℕ, zero, suc, Bool, List, [], ◌∷◌, ◌++◌, length, flat_map, decimal, codes, if◌then◌else◌}
use Rattle.hex.specs.Hex.{encode_lower}
use Rattle.par2_spec.specs.Changes.{Change, Write, Replace, Rename, Remove}
use Rattle.par2_spec.specs.Reports.{Report, TargetReport, State, Complete, Misplaced, Damaged, Missing, verdict_of}
use Rattle.par2_spec.specs.declared.Verdict.{Verdict}
use Rattle.par2_spec.specs.declared.Verdict.TheVariants as verdict
use Rattle.par2_spec.specs.declared.Fault.{Fault}
use Rattle.par2_spec.specs.declared.Fault.TheVariants as fault
use Rattle.par2_spec.specs.declared.Failure.{Failure}
use Rattle.par2_spec.specs.declared.Failure.TheVariants as failure

-- a change without its bytes
pub data Step : Type 0 where
  Writes : List ℕ → Step
  Replaces : List ℕ → Step
  Renames : List ℕ → List ℕ → Step
  Removes : List ℕ → Step

-- the step of a change
abbrev pub step_of : Change → Step
step_of (Write name bytes) = Writes name
step_of (Replace name bytes) = Replaces name
step_of (Rename from to) = Renames from to
step_of (Remove name) = Removes name

-- the outcome of an accepted command: a verify returns a report, any other command the changes that it made
pub data Outcome : Type 0 where
  Reported : Report → Outcome
  Done : List Step → Outcome

-- ---- lines of output

-- the bytes and a newline
abbrev pub line : List ℕ → List ℕ
line bytes = bytes ++ codes "\n"

-- the line of a step
abbrev pub step_line : Step → List ℕ
step_line (Writes name) = line (codes "write " ++ name)
step_line (Replaces name) = line (codes "replace " ++ name)
step_line (Renames from to) = line (codes "rename " ++ from ++ codes " to " ++ to)
step_line (Removes name) = line (codes "remove " ++ name)

-- the lines of the steps, then their number
abbrev pub done_lines : List Step → List ℕ
done_lines steps = flat_map step_line steps ++ line (codes "done: " ++ decimal (length steps))

-- the note that the folder's history was dropped, printed first
abbrev pub note_line : Bool → List ℕ
note_line dropped = if dropped then line (codes "note: history dropped") else []

-- the number of found slices out of all
abbrev pub of_all : TargetReport → List ℕ
of_all t = decimal t.found ++ codes "/" ++ decimal t.total

-- the state of a target
abbrev pub state_words : TargetReport → State → List ℕ
state_words t Complete = codes "complete " ++ t.name
state_words t (Misplaced name) = codes "misplaced " ++ t.name ++ codes " as " ++ name
state_words t Damaged = codes "damaged " ++ t.name ++ codes " " ++ of_all t
state_words t Missing = codes "missing " ++ t.name ++ codes " " ++ of_all t

-- the line of a target
abbrev pub target_line : TargetReport → List ℕ
target_line t = line (state_words t t.state)

-- the number of lost slices, and the rank
abbrev pub lost_line : ℕ → ℕ → List ℕ
lost_line lost rank = codes "lost " ++ decimal lost ++ codes ", rank " ++ decimal rank

-- the verdict, with the numbers of the report
abbrev pub verdict_words : Report → Verdict → List ℕ
verdict_words r verdict.Complete = codes "complete"
verdict_words r verdict.Repairable = codes "repairable, " ++ lost_line r.lost r.rank
verdict_words r verdict.NotRepairable = codes "not repairable, " ++ lost_line r.lost r.rank

-- the lines of a report: the Recovery Set ID, the targets, the verdict
unfoldable pub report_lines : Report → List ℕ
report_lines r =
    line (codes "set " ++ encode_lower r.set_id) ++ flat_map target_line r.targets
    ++ line (codes "result: " ++ verdict_words r (verdict_of r))

-- the output of an outcome; a verify prints no note
unfoldable pub output_of : Bool → Outcome → List ℕ
unfolding report_lines
output_of dropped (Reported report) = report_lines report
output_of dropped (Done steps) = note_line dropped ++ done_lines steps

-- ---- error messages

-- the name at a place, as it was given: place 0 is the base, place k the k-th further name
abbrev pub word_at : List (List ℕ) → ℕ → List ℕ
word_at [] place = []
word_at (word ∷ words) zero = word
word_at (word ∷ words) (suc place) = word_at words place

-- the message of a fault, without the name or numbers that complete it
unfoldable pub fault_reason : Fault → List ℕ
fault_reason fault.BadSliceSize = codes "block size must be a multiple of 4 from 4 to 1073741824"
fault_reason fault.BadCount = codes "block numbers must stay below 65536"
fault_reason fault.BadBase = codes "the base must be a file name that ends in .par2"
fault_reason fault.NoInput = codes "no input files"
fault_reason (fault.BadName place) = codes "bad input name: "
fault_reason (fault.DuplicateInput place) = codes "input named twice: "
fault_reason (fault.NoSuchFile place) = codes "no such file: "
fault_reason (fault.EmptyFile place) = codes "empty input: "
fault_reason fault.TooManySlices = codes "more than 32768 blocks"
fault_reason fault.DuplicateId = codes "two inputs have one file id"
fault_reason fault.NameTooLong = codes "a file name would be longer than 255 bytes"
fault_reason fault.Exists = codes "an output file exists"
fault_reason fault.NoPackets = codes "no packets in the base"
fault_reason fault.NoMain = codes "no main packet"
fault_reason fault.NoDescription = codes "a file description is missing"
fault_reason fault.NoChecksums = codes "block checksums are missing"
fault_reason fault.BadSet = codes "the set is not in this profile"
fault_reason (fault.NotRepairable missing rank) = codes "not repairable, "
fault_reason fault.RepairFailed = codes "a rebuilt file has another digest"
fault_reason fault.NotComplete = codes "the files are not complete"
fault_reason fault.Memory = codes "out of memory"

-- the name or numbers that complete the message of a fault
unfoldable pub fault_subject : List (List ℕ) → Fault → List ℕ
fault_subject words (fault.BadName place) = word_at words place
fault_subject words (fault.DuplicateInput place) = word_at words place
fault_subject words (fault.NoSuchFile place) = word_at words place
fault_subject words (fault.EmptyFile place) = word_at words place
fault_subject words (fault.NotRepairable missing rank) = lost_line missing rank
fault_subject words other = []

-- the message of a refused command with these names
unfoldable pub fault_line : List (List ℕ) → Fault → List ℕ
unfolding fault_reason fault_subject
fault_line words reason = fault_reason reason ++ fault_subject words reason

-- the usage line
abbrev pub usage : List ℕ
usage = codes "usage: par2 create -sN -cN [-fN] [--overwrite] BASE.par2 FILE.. | verify BASE [FILE..] | repair [-p] BASE [FILE..] | purge BASE | undo | redo"

-- the message of a failed run
unfoldable pub failure_line : List (List ℕ) → Failure → List ℕ
unfolding fault_line
failure_line words (failure.Refused reason) = fault_line words reason
failure_line words failure.Store = codes "a file could not be read or written"
failure_line words failure.Arguments = usage
failure_line words failure.JournalInvalid = codes "the journal is not valid"
failure_line words failure.FolderChanged = codes "the folder is not as the journal left it"
failure_line words failure.NothingToUndo = codes "nothing to undo"
failure_line words failure.NothingToRedo = codes "nothing to redo"

-- the error output of a failed run
unfoldable pub error_of : List (List ℕ) → Failure → List ℕ
unfolding failure_line
error_of words reason = line (codes "par2: " ++ failure_line words reason)

-- ---- exit status

-- the exit status after a refused command
unfoldable pub status_of_fault : Fault → ℕ
status_of_fault fault.NoPackets = 4
status_of_fault fault.NoMain = 4
status_of_fault fault.NoDescription = 4
status_of_fault fault.NoChecksums = 4
status_of_fault fault.BadSet = 4
status_of_fault (fault.NotRepairable missing rank) = 2
status_of_fault fault.RepairFailed = 5
status_of_fault fault.NotComplete = 1
status_of_fault fault.Memory = 8
status_of_fault other = 3

-- the exit status after a failed run
unfoldable pub status_of_failure : Failure → ℕ
unfolding status_of_fault
status_of_failure (failure.Refused reason) = status_of_fault reason
status_of_failure failure.Store = 6
status_of_failure failure.Arguments = 3
status_of_failure other = 9

-- the exit status after a verify
abbrev pub status_of_verdict : Verdict → ℕ
status_of_verdict verdict.Complete = 0
status_of_verdict verdict.Repairable = 1
status_of_verdict verdict.NotRepairable = 2

-- the exit status after an outcome
unfoldable pub status_of : Outcome → ℕ
status_of (Reported report) = status_of_verdict (verdict_of report)
status_of (Done steps) = 0
