-- The printed values, in the terms of par2_spec.
use Rattle.std.specs.Prelude.{ℕ, List, [], Option, ◌<◌, Result}
use Rattle.par2_spec.specs.Prelude.{Bor, option_map_or, Action, Do, words_of, State, TargetReport, Complete, Misplaced, Damaged, Missing, Step, Writes, Replaces, Renames, Removes, line, command_of}
use Rattle.std.specs.Io.KnownBytes.{Appends}
use Rattle.par2_spec.specs.declared.commands.Command.{Command}
use Rattle.par2_output.specs.declared.report.PrintedState.{PrintedState}
use Rattle.par2_output.specs.declared.report.PrintedTarget.{PrintedTarget}
use Rattle.par2_output.specs.declared.report.PrintedStep.{PrintedStep}
use Rattle.par2_output.specs.declared.printer.Printer.{Printer}
use Rattle.par2_output.specs.declared.report.PrintedState.TheVariants as state
use Rattle.par2_output.specs.declared.report.PrintedStep.TheVariants as step
use Rattle.par2_spec.specs.Writing as writing

-- a printed step as a step of the definitions
abbrev pub step_shown : PrintedStep → Step
step_shown (step.Write name) = Writes name.now
step_shown (step.Replace name) = Replaces name.now
step_shown (step.Rename from to) = Renames from.now to.now
step_shown (step.Remove name) = Removes name.now

-- the printed state of a target as a state of the definitions
abbrev pub state_shown : PrintedState → State
state_shown state.Complete = Complete
state_shown (state.Misplaced name) = Misplaced name.now
state_shown state.Damaged = Damaged
state_shown state.Missing = Missing

-- a printed target as a target of the definitions
abbrev pub target_shown : PrintedTarget → TargetReport
target_shown t = record { name = t.name.now; state = state_shown t.state; found = t.found; total = t.total }

-- the names of an action, which a failure's line may end with: the base first. An undo and a redo have none
abbrev pub words_requested : Action → List (List ℕ)
words_requested (Do command) = words_of command
words_requested action = []

-- the names of the command that was read, if one was
abbrev pub words_given : Option (Bor Command) → List (List ℕ)
words_given command = option_map_or (λ given. words_requested (command_of given.now)) command []

-- a printer as the definitions see it: the bytes that its writer has taken, and the number of failures
abbrev pub seen : {W : Type 0} → (W → Option (List ℕ)) → Printer W → writing.Writer
seen contents printer = record { taken = contents printer.writer; failures = printer.failures.count }

-- the writer took all bytes and has not failed
abbrev pub PrinterTookAll : {W : Type 0} → (W → Option (List ℕ)) → Printer W → Printer W → List ℕ → Type 0
PrinterTookAll contents old new bytes = writing.TookAll (seen contents old) (seen contents new) bytes

-- the writer took all bytes but failed to pass them on
abbrev pub TookInVain : {W : Type 0} → (W → Option (List ℕ)) → Printer W → Printer W → List ℕ → Type 0
TookInVain contents old new bytes = Appends (contents old.writer) (contents new.writer) bytes × (old.failures.count < new.failures.count)

-- a call that writes these bytes: the writer took all and did not fail, or it failed and took a proper prefix
abbrev pub PrinterWrote : {W T E : Type 0} → (W → Option (List ℕ)) → Printer W → Printer W → List ℕ → Result T E → Type 0
PrinterWrote contents old new bytes r = writing.Wrote (seen contents old) (seen contents new) bytes r

-- a call that writes these bytes as a line
abbrev pub Prints : {W T E : Type 0} → (W → Option (List ℕ)) → Printer W → Printer W → List ℕ → Result T E → Type 0
Prints contents old new bytes r = PrinterWrote contents old new (line bytes) r
