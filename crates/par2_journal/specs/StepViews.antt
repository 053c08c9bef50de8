-- Steps of this crate in the words of the definitions.
use Rattle.par2_spec.specs.Output as defined
use Rattle.par2_journal.specs.declared.commands.Step.{Step}
use Rattle.par2_journal.specs.declared.commands.Step.TheVariants.{Write, Replace, Rename, Remove}

-- the step of the definitions
abbrev pub step_view : Step → defined.Step
step_view (Write name) = defined.Writes name
step_view (Replace name) = defined.Replaces name
step_view (Rename from to) = defined.Renames from to
step_view (Remove name) = defined.Removes name
