-- Values of the program as values of the definitions, without the capacity of their collections.
use Rattle.std.specs.Prelude.{map, string_bytes}
use Rattle.par2_spec.specs.Commands as arguments
use Rattle.par2_spec.specs.declared.commands.CreateArgs.{CreateArgs}
use Rattle.par2_spec.specs.declared.commands.Action.{Action}
use Rattle.par2_spec.specs.declared.commands.Action.TheVariants.{Create, Repair, Purge, Undo, Redo}
use Rattle.par2_spec.specs.declared.commands.Command.{Command}
use Rattle.par2_spec.specs.declared.commands.Command.TheVariants.{Verify, Act}

-- the arguments of a create
abbrev pub create_args_of : CreateArgs → arguments.CreateArgs
create_args_of a = record {
  base = string_bytes a.base;
  slice = a.slice;
  count = a.count;
  first = a.first;
  overwrite = a.overwrite;
  inputs = map string_bytes a.inputs.items;
}

-- an action of the program
abbrev pub action_of : Action → arguments.Action
action_of (Create a) = arguments.Do (arguments.Create (create_args_of a))
action_of (Repair base extras purge) = arguments.Do (arguments.Repair (string_bytes base) (map string_bytes extras.items) purge)
action_of (Purge base) = arguments.Do (arguments.Purge (string_bytes base))
action_of Undo = arguments.Undo
action_of Redo = arguments.Redo

-- a command of the program, as an action of the definitions
abbrev pub command_of : Command → arguments.Action
command_of (Verify base extras) = arguments.Do (arguments.Verify (string_bytes base) (map string_bytes extras.items))
command_of (Act action) = action_of action
