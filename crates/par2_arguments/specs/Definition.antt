-- The command line of the program, as clap's definitions see it:
--   create -sN -cN [-fN] [--overwrite] BASE FILE.. | verify BASE [FILE..] | repair [-p] BASE [FILE..] | purge BASE | undo | redo
-- An option is given once at most, also between the names, and `--` ends the options. `help` isn't a command, and `--help`
-- and `-h` end the parse with a fault, as every simple clap command does. And the action that words request.
use Rattle.std.specs.Prelude.{◌≡◌, ◌&&◌, ◌^◌, ℕ, Bool, List, [], ◌∷◌, IfOk, Option, Result, Some, None, codes, false, fold, if◌then◌else◌, map, nat_lt, option_and_then, pos, true, unwrap_or}
use Rattle.par2_spec.specs.Prelude.{option_map_or, bytes_eq, digits_value, without_leading_plus, Action, Do, Undo, Redo, Create, Verify, Repair, Purge}
use Rattle.clap.specs.Words.{App, Row, Rule, Shape, Text, all_of, app_of, fault_of, first_of, found_of, new_app, new_rule, one_of, rows_of, subcommand_of, with_rule, with_subcommand}
use Rattle.clap.specs.ValueTests.{is_numeral}
use Rattle.clap.specs.declared.builder.command.Command.{Command}
use Rattle.clap.specs.declared.builder.command.Command.TheViews.{out-Command}
use Rattle.clap.specs.declared.builder.action.ArgAction.TheVariants.{Append, Set, SetTrue}
use Rattle.clap.specs.declared.builder.value_parser.ValueParser.{ValueParser}
use Rattle.clap.specs.declared.builder.value_parser.ValueParser.TheVariants as vp
use Rattle.clap.specs.declared.parser.matches.ArgMatches.{ArgMatches}
use Rattle.par2_arguments.specs.declared.definition.Argument.{Argument}
use Rattle.par2_arguments.specs.declared.definition.Argument.TheVariants as argument

-- an option with a number
abbrev pub number_rule : Text → ℕ → ValueParser → Rule
number_rule id short parser = record (new_rule id) { short = Some short; action = Some Set; parser = Some parser }

-- an argument: `-sN`, of 64 bits, and `-cN`, of 32 bits, which have to be given; `-fN`, of 32 bits, 0 if it isn't given;
-- `--overwrite`; `-p`; the first name, which has to be given; and the names after it
abbrev pub rule_for : Argument → Rule
rule_for argument.Slice = record (number_rule (codes "slice") 115 (vp.Unsigned 0 18446744073709551615)) { required = true }
rule_for argument.Count = record (number_rule (codes "count") 99 (vp.Signed (pos 0) (pos 4294967295))) { required = true }
rule_for argument.First = record (number_rule (codes "first") 102 (vp.Signed (pos 0) (pos 4294967295))) { defaults = codes "0" ∷ [] }
rule_for argument.Overwrite = record (new_rule (codes "overwrite")) { long = Some (codes "overwrite"); action = Some SetTrue }
rule_for argument.Purge = record (new_rule (codes "purge")) { short = Some 112; action = Some SetTrue }
rule_for argument.Base = record (new_rule (codes "base")) { action = Some Set; required = true }
rule_for argument.Files = record (new_rule (codes "files")) { action = Some Append }

-- a subcommand with these arguments
abbrev pub shape_of : Text → List Argument → Shape
shape_of name arguments = (fold with_rule (new_app name) (map rule_for arguments)).top

-- the command line without its subcommands
unfoldable pub start_app : App
start_app = record (new_app (codes "par2")) { top = record (new_app (codes "par2")).top { no_binary_name = true; disable_help_subcommand = true } }

-- the whole command line
unfoldable pub par2_app : App
par2_app = fold with_subcommand start_app (
    shape_of (codes "create") (argument.Slice ∷ argument.Count ∷ argument.First ∷ argument.Overwrite ∷ argument.Base ∷ argument.Files ∷ [])
    ∷ shape_of (codes "verify") (argument.Base ∷ argument.Files ∷ [])
    ∷ shape_of (codes "repair") (argument.Purge ∷ argument.Base ∷ argument.Files ∷ [])
    ∷ shape_of (codes "purge") (argument.Base ∷ [])
    ∷ shape_of (codes "undo") [] ∷ shape_of (codes "redo") [] ∷ [])

-- a command that the code built has this definition, and no global argument
abbrev pub IsApp : Command → App → Type 0
IsApp command app = (app_of command ≡ app) × ((out-Command command).has_globals ≡ false)

-- the command that the code built, if there was memory for it, has this definition
abbrev pub Defines : {E : Type 0} → Result Command E → App → Type 0
Defines made app = IfOk made (λ command. IsApp command app)

-- what clap found for a subcommand
abbrev pub rows_in : ArgMatches → List Row
rows_in matches = rows_of (found_of matches)

-- the number of k bits that is written in decimal, or 0 if it isn't one, which clap's parsers of numbers rule out
abbrev pub number : ℕ → Text → ℕ
number k bytes =
    let digits = without_leading_plus bytes in
    if is_numeral digits && nat_lt (digits_value 10 digits) (2 ^ k) then digits_value 10 digits else 0

-- the number of an option, or 0 without one
abbrev pub number_of : ℕ → Text → List Row → ℕ
number_of k id rows = option_map_or (number k) (one_of id rows) 0

-- the value of an argument, or empty without one
abbrev pub value_of : Text → List Row → Text
value_of id rows = unwrap_or (first_of id rows) []

-- the values of an argument that may be given several times
abbrev pub values_of : Text → List Row → List Text
values_of id rows = unwrap_or (all_of id rows) []

-- whether a flag was used: its value is `true`
abbrev pub flag_of : Text → List Row → Bool
flag_of id rows = option_map_or (λ bytes. bytes_eq bytes (codes "true")) (first_of id rows) false

-- the action of a subcommand's name and its matches
abbrev pub meaning : Text × List Row → Option Action
meaning p =
    let base = value_of (codes "base") p.1 in
    let files = values_of (codes "files") p.1 in
    if bytes_eq p.0 (codes "create") then Some (Do (Create (record {
      base = base;
      slice = number_of 64 (codes "slice") p.1;
      count = number_of 32 (codes "count") p.1;
      first = number_of 32 (codes "first") p.1;
      overwrite = flag_of (codes "overwrite") p.1;
      inputs = files;
    })))
    else (if bytes_eq p.0 (codes "verify") then Some (Do (Verify base files))
    else (if bytes_eq p.0 (codes "repair") then Some (Do (Repair base files (flag_of (codes "purge") p.1)))
    else (if bytes_eq p.0 (codes "purge") then Some (Do (Purge base))
    else (if bytes_eq p.0 (codes "undo") then Some Undo
    else (if bytes_eq p.0 (codes "redo") then Some Redo else None)))))

-- the action that the words request
abbrev pub requested_by : List Text → Option Action
requested_by words = option_and_then meaning (subcommand_of par2_app words)

-- the words request this action, and clap finds no fault with them
pub record AskFor (words : List Text) (action : Action) : Type 0 where
  pub requested : requested_by words ≡ Some action
  pub faultless : fault_of par2_app words ≡ []
