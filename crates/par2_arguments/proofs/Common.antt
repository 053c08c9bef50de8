-- Names from elsewhere that the proofs of this crate use.

pub use Rattle.std.proofs.Common.{Bool, List, None, Option, Result, Some, [], ap, arith, codes, false, lt-ltb, ltb-true, map, nat_lt, refl, rules, string_bytes, subst, sym, take, true, true≢false, ℕ, ◌∙◌, ◌∷◌, ◌≡◌}
pub use Rattle.std.proofs.lemmas.List.{map_more, take_all}
pub use Rattle.std.proofs.lemmas.List.Sums.{fold-append, AllPass-from_list_all}
pub use Rattle.std.proofs.lemmas.Result.{IfErr-weaker, IfOk-at_ok, IfOk-weaker, err_from_is_err_and}
pub use Rattle.std.specs.Borrow.{Bor}
pub use Rattle.std.specs.List.{list_all}
pub use Rattle.std.specs.Prelude.{Box, find, fold, is_some, option_and_then, option_map, unwrap_or}
pub use Rattle.std.specs.Str.{bytes_eq}
pub use Rattle.std.specs.Str.Parse.{AllDigits, ExplainsUnsignedError, HasUnsignedDigitsIfOk, ParsesUnsigned}
unfoldable pub use Rattle.clap.proofs.OnLiterals.{clap_on_literals}
pub use Rattle.clap.specs.Simple.{app_of_fields, argument_words, entered, label_of, names_of, rows_at}
pub use Rattle.clap.specs.Words.{AddsArg, AddsSubcommand, App, HasMatchesOf, ReadsOne, Row, Rule, Shape, Text, app_of, built, fault_of, first_value, found_of, is_simple, is_simple_and_free, matched_of, new_app, one_text, raw_values, rows_of, subcommand_name_of, subcommand_of, subcommand_rows, subcommand_rows_of, takes, with_rule, with_subcommand, rule_of}
pub use Rattle.clap.specs.declared.builder.command.Command.{Command}
pub use Rattle.par2_arguments.specs.Definition.{IsApp, flag_of, meaning, number, number_of, rule_for, shape_of, value_of, values_of}
unfoldable pub use Rattle.par2_arguments.specs.Definition.{par2_app, start_app}
pub use Rattle.std.specs.Char.{digit_value}
pub use Rattle.std.proofs.lemmas.Bool.{and_parts}
pub use Rattle.std.specs.Box.{box_value}
pub use Rattle.std.proofs.lemmas.Option.{none-some}
pub use Rattle.std.proofs.lemmas.List.Elements.{recursion_from_All}
pub use Rattle.clap.specs.declared.builder.arg.Arg.{Arg}
pub use Rattle.clap.specs.declared.parser.matches.Found.{Found}
pub use Rattle.clap.proofs.WalkLemmas.{first_value-rows, one_text-rows, raw_values-rows}
pub use Rattle.clap.specs.Walk.{answers_to, stop_after}
pub use Rattle.clap.specs.declared.parser.matches.ArgMatches.{ArgMatches}
pub use Rattle.clap.specs.declared.parser.matches.SubCommand.{SubCommand}
pub use Rattle.clap.specs.declared.parser.matches.ArgMatches.TheViews.{out-ArgMatches, out-SubCommand}
pub use Rattle.par2_spec.proofs.ListsLaws.{found_one}
