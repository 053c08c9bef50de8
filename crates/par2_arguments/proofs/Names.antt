-- The names that answers take from elsewhere and from the lemmas.

pub use Rattle.par2_arguments.proofs.Common.{◌∙◌, ap, fold, map, new_app, subst, sym, take, App, IsApp, rule_for, with_rule, fold-append, map_more, arith, with_subcommand, take_all, ◌≡◌, true≢false, string_bytes, true, takes, Some, is_some, option_and_then, IfErr-weaker, IfOk-weaker, err_from_is_err_and, HasMatchesOf, found_of, rows_of, subcommand_of, meaning, codes, false, rules, Bor, Text, bytes_eq, ParsesUnsigned, ExplainsUnsignedError, HasUnsignedDigitsIfOk}
pub use Rattle.par2_arguments.proofs.Subcommands.{with_argument, shape_for, with_command, faultless, known, met, unmet, flag_read, number_read}
unfoldable pub use Rattle.par2_arguments.proofs.Common.{start_app, par2_app}
pub use Rattle.par2_spec.proofs.ListsLaws.{by_either}
