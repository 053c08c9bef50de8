use Rattle.par2_arguments.proofs.Names.{by_either, ◌≡◌, ◌∙◌, ap, subst, sym, true≢false, string_bytes, map, true, takes, Some, is_some, option_and_then, IfErr-weaker, IfOk-weaker, err_from_is_err_and, App, HasMatchesOf, found_of, rows_of, subcommand_of, meaning, par2_app, faultless, known, met, unmet}
use Rattle.par2_arguments.proofs.read.read_words.Goals.{In-Ok, In-Some}
use Rattle.par2_arguments.proofs.read.read_words.Goals as goal

-- what clap found
matches_so : (c : In-Ok) → HasMatchesOf par2_app (map string_bytes c.args.words.now) c.in-Ok.matches
matches_so c = subst (λ (app : App). HasMatchesOf app (map string_bytes c.args.words.now) c.in-Ok.matches) c.in_ok-par2_command.ensures.0 c.in-Ok.ensures.matches

-- the subcommand that it found
met_so : (c : In-Some) → HasMatchesOf par2_app (map string_bytes c.args.words.now) c.in-Ok.matches → subcommand_of par2_app (map string_bytes c.args.words.now) ≡ Some (c.in-Some.name.now, rows_of (found_of c.in-Some.matches.now))
met_so c has = met c.in-Ok.matches (map string_bytes c.args.words.now) c.in-Some.name.now (rows_of (found_of c.in-Some.matches.now)) has c.in-Some.ensures.name c.in-Some.ensures.rows

pub returns-in_err-par2_command-clause-arguments : goal.returns-in_err-par2_command-clause-arguments
returns-in_err-par2_command-clause-arguments c = λ taken there.
    let reported = err_from_is_err_and c.from_residual.result c.from_residual.ensures.1 in
    rw reported.1 reported.2

pub returns-in-Some-clause-command : goal.returns-in-Some-clause-command
returns-in-Some-clause-command c =
    let is = met_so (goal.at.returns-in-Some-clause-command c).In-Some (matches_so (goal.at.returns-in-Some-clause-command c).In-Ok) in
    IfOk-weaker c.named.result _ _ (λ d h. record { requested = ap (option_and_then meaning) is ∙ h; faultless = faultless _ (map string_bytes c.args.words.now) c.in_ok-par2_command.ensures.0 c.in-Ok.ensures.kinds }) c.named.ensures.ok

pub returns-in-Some-clause-arguments : goal.returns-in-Some-clause-arguments
returns-in-Some-clause-arguments c = λ taken there.
    let is = met_so (goal.at.returns-in-Some-clause-arguments c).In-Some (matches_so (goal.at.returns-in-Some-clause-arguments c).In-Ok) in
    IfErr-weaker c.named.result _ _ (λ e h. by_either h (λ memory. memory) (λ none. absurd (true≢false (sym (known _ _ is) ∙ ap is_some none)))) c.named.ensures.err

pub returns-in-Ok-clause-arguments : goal.returns-in-Ok-clause-arguments
returns-in-Ok-clause-arguments c = λ taken there.
    absurd (unmet c.in-Ok.matches (map string_bytes c.args.words.now) (matches_so (goal.at.returns-in-Ok-clause-arguments c).In-Ok) c.in-None.ensures.name there)

pub returns-clause-arguments : goal.returns-clause-arguments
returns-clause-arguments c = λ taken there.
    c.fault_for.ensures.memory (c.in-Err.ensures.passes (subst (λ (app : App). takes app (map string_bytes c.args.words.now) ≡ true) (sym c.in_ok-par2_command.ensures.0) taken))
