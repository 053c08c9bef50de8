use Rattle.par2_tool.proofs.Names.{inr, inl, [], refl, sym, subst, map, string_bytes, command_of, status_of, outcome_of, Answered, Failed, IsPrinted, words_requested, unread_words}
use Rattle.par2_tool.proofs.headline.run_words.Goals as goal

pub returns-in-Err-clause-reported : goal.returns-in-Err-clause-reported
returns-in-Err-clause-reported g c =
    let unread = unread_words (map string_bytes c.args.words.now) c.in-Err.fault c.from.result c.from.ensures c.in-Err.ensures.arguments in record {
      run_result = Failed [] c.from.result;
      reported = inr (c.from.result, refl, unread, refl {a = c.args.store.now});
      shown = (c.fail.ensures, refl {a = c.args.out.now});
    }

pub returns-in-Ok-carry_out-clause-reported : goal.returns-in-Ok-carry_out-clause-reported
returns-in-Ok-carry_out-clause-reported g c =
    let outcome = outcome_of c.in-Ok-carry_out.outcome in
    let done = c.in-Ok-carry_out.ensures.done in record {
      run_result = Answered done.0 outcome;
      reported = inl (command_of c.in-Ok.command, c.in-Ok.ensures.command, done.2, c.carry_out.ensures.cut);
      shown = (subst (λ bytes. IsPrinted g.O.Write.contents c.args.out.now c.tell.new.out bytes (status_of outcome) c.tell.result) (sym done.1) c.tell.ensures, refl {a = c.args.err.now});
    }

pub returns-clause-reported : goal.returns-clause-reported
returns-clause-reported g c =
    let action = command_of c.in-Ok.command in record {
      run_result = Failed (words_requested action) c.in-Err-carry_out.failure;
      reported = inl (action, c.in-Ok.ensures.command, c.in-Err-carry_out.ensures.failed, c.carry_out.ensures.cut);
      shown = (c.fail-in-Err-carry_out.ensures, refl {a = c.args.out.now});
    }
