use Rattle.par2_journal_format.proofs.Names.{rules, inr, refl, ◌≤◌, ◌<◌, ◌^◌, ◌∙◌, length, arith, err_from_is_err_and, journal_of, all_from, refused, sealed, spells_sealed, too_short, untested}
use Rattle.par2_journal_format.proofs.reading.decode_untested.Goals as goal

pub returns-in_err-journal-clause-refused : goal.returns-in_err-journal-clause-refused
returns-in_err-journal-clause-refused c =
    let split = c.in-Some.ensures.cases in
    let p = err_from_is_err_and c.from_residual.result c.from_residual.ensures.1 in
    rw (p.1, p.2) (refused c.args.bytes.now c.in-Some.body.now c.in-Some.digest.now (omega (arith, split.2)) split.0 split.1 c.in_err-journal.field-0.0 c.in_err-journal.ensures)

pub returns-clause-found : goal.returns-clause-found
returns-clause-found c =
    let bytes = c.args.bytes.now in
    let split = c.in-Some.ensures.cases in
    let long : 16 ≤ length bytes = omega (arith, split.2) in
    let short : length c.in-Some.body.now < 2 ^ 64 = search rules in
    let digest = c.as_slice.result.now in
    let end = c.as_slice.ensures ∙ split.1 in
    let fits = all_from (λ b. b < 256) 0 bytes (λ i low. omega (arith, c.type_inv.bytes i)) in
    let all = untested bytes c.in-Some.body.now digest long split.0 end (journal_of c.in_ok-journal.journal) fits short c.in_ok-journal.ensures in
    record {
      journal = all.0;
      sealed = sealed bytes c.in-Some.body.now digest long split.0 end;
      counted = all.1;
      right = all.2;
      only = spells_sealed bytes;
    }
