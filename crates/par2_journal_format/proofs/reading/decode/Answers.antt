use Rattle.par2_journal_format.proofs.Names.{journal_of, one_reading}
use Rattle.par2_journal_format.proofs.reading.decode.Goals as goal

pub returns-clause-only : goal.returns-clause-only
returns-clause-only c = λ j spells.
    let found = c.in_ok-decode_untested.ensures.found in
    one_reading c.args.bytes.now (journal_of c.in_ok-decode_untested.field-0.journal) j (found.right (c.is_sealed.ensures.0 c.if-not-is_sealed.false)) spells
