use Rattle.par2_journal_format.proofs.Names.{None, Some, journal_from, part_from, finished}
use Rattle.par2_journal_format.proofs.writing.finish_both.Goals as goal

pub returns-clause-halfway : goal.returns-clause-halfway
returns-clause-halfway c = finished c.args.front.items (part_from (Some c.args.halfway)) c.in_ok-halfway.halfway.items c.in_ok-halfway.ensures _ c.in_ok-append_digest.ensures

pub returns-clause-after : goal.returns-clause-after
returns-clause-after c =
    finished c.in_ok-begin.field-0.items None c.in_ok-after.after.items c.in_ok-after.ensures _ c.in_ok-append_digest-2.ensures (journal_from c.args.after.now) c.in_ok-begin.ensures
