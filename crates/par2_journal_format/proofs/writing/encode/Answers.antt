use Rattle.par2_journal_format.proofs.Names.{None, journal_from, finished}
use Rattle.par2_journal_format.proofs.writing.encode.Goals as goal

pub returns : goal.returns
returns c = finished c.in_ok-begin.field-0.items None c.in_ok-bytes.bytes.items c.in_ok-bytes.ensures _ c.in_ok-append_digest.ensures (journal_from c.args.parts.now) c.in_ok-begin.ensures
