use Rattle.par2_journal_format.proofs.Common.{rules, [], all_from, IsDigest}
use Rattle.par2_journal_format.proofs.writing.append_digests.Goals as goal

pub returns-clause-digests : goal.returns-clause-digests
returns-clause-digests c = all_from IsDigest [] c.args.digests.now (search rules)
