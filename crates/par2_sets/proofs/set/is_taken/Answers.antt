use Rattle.par2_sets.proofs.AnswerNames.{arith, names, among-append, has_by_names}
use Rattle.par2_sets.proofs.set.is_taken.Goals as goal

pub returns-then-is_some : goal.returns-then-is_some
returns-then-is_some c all holds = grind (arith, has_by_names c.args.folder.now.files c.args.name.now, among-append (names c.args.folder.now.files) all c.args.name.now)

pub returns-else-is_some : goal.returns-else-is_some
returns-else-is_some c all holds = grind (arith, holds c.args.name.now, has_by_names c.args.folder.now.files c.args.name.now, among-append (names c.args.folder.now.files) all c.args.name.now)
