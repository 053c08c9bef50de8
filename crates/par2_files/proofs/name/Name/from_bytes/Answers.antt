use Rattle.par2_files.proofs.Names.{sym, no_bytes}
use Rattle.par2_files.proofs.name.Name.from_bytes.Goals as goal

pub returns-in_default-clause-variant : goal.returns-in_default-clause-variant
returns-in_default-clause-variant c = sym (no_bytes c.args.bytes.now c.in_default.ensures.cases.0)
