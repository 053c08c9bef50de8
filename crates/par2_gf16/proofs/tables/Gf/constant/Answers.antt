use Rattle.par2_gf16.proofs.Names.{◌∙◌, arith, get_or_default, constant_is, constants_count}
use Rattle.par2_gf16.proofs.tables.Gf.constant.Goals as goal

pub index-requires : goal.index-requires
index-requires c = omega (arith, constants_count c.args.self.now.constants.items c.args.self.now.tables.constants_are, c.if-k-lt-CONSTANTS.true)

pub returns-then-k-lt-CONSTANTS-clause-value : goal.returns-then-k-lt-CONSTANTS-clause-value
returns-then-k-lt-CONSTANTS-clause-value c =
    let it = c.args.self.now in
    let known = c.if-k-lt-CONSTANTS.true in
    c.index.ensures ∙ get_or_default it.constants.items c.args.k c.index.result.now 0 (omega (arith, constants_count it.constants.items it.tables.constants_are, known))
    ∙ constant_is it.constants.items c.args.k it.tables.constants_are known
