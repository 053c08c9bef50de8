use Rattle.par2_gf16.proofs.Names.{rules, sum_in}
use Rattle.par2_gf16.proofs.vectors.WordVector.plus.Goals as goal

pub returns-clause-sums : goal.returns-clause-sums
returns-clause-sums c =
    sum_in c.args.self.low c.args.self.high c.args.other.low c.args.other.high c.sum.result c.sum-2.result (search rules) (search rules) (search rules) (search rules)
    (λ i. search rules) (λ i. search rules) (λ i. search rules) (λ i. search rules) c.sum.ensures c.sum-2.ensures
