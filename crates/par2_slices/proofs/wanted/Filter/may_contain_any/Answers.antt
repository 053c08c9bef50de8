use Rattle.par2_slices.proofs.Names.{ℕ, get_or, Includes, eq-eqb, one_of_four}
use Rattle.par2_slices.proofs.wanted.Filter.may_contain_any.Goals as goal

pub returns : goal.returns
returns g c k h included =
    eq-eqb _ 1 (one_of_four (λ (k : ℕ). Includes c.args.self.now (get_or c.args.crcs.now k 0)) c.summary_at.result c.summary_at-2.result c.summary_at-3.result c.summary_at-4.result
    c.summary_at.ensures c.summary_at-2.ensures c.summary_at-3.ensures c.summary_at-4.ensures k h included)
