use Rattle.par2_matrix.proofs.Names.{IfOk-weaker, MatchOption-at_some, full-iff, rank-le, ◌≡◌}
use Rattle.par2_spec.specs.Rank as ranks
use Rattle.par2_matrix.proofs.exponents.rank.Goals as goal

pub returns-in-Some : goal.returns-in-Some
returns-in-Some c =
    let same = MatchOption-at_some _ (λ n. n ≡ ranks.rank c.args.lost.now c.args.exponents.now) c.in-Some.rank c.in-Some.is c.rank_by_runs.ensures in
    record {
      rank = same;
      most = rw same (rank-le c.args.lost.now c.args.exponents.now c.requires);
      full = rw same (full-iff c.args.lost.now c.args.exponents.now c.requires);
    }

pub returns-in-None : goal.returns-in-None
returns-in-None c = record {
  rank = c.rank_by_equations.ensures;
  most = IfOk-weaker c.rank_by_equations.result _ _ (λ n same. rw same (rank-le c.args.lost.now c.args.exponents.now c.requires)) c.rank_by_equations.ensures;
  full = IfOk-weaker c.rank_by_equations.result _ _ (λ n same. rw same (full-iff c.args.lost.now c.args.exponents.now c.requires)) c.rank_by_equations.ensures;
}
