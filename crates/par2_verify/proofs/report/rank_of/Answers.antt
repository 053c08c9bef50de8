use Rattle.par2_verify.proofs.Names.{◌∙◌, ℕ, List, map, sym, ap, subst, map-map, IfOk-weaker, rank, IsStrictlyIncreasing}
use Rattle.par2_verify.proofs.report.rank_of.Goals as goal

pub rank_by_runs-requires : goal.rank_by_runs-requires
rank_by_runs-requires c = subst IsStrictlyIncreasing (sym (c.deref.ensures.value ∙ c.in_ok-exponents.ensures ∙ sym (map-map (λ (r : ℕ × List ℕ). r.0) _ c.recovery.result.now))) c.recovery.ensures.rising

pub returns-in-Some : goal.returns-in-Some
returns-in-Some c = c.in-Some.ensures ∙ ap (rank c.args.lost.now) (c.deref.ensures.value ∙ c.in_ok-exponents.ensures ∙ sym (map-map (λ (r : ℕ × List ℕ). r.0) _ c.recovery.result.now) ∙ ap (map (λ r. r.0)) c.recovery.ensures.value)

pub rank_by_equations-requires : goal.rank_by_equations-requires
rank_by_equations-requires c = subst IsStrictlyIncreasing (sym (c.deref-in-None.ensures.value ∙ c.in_ok-exponents.ensures ∙ sym (map-map (λ (r : ℕ × List ℕ). r.0) _ c.recovery.result.now))) c.recovery.ensures.rising

pub returns : goal.returns
returns c = IfOk-weaker c.rank_by_equations.result _ _ (λ n e. e ∙ ap (rank c.args.lost.now) (c.deref-in-None.ensures.value ∙ c.in_ok-exponents.ensures ∙ sym (map-map (λ (r : ℕ × List ℕ). r.0) _ c.recovery.result.now) ∙ ap (map (λ r. r.0)) c.recovery.ensures.value)) c.rank_by_equations.ensures
