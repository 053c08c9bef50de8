use Rattle.par2_matrix.proofs.Names.{IfOk-weaker, ap, first_powers, with_roots, ◌∙◌}
use Rattle.par2_matrix.proofs.locators.locator.Goals as goal

pub returns : goal.returns
returns c =
    IfOk-weaker c.with_roots.result _ _ (λ p is. is ∙ ap with_roots (c.deref.ensures.value ∙ c.in_ok-coefficients.ensures ∙ first_powers c.args.lost.now)) c.with_roots.ensures
