use Rattle.par2_transform.proofs.Common.{◌∙◌, ap, pow, chirp_inverse}
use Rattle.par2_transform.proofs.windows.chirp_inverse.Goals as goal

pub returns : goal.returns
unfolding chirp_inverse
returns c = c.pow.ensures ∙ ap (λ a. pow a 65534) c.chirp.ensures
