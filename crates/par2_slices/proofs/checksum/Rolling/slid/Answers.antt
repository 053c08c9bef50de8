use Rattle.par2_slices.proofs.Names.{rules, ◌∙◌, ap, get_or, Roll, after_slide, one_slide}
use Rattle.par2_slices.proofs.checksum.Rolling.slid.Goals as goal

pub returns : goal.returns
returns c =
    one_slide c.self.inside.size c.args.value c.args.out c.args.next c.after_byte.result _ c.after_byte.ensures
    (ap (λ table. get_or table c.args.out 0) c.deref.ensures ∙ c.self.invariant.1 c.args.out (search rules))
    ∙ ap (λ (roll : Roll). after_slide roll.size c.args.value c.args.out c.args.next) c.self.view_is
