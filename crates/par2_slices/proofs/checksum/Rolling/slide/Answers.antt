use Rattle.par2_slices.proofs.Names.{◌∙◌, ap, Roll, after_slide, slid}
use Rattle.par2_slices.proofs.checksum.Rolling.slide.Goals as goal

pub returns-clause-value : goal.returns-clause-value
returns-clause-value c rest size is =
    c.slid-self-inside.ensures
    ∙ ap (λ (roll : Roll). after_slide c.args.self.now.size roll.value c.args.out c.args.next) c.self.view_is
    ∙ slid c.args.self.now.size c.args.out c.args.next c.args.self.now.value rest size is
