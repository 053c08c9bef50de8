use Rattle.par2_files.proofs.Names.{refl, arith, behind, moved}
use Rattle.par2_files.proofs.walk.advance_to.Goals as goal

pub returns : goal.returns
returns c =
    let here = c.requires.here in
    let content = c.args.bytes.now in
    let states = c.absorb_each-states.result in
    let files = c.in_ok-files.ensures here.absorbed in
    let bytes = c.in_ok-extra.ensures _ here.beside in
    record {
      there = record {
        absorbed = behind c.in_ok-files.files _ _ files (λ m held. c.absorb_each-states.ensures 0 m c.in_ok-files.files _ (omega arith) held);
        within = omega (arith, c.min-end.ensures);
        beside = moved content c.args.progress.taken c.min-end.result _ _ (omega arith) refl (behind c.in_ok-extra.extra _ _ bytes (λ m held. c.absorb_each-states.ensures 1 m c.in_ok-extra.extra _ (omega arith) held));
      };
    }
