use Rattle.recovery_calls.proofs.Common.{rules, arith, subst, IsTrue, below_more, place_at, AreBeside}
use Rattle.par2_transform.specs.declared.outputs.Place.{Place}
use Rattle.recovery_calls.proofs.outputs.is_apart.Goals as goal

pub loop-s-preserved : goal.loop-s-preserved
loop-s-preserved c =
    let places = c.args.places.now in
    let two : IsTrue c.are_two.result = search rules in
    let beside : AreBeside c.args.words (place_at places c.loop-s.s) (place_at places c.args.t) =
    subst (λ (first : Place). AreBeside c.args.words first (place_at places c.args.t)) c.place_of.ensures
    (subst (λ (second : Place). AreBeside c.args.words c.place_of.result second) c.place_of-in-loop-s.ensures (c.are_two.ensures two)) in
    below_more _ _ c.loop-s.invariant beside

pub returns : goal.returns
returns c = λ _ s low. c.loop-s.invariant s (omega (arith, low, c.loop-s-test.false))
