use Rattle.par2_md5_lanes.proofs.Common.{ap, refl, ◌∙◌, add_state, rounds, lane}
use Rattle.par2_md5_lanes.proofs.blocks.compressed.Goals as goal

pub returns : goal.returns
unfolding rounds
returns g c = λ k low.
    let h = lane g.V.Lanes.at k c.args.state in
    let second = c.one_round-after-2.ensures k h low (c.one_round-after.ensures k h low refl) in
    let last = c.one_round-after-4.ensures k h low (c.one_round-after-3.ensures k h low second) in
    c.sums.ensures k low ∙ ap (add_state h) last
