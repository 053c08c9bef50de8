use Rattle.par2_md5_lanes.proofs.Common.{◌≡◌, ap, refl, ◌∙◌, List, ℕ, add_state, rounds, lane}
use Rattle.par2_md5_lanes.proofs.blocks.both_compressed.Goals as goal

start : (h words : List ℕ) → h ≡ rounds h words 0
unfolding rounds
start h words = refl

pub returns-clause-low : goal.returns-clause-low
returns-clause-low g c = λ k low.
    let h = lane g.V.Lanes.at k c.args.low in
    let second = c.one_round_of_both-2.ensures.low k h low (c.one_round_of_both.ensures.low k h low (start h _)) in
    let last = c.one_round_of_both-4.ensures.low k h low (c.one_round_of_both-3.ensures.low k h low second) in
    c.sums.ensures k low ∙ ap (add_state h) last

pub returns-clause-high : goal.returns-clause-high
returns-clause-high g c = λ k low.
    let h = lane g.V.Lanes.at k c.args.high in
    let second = c.one_round_of_both-2.ensures.high k h low (c.one_round_of_both.ensures.high k h low (start h _)) in
    let last = c.one_round_of_both-4.ensures.high k h low (c.one_round_of_both-3.ensures.high k h low second) in
    c.sums-2.ensures k low ∙ ap (add_state h) last
