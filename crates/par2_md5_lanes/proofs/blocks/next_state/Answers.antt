use Rattle.par2_md5_lanes.proofs.Names.{◌≡◌, ◌∙◌, ◌∷◌, [], ℕ, ap, arith, slice_index, w32, add32, step_constants, step_shifts, rotate_left}
use Rattle.par2_md5_lanes.proofs.blocks.next_state.Goals as goal

-- the round function added last or first
regrouped : (a word constant f : ℕ) → add32 (add32 (add32 a word) constant) f ≡ add32 (add32 (add32 a f) constant) word
regrouped a word constant f = omega arith

pub returns : goal.returns
returns g c = λ k f word low is.
    let at = g.V.Lanes.at in
    let state = c.args.state in
    let constant = slice_index step_constants c.args.t in
    let shift = slice_index step_shifts c.args.t in
    let sum = is ∙ regrouped (at state.a k) word constant f in
    let next = c.plus-next.ensures k low ∙ ap (add32 (at state.b k)) (c.rotated.ensures k low ∙ ap (λ s. rotate_left w32 s shift) sum) in
    rw c.state_of.ensures (ap (λ n. at state.d k ∷ n ∷ at state.b k ∷ at state.c k ∷ []) next)
