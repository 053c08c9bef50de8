use Rattle.par2_md5_lanes.proofs.Names.{◌≡◌, ◌++◌, ◌∷◌, ◌∙◌, [], ℕ, List, length, ap, append-nil, arith, cases_lt, get_or_append_left, get_or_push, inl, inr, length_push, sym, ◌+◌, HasAbsorbed, Pending, TakeAll, message_of, buffer_at, bytes_here}
use Rattle.par2_md5_lanes.proofs.tasks.pendings_of.Goals as goal

-- one more state, which takes the next bytes
one_more : (pendings : List Pending) (pending : Pending) (bytes : ℕ → List ℕ) → TakeAll pendings bytes → HasAbsorbed pending.state [] → message_of pending.parts.items ≡ bytes (length pendings)
    → TakeAll (pendings ++ pending ∷ []) bytes
one_more pendings pending bytes held begun is = λ k none low. elim (cases_lt k (length pendings)) [
  | inl lt ↦ rw (get_or_append_left pendings (pending ∷ []) none k lt) (held k none lt)
  | inr ge ↦ let here : length pendings ≡ k = omega (arith, low, ge, length_push pendings pending) in rw (get_or_push pendings pending none k here) (begun, is ∙ ap bytes here)
]

pub loop-bytes-preserved : goal.loop-bytes-preserved
loop-bytes-preserved c =
    let pendings = c.loop-bytes.pendings.items in
    let held = c.loop-bytes.invariant in
    let buffers = c.args.buffers.now in
    let parts : message_of c.in_ok-parts.parts.items ≡ buffer_at buffers (length pendings) =
    ap message_of c.in_ok-parts.ensures.items ∙ append-nil _ ∙ bytes_here buffers c.loop-bytes.bytes-index c.loop-bytes-test.true ∙ ap (buffer_at buffers) (sym held.count) in
    rw c.in_ok-push.ensures.items (record {
      count = length_push pendings _ ∙ ap (λ n. n + 1) held.count;
      each = one_more pendings _ _ held.each c.new-state.ensures parts;
    })
