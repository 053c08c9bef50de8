use Rattle.par2_md5_lanes.proofs.Common.{◌≡◌, ◌<◌, ◌++◌, ◌∷◌, ◌∙◌, [], ℕ, Bor, List, ap, append_assoc, arith, get_or, length, map, sym, take, length-map, map_more, md5, Pending, buffers_of}
use Rattle.par2_md5_lanes.proofs.tasks.push_digests.Goals as goal

some_pending : (pendings : List Pending) (k : ℕ) → k < length pendings → Pending
some_pending [] k low = absurd (omega (arith, low))
some_pending (pending ∷ pendings) k low = pending

pub loop-k-preserved : goal.loop-k-preserved
loop-k-preserved c =
    let buffers = buffers_of c.args.buffers.now in
    let k = c.loop-k.k in
    let pendings = c.in_ok-pendings.pendings.items in
    let low : k < length buffers = omega (arith, c.loop-k-test.true, length-map c.args.buffers.now (λ (bytes : Bor (List ℕ)). bytes.now)) in
    let there : k < length pendings = omega (arith, c.loop-k-test.true, c.in_ok-pendings.ensures.count) in
    let none = some_pending pendings k there in
    let takes = c.in_ok-pendings.ensures.each k none there in
    let reported = rw c.deref.ensures.value at c.absorb_each-states.ensures in
    let is : c.digest.result ≡ md5 (get_or buffers k []) = c.digest.ensures _ (reported k [] none _ there takes.0) ∙ ap md5 takes.1 in
    c.in_ok-push.ensures.items
    ∙ ap (λ ds. ds ++ c.digest.result ∷ []) c.loop-k.invariant
    ∙ append_assoc c.args.all.now.items (map md5 (take k buffers)) (c.digest.result ∷ [])
    ∙ ap (λ ds. c.args.all.now.items ++ ds) (ap (λ d. map md5 (take k buffers) ++ d ∷ []) is ∙ sym (map_more md5 buffers k [] low))
