use Rattle.par2_create.proofs.Common.{◌∙◌, [], ◌∷◌, ◌++◌, List, Vec, ℕ, Global, sym, ap, ap₂, map-append, map_more, lists_of, blank_volume}
use Rattle.par2_create.proofs.volumes.blank_volumes.Goals as goal

pub loop-volume-preserved : goal.loop-volume-preserved
loop-volume-preserved c =
    let blank = blank_volume c.args.parts.now in
    ap lists_of c.in_ok-push.ensures.items ∙ map-append (λ (v : Vec ℕ Global). v.items) c.loop-volume.buffers.items (c.in_ok-bytes.bytes ∷ []) ∙ ap₂ (λ (xs : List (List ℕ)) (x : List ℕ). xs ++ x ∷ []) c.loop-volume.invariant (c.in_ok-bytes.ensures ∙ ap blank c.volume-item.is)
    ∙ sym (map_more blank c.args.parts.now.volumes.now c.loop-volume.volume-index c.volume-item.result c.loop-volume-test.true)
