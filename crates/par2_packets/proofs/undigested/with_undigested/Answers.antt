use Rattle.par2_packets.proofs.Names.{◌≡◌, ◌∙◌, ◌+◌, ◌++◌, List, ℕ, [], ap, arith, common_steps, replicate, magic, undigested, piece_more, undigested_in_parts}
use Rattle.par2_packets.proofs.undigested.with_undigested.Goals as goal

pub loop-k-preserved : goal.loop-k-preserved
loop-k-preserved c =
    let id : List ℕ = c.args.set_id.now in
    let size = c.args.size in
    let out : List ℕ = c.loop-k.all.items in
    let first : List ℕ = c.extend_from_slice.new.self.items in
    let second : List ℕ = c.extend_from_slice-in-loop-k.new.self.items in
    let third : List ℕ = c.extend_from_slice-in-loop-k-2.new.self.items in
    let kept : c.reserve.new.self.items ≡ third = c.in_ok-reserve.ensures.items in
    let resized = c.in_ok-resize.ensures.items in
    let zeros : c.resize.new.self.items ≡ third ++ replicate size 0 = grind (arith, common_steps) in
    piece_more (λ (e : ℕ). undigested id e (replicate size 0)) c.args.first c.loop-k.k c.args.bytes.items out c.resize.new.self.items c.loop-k.invariant
    (undigested_in_parts out id (c.args.first + c.loop-k.k) size first second third c.resize.new.self.items
    (c.in_ok-extend_from_slice.ensures.items ∙ ap (λ (xs : List ℕ). out ++ xs) c.as_flattened.ensures.value ∙ ap (λ (n : List ℕ). out ++ (magic ++ (n ++ []))) c.to_le_bytes.ensures)
    (c.in_ok-extend_from_slice-2.ensures.items ∙ ap (λ (xs : List ℕ). first ++ xs) c.as_flattened-in-loop-k.ensures.value ∙ ap (λ (k : List ℕ). first ++ (replicate 16 0 ++ (id ++ (k ++ [])))) c.type_of.ensures)
    (c.in_ok-extend_from_slice-3.ensures.items ∙ ap (λ (xs : List ℕ). second ++ xs) c.to_le_bytes-in-loop-k.ensures)
    zeros)
