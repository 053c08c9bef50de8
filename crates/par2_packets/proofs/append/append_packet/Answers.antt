use Rattle.par2_packets.proofs.Names.{◌++◌, ◌∙◌, ◌+◌, [], List, ℕ, length, ap, ap₂, w64, to_le_bytes, magic, md5, appended, packet_in_parts}
use Rattle.par2_packets.proofs.append.append_packet.Goals as goal

pub returns-clause-ok : goal.returns-clause-ok
returns-clause-ok c =
    let bytes : List ℕ = c.args.out.now.items in
    let s = c.args.set_id.now in
    let a = c.args.head.now in
    let b = c.args.tail.now in
    let claimed : List ℕ = to_le_bytes w64 (64 + length a + length b) in
    let both = λ (xs ys : List ℕ). xs ++ ys in
    let claim = c.in_ok-extend_from_slice.ensures.items ∙ ap₂ both c.in_ok-reserve.ensures.items c.as_flattened.ensures.value ∙ ap (λ (n : List ℕ). bytes ++ (magic ++ (n ++ []))) c.to_le_bytes.ensures in
    let digest = c.finalize.ensures _ (c.update-4.ensures _ (c.update-3.ensures _ (c.update-2.ensures _ (c.update.ensures _ c.new-hasher.ensures)))) ∙ ap (λ (k : List ℕ). md5 (((s ++ k) ++ a) ++ b)) c.type_of-type_bytes.ensures in
    let header = c.in_ok-extend_from_slice-2.ensures.items ∙ ap₂ both claim c.as_flattened-2.ensures.value in
    let is = c.in_ok-extend_from_slice-3.ensures.items ∙ ap (λ (xs : List ℕ). xs ++ a) header in
    appended c.extend_from_slice-4.result c.extend_from_slice-4.new.self.items c.extend_from_slice-3.new.self.items b _ c.extend_from_slice-4.ensures.items
    (ap (λ (xs : List ℕ). xs ++ b) is ∙ ap₂ (λ (d k : List ℕ). (((bytes ++ (magic ++ (claimed ++ []))) ++ (d ++ (s ++ (k ++ [])))) ++ a) ++ b) digest c.type_of-type_bytes.ensures ∙ packet_in_parts bytes s a b c.args.kind)
