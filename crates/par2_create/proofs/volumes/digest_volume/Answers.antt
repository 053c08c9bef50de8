use Rattle.par2_create.proofs.Names.{◌≡◌, ◌∙◌, ◌++◌, List, ℕ, length, ap, arith, rules, flat_map, range_with_len, on_ok_weaker, undigested, slice_of, behind_index, index_kept, length-packets, packets_digested}
use Rattle.par2_create.proofs.volumes.digest_volume.Goals as goal

pub digest_recoveries-requires-clause-packets : goal.digest_recoveries-requires-clause-packets
digest_recoveries-requires-clause-packets c =
    let parts = c.args.parts.now in
    let volume = c.args.volume.now in
    let packets = flat_map (λ (e : ℕ). undigested parts.set_id e (slice_of parts e)) (range_with_len volume.first volume.count) in
    let n : c.len.result ≡ length parts.index.items = search rules in
    let part = ap length (behind_index c.args.bytes.now parts.index.items packets c.len.result n c.requires) in
    let size = length-packets parts volume.first volume.count in
    omega (arith, part, size)

pub returns : goal.returns
returns c =
    let parts = c.args.parts.now in
    let volume = c.args.volume.now in
    let index : List ℕ = parts.index.items in
    let packets = flat_map (λ (e : ℕ). undigested parts.set_id e (slice_of parts e)) (range_with_len volume.first volume.count) in
    let n : c.len.result ≡ length index = search rules in
    let new = c.digest_recoveries.new.packets in
    on_ok_weaker c.digest_recoveries.result
    (λ put. index_kept c.args.bytes.now index packets new c.len.result n c.requires
    ∙ ap (λ (xs : List ℕ). index ++ xs)
    (packets_digested parts volume.first volume.count _ new put (behind_index c.args.bytes.now index packets c.len.result n c.requires)))
    c.digest_recoveries.ensures
