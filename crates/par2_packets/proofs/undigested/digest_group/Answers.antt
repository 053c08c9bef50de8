use Rattle.par2_packets.proofs.Names.{◌≡◌, ◌≤◌, ◌∙◌, ◌+◌, ◌*◌, ◌-◌, ◌<◌, ℕ, List, [], length, map, refl, ap, arith, rules, get_or, get_or_default, range_with_len, length-map-range_with_len, get_or-map-range_with_len, md5, bytes_at, buffers_of, drop, le_trans, mul-le-mul_right, serves_from_Range, YieldsList-from_map_by, YieldsList-from_range, items_from_drains, map-map, digested_next}
use Rattle.par2_packets.proofs.undigested.digest_group.Goals.{In_ok-digests}
use Rattle.par2_packets.proofs.undigested.digest_group.Goals as goal

pub collect-requires-clause-can : goal.collect-requires-clause-can
collect-requires-clause-can c = (
  tt,
  serves_from_Range (λ x q k. search rules) (λ x low high.
      let below : x + 1 ≤ c.args.first + c.args.count = omega (arith, high, ap (λ range. range.end) c.map-inputs.ensures.source) in
      let fits : (x + 1) * c.args.len ≤ length c.args.packets.now = le_trans (mul-le-mul_right c.args.len below) c.requires.packets in
      search (rules, fits, c.requires.head)),
)

-- the digests are those of the packets
digests : (c : In_ok-digests) → c.in_ok-digests.digests.items ≡ map (λ k. md5 (drop 32 (bytes_at (k * c.args.len) c.args.len c.args.packets.now))) (range_with_len c.args.first c.args.count)
digests c =
    let input = λ (k : ℕ). drop 32 (bytes_at (k * c.args.len) c.args.len c.args.packets.now) in
    let first = c.args.first in
    let count = c.args.count in
    let ran = c.in_ok-collect.ensures.ran in
    let inputs = items_from_drains ran.0 ran.1 (YieldsList-from_map_by _ (λ bytes. bytes.now) input (YieldsList-from_range first (first + count) count (cc) (let e : first + count - first ≡ count = omega arith in e)) c.map-inputs.ensures.closure (λ x r q k. search rules)) in
    c.in_ok-digests.ensures ∙ ap (λ (buffers : List (List ℕ)). map md5 buffers) (ap buffers_of (c.deref.ensures.value ∙ ran.2.0) ∙ inputs) ∙ map-map md5 input (range_with_len first count)

pub index-requires : goal.index-requires
index-requires c =
    let digest = λ (k : ℕ). md5 (drop 32 (bytes_at (k * c.args.len) c.args.len c.args.packets.now)) in
    let count : length c.in_ok-digests.digests.items ≡ c.args.count = ap length (digests (goal.at.index-requires c).In_ok-digests) ∙ length-map-range_with_len digest c.args.first c.args.count in
    let low : c.loop-k.k < length c.in_ok-digests.digests.items = omega (arith, count, c.loop-k-test.true) in
    search (rules, low)

pub loop-k-preserved : goal.loop-k-preserved
loop-k-preserved c =
    let len = c.args.len in
    let first = c.args.first in
    let k = c.loop-k.k in
    let low = c.loop-k-test.true in
    let all = c.args.packets.now in
    let made : List (List ℕ) = c.in_ok-digests.digests.items in
    let are = digests (goal.at.loop-k-preserved c).In_ok-digests in
    let digest = λ (j : ℕ). md5 (drop 32 (bytes_at (j * len) len all)) in
    let d : List ℕ = c.index.result.now in
    let count : length made ≡ c.args.count = ap length are ∙ length-map-range_with_len digest first c.args.count in
    let is : d ≡ digest (first + k) =
    c.index.ensures ∙ get_or_default made k d [] (omega (arith, count, low))
    ∙ ap (λ (xs : List (List ℕ)). get_or xs k []) are ∙ get_or-map-range_with_len digest first c.args.count k (first + k) [] low refl in
    digested_next len first k all c.loop-k.packets c.overwrite.new.buffer d c.requires.head c.loop-k.invariant is c.overwrite.ensures
