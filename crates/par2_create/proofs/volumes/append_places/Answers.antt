use Rattle.par2_create.proofs.Names.{◌≡◌, ◌<◌, ◌^◌, arith, ◌∙◌, ◌+◌, ◌*◌, length, rules, ◌++◌, ◌∷◌, [], ℕ, List, map, sym, ap, append_assoc, zero-add, range_with_len, map-range_with_len_more, Place, place_in, packet_ends}
use Rattle.par2_create.proofs.volumes.append_places.Goals as goal

pub loop-k-preserved : goal.loop-k-preserved
loop-k-preserved c =
    let k : ℕ = c.loop-k.k in
    let i : ℕ = c.args.i in
    let place = place_in c.args.parts.now i in
    let was : List Place = c.args.places.now.items in
    c.in_ok-push.ensures.items
    ∙ ap (λ n. c.loop-k.places.items ++ record { buffer = i; at = n + k * (68 + c.args.parts.now.slice) + 68 } ∷ []) (let size : c.len.result ≡ length c.args.parts.now.index.items = search rules in size)
    ∙ ap (λ (xs : List Place). xs ++ place k ∷ []) c.loop-k.invariant
    ∙ append_assoc was (map place (range_with_len 0 k)) (place k ∷ []) ∙ ap (λ (xs : List Place). was ++ xs) (sym (map-range_with_len_more place 0 k k (zero-add k)))

-- packet k ends within the bytes
room : (c : goal.After-len) → c.len.result + c.loop-k.k * (68 + c.args.parts.now.slice) + 68 < 2 ^ 64
room c =
    let size : c.len.result ≡ length c.args.parts.now.index.items = search rules in omega (arith, size, (let short : length c.args.bytes.now < 2 ^ 64 = search rules in short), packet_ends (length c.args.parts.now.index.items) c.loop-k.k c.args.volume.now.count (68 + c.args.parts.now.slice) (length c.args.bytes.now) c.loop-k-test.true c.requires)

pub overflow_mul-at : goal.overflow_mul-at
overflow_mul-at c = omega (arith, room c)

pub overflow_add-at : goal.overflow_add-at
overflow_add-at c = omega (arith, room c)

pub overflow_add-at-in-loop-k : goal.overflow_add-at-in-loop-k
overflow_add-at-in-loop-k c = omega (arith, room c)
