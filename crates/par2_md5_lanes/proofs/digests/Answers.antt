use Rattle.par2_md5_lanes.proofs.Names.{digest_bytes, digest_at, md5, get_or-replicate, [], ◌≡◌, ◌+◌, ◌*◌, ◌/◌, ◌++◌, ◌<◌, ℕ, ap, arith, length, take, ◌∙◌, padded_message, padding, hash_after, hash_behind, length-append, length-replicate, tail_len, tail_of, buffer_at, ◌%◌, message_goes_on, all_blocks, last_blocks, whole_blocks}
use Rattle.par2_md5_lanes.proofs.digests.Goals as goal

pub returns : goal.returns
unfolding hash_after md5
returns g c = λ k own.
    let within : k < g.H.Hashes.count = omega (arith, own, c.requires.lanes.own) in
    let low : k < 16 = omega (arith, within, c.requires.lanes.few) in
    let m = buffer_at c.args.windows.now k in
    let len = c.args.len in
    let pad = padding len in
    let p = padded_message m in
    let size : length m ≡ len = c.requires.within k low in
    let p_is : p ≡ m ++ pad = ap (λ n. m ++ padding n) size in
    let start : g.H.Hashes.at k c.from_hashes.result ≡ hash_after p 0 = c.from_hashes.ensures k within ∙ get_or-replicate 16 k c.new.result.hash [] low ∙ c.new.ensures.1.0 in
    let first = c.absorbed-before.ensures k within ∙ ap (λ h. hash_behind h m (len / 64)) start ∙ message_goes_on p m 0 (len / 64) (whole_blocks m pad p len p_is size) ∙ ap (hash_after p) (let e : 0 + len / 64 ≡ len / 64 = omega arith in e) in
    let count = (len % 64 + 72) / 64 in
    let whole : count * 64 ≡ tail_len len = simp (length-append, length-replicate) (omega arith) in
    let tail = digest_at c.tails_of_windows-tails.result k in
    let written : take (count * 64) tail ≡ tail_of len m = ap (λ (n : ℕ). take n tail) whole ∙ c.tails_of_windows-tails.ensures k low in
    let last = message_goes_on p tail (len / 64) count (last_blocks m pad p _ len count p_is size whole written) in
    let hash = c.absorbed-hashes.ensures k within ∙ ap (λ h. hash_behind h (buffer_at c.as_buffers.result k) count) first ∙ ap (λ bytes. hash_behind (hash_after p (len / 64)) bytes count) (c.as_buffers.ensures.bytes k low) ∙ last ∙ ap (hash_after p) (all_blocks m pad p len count p_is size whole) in
    c.loop-k.invariant.done k (omega (arith, own, c.loop-k-test.false)) ∙ ap (λ h. digest_bytes h 4) hash
