use Rattle.par2_packets.proofs.Common.{◌-◌, ◌≡◌, ℕ, List, arith, rules, drop, length, take, ap, sym, ◌∙◌, md5, bytes_at}
use Rattle.std.proofs.lemmas.List.{drop-drop, length-drop, take_all}
use Rattle.par2_packets.proofs.cursor.batch_ahead.Goals as goal

-- a window of the bytes from 32 on
windowed : (bytes : List ℕ) (start size : ℕ) → md5 (take size (drop start (take (length bytes - 32) (drop 32 bytes)))) ≡ md5 (bytes_at 32 size (drop start bytes))
windowed bytes start size =
    let rest : take (length bytes - 32) (drop 32 bytes) ≡ drop 32 bytes = take_all (length bytes - 32) (drop 32 bytes) (omega (arith, length-drop 32 bytes)) in
    ap (λ (t : List ℕ). md5 (take size t)) (ap (drop start) rest ∙ drop-drop start 32 bytes ∙ ap (λ (n : ℕ). drop n bytes) (omega arith) ∙ sym (drop-drop 32 start bytes))

pub returns : goal.returns
returns c = record {
  digests = λ k below. c.window_digests-digests.ensures k below ∙ windowed c.args.bytes.now _ (c.args.len - 32);
  some = search rules;
  first = search rules;
  as_long = search rules;
}
