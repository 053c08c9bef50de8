use Rattle.recovery_calls.proofs.Common.{ℕ, ◌∙◌, length, replicate, sym, arith, ext_get_or, get_or-replicate, length-replicate}
use Rattle.recovery_calls.proofs.outputs.is_blank.Goals as goal

pub returns : goal.returns
returns c = λ _.
    let bytes = c.args.bytes.now in
    ext_get_or 0 bytes (replicate (length bytes) 0) (sym (length-replicate {A = ℕ} (length bytes) 0))
    (λ k low. c.loop-k.invariant k (omega (arith, low, c.loop-k-test.false)) ∙ sym (get_or-replicate (length bytes) k 0 0 low))
