use Rattle.recovery_calls.proofs.Common.{inl, inr, ◌≡◌, arith, rules, IsTrue, below_more}
use Rattle.std.proofs.lemmas.Bool.{cases_lt}
use Rattle.recovery_calls.proofs.outputs.are_apart.Goals as goal

pub loop-t-preserved : goal.loop-t-preserved
loop-t-preserved c =
    let apart : IsTrue c.is_apart.result = search rules in
    below_more _ _ c.loop-t.invariant (c.is_apart.ensures apart)

pub returns : goal.returns
returns c = λ _. λ s t i k s_low t_low in_s in_t.
    elim (cases_lt s t) [
      | inl before ↦ absurd (c.loop-t.invariant t (omega (arith, t_low, c.loop-t-test.false)) s before i k in_s in_t)
      | inr not_before ↦ elim (cases_lt t s) [
        | inl after ↦ absurd (c.loop-t.invariant s (omega (arith, s_low, c.loop-t-test.false)) t after i k in_t in_s)
        | inr not_after ↦ (let same : s ≡ t = omega (arith, not_before, not_after) in same)
      ]
    ]
