use Rattle.par2_matrix.proofs.Names.{ap, arith, bit_xor, drop, get_or, length, length-set, mul, quotient_step, quotient_whole, rules, sym, value, value_at_end, value_from, ◌+◌, ◌-◌, ◌<◌, ◌∙◌, ◌≡◌, ◌≤◌}
use Rattle.par2_matrix.proofs.locators.scaled_quotient.Goals as goal

pub loop-t-init : goal.loop-t-init
loop-t-init c =
    let n = c.saturating_sub-count.result in let count : n ≡ length c.args.p.now - 1 = search rules in
    record {
      count = search rules;
      so_far = sym (value_at_end c.args.p.now c.args.c (n + 1) (omega (arith, count)));
      each = λ i low high. absurd (omega (arith, low, high));
    }

pub loop-t-preserved : goal.loop-t-preserved
loop-t-preserved c =
    let p = c.args.p.now in let z = c.args.c in let n = c.saturating_sub-count.result in let t = c.loop-t.t in let count : n ≡ length p - 1 = search rules in
    let some : 0 < t = search rules in let within : t ≤ n = c.loop-t.auto.t in let next : t + 1 ≡ t - 1 + 1 + 1 = omega (arith, some) in
    let step =
    ap (bit_xor (get_or p (t - 1 + 1) 0)) (c.mul.ensures ∙ ap (mul z) (c.loop-t.invariant.so_far ∙ ap (λ m. value (drop m p) z) next))
    ∙ sym (value_from p z (t - 1 + 1) (omega (arith, some, within, count))) in
    record {
      count = length-set c.loop-t.row.items (t - 1) _ ∙ c.loop-t.invariant.count;
      so_far = step;
      each = quotient_step (λ i. mul c.args.factor (value (drop (i + 1) p) z)) c.loop-t.row.items t n _ some within c.loop-t.invariant.count (c.mul-in-loop-t.ensures ∙ ap (mul c.args.factor) step) c.loop-t.invariant.each;
    }

pub returns : goal.returns
returns c =
    let at_end : c.loop-t.t ≡ 0 = search rules in let count : c.saturating_sub-count.result ≡ length c.args.p.now - 1 = search rules in
    quotient_whole c.args.factor c.args.c c.saturating_sub-count.result c.args.p.now c.loop-t.row.items count c.loop-t.invariant.count
    (λ i low high. c.loop-t.invariant.each i (omega (arith, at_end)) high)
