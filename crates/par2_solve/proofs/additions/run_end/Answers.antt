use Rattle.par2_solve.proofs.Names.{arith, by_either, cases_lt, inl, inr, rules, ◌+◌, ◌-◌, ◌≡◌}
use Rattle.par2_solve.proofs.additions.run_end.Goals as goal

pub loop-end-preserved : goal.loop-end-preserved
loop-end-preserved c = record {
  beyond = omega arith;
  within = search rules;
  run = λ k h. by_either (cases_lt (c.args.at + k) c.loop-end.end)
      (λ low. c.loop-end.invariant.run k low)
      (λ high.
      let here : c.args.at + k ≡ c.loop-end.end = omega (arith, h, high) in
      let last : c.args.at + (k - 1) ≡ c.loop-end.end - 1 = omega (arith, here, c.loop-end.invariant.beyond) in
      let before = rw last at (c.loop-end.invariant.run (k - 1) (omega (arith, here, c.loop-end.invariant.beyond))) in
      rw here (omega (arith, c.if-exponents-end.true, before, here, c.loop-end.invariant.beyond)));
}

pub returns-else-exponents-end-clause-fits : goal.returns-else-exponents-end-clause-fits
returns-else-exponents-end-clause-fits c =
    let k = c.loop-end.end - 1 - c.args.at in
    let last = c.loop-end.invariant.run k (omega (arith, c.loop-end.invariant.beyond)) in
    omega (arith, last, (c.type_inv.exponents (c.args.at + k)).fits, c.loop-end.invariant.beyond)

pub returns-after-loop-end-clause-fits : goal.returns-after-loop-end-clause-fits
returns-after-loop-end-clause-fits c =
    let k = c.loop-end.end - 1 - c.args.at in
    let last = c.loop-end.invariant.run k (omega (arith, c.loop-end.invariant.beyond)) in
    omega (arith, last, (c.type_inv.exponents (c.args.at + k)).fits, c.loop-end.invariant.beyond)
