use Rattle.par2_matrix.proofs.Names.{CutDown, Dependent, Global, IsDependent, IsIndependent, IsUnit, Kept, List, Ok, Standing, Vec, ap, arith, dependent_is_not_kept, eliminated, full_follows, length, length-map, stands_more, stands_still, subst, sym, ℕ, ◌+◌, ◌∙◌, ◌≡◌}
use Rattle.par2_matrix.specs.Systems as systems
use Rattle.par2_matrix.proofs.exponents.eliminate.Goals as goal

pub loop-i-preserved-then-rank-lost : goal.loop-i-preserved-then-rank-lost
loop-i-preserved-then-rank-lost c =
    stands_still c.args.lost.now c.args.units c.args.exponents.now.numbers.now c.args.exponents.now.rise c.loop-i.i c.loop-i-test.true c.loop-i.kept.items c.loop-i.system c.loop-i.invariant
    (full_follows c.loop-i.system _ (c.rank.ensures.full.0 (c.if-rank-lost.true ∙ sym c.loop-i.invariant.columns)))

pub loop-i-preserved : goal.loop-i-preserved
loop-i-preserved c =
    let lost = c.args.lost.now in let all = c.args.exponents.now.numbers.now in let rise = c.args.exponents.now.rise in let i = c.loop-i.i in
    let system = c.loop-i.system in let invariant = c.loop-i.invariant in let row_is = c.deref.ensures.value ∙ c.in_ok-row.ensures in
    elim c.match-branch-5.branch [
      | goal.in-Kept+in_ok-push-in-Kept w ↦
          let is : c.offer.result ≡ Ok Kept = c.in_ok-offer.was ∙ ap Ok w.in-Kept.is in
          stands_more lost c.args.units all rise i c.loop-i-test.true c.loop-i.kept.items system invariant c.match-branch-5.kept.items c.in_ok-right.right.items c.offer.new.self
          (ap (λ (x : Vec ℕ Global). x.items) w.kept-is ∙ w.in_ok-push-in-Kept.ensures.items) c.offer.ensures.columns c.offer.ensures.bytes
          (subst (λ (row : List ℕ). CutDown system c.offer.new.self row c.in_ok-right.right.items) row_is (c.offer.ensures.kept is)) (subst (IsIndependent system) row_is (c.offer.ensures.independent is))
          (λ few. subst (λ m. IsUnit c.args.units m c.in_ok-right.right.items) (c.rank-in-loop-i.ensures.value ∙ invariant.count) (c.in_ok-right.ensures.unit (let value = c.rank-in-loop-i.ensures.value in let count = invariant.count in omega (arith, few, value, count))))
      | goal.in-Dependent w ↦
          let is : c.offer.result ≡ Ok Dependent = c.in_ok-offer.was ∙ ap Ok w.in-Dependent.is in
          subst (λ (s : systems.Equations). Standing lost c.args.units all c.match-branch-5.kept.items (i + 1) s) (sym (c.offer.ensures.unchanged (dependent_is_not_kept c.offer.result is)))
          (subst (λ (xs : Vec ℕ Global). Standing lost c.args.units all xs.items (i + 1) system) (sym w.kept-is)
          (stands_still lost c.args.units all rise i c.loop-i-test.true c.loop-i.kept.items system invariant (subst (IsDependent system) row_is (c.offer.ensures.dependent is))))
    ]

pub returns : goal.returns
returns c =
    let all = c.args.exponents.now.numbers.now in let at_end : c.loop-i.i ≡ length all = omega (arith, c.loop-i-test.false, c.loop-i.auto.i-end) in
    eliminated c.args.lost.now c.args.units all c.loop-i.kept.items c.loop-i.i c.loop-i.system at_end c.loop-i.invariant

pub offer-requires : goal.offer-requires
offer-requires c = record { row = ap (λ (xs : List ℕ). length xs) (c.deref.ensures.value ∙ c.in_ok-row.ensures) ∙ length-map c.args.lost.now _ ∙ sym c.loop-i.invariant.columns; right = c.in_ok-right.ensures.size ∙ sym c.loop-i.invariant.bytes }
