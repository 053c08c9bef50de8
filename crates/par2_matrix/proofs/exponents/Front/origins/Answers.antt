use Rattle.par2_matrix.proofs.Names.{AreOrigins, Exponent, Global, IsOriginAt, List, Origin, Vec, [], ap, arith, each_more, length, length_push, span, subst, sym, ℕ, ◌++◌, ◌+◌, ◌∙◌, ◌∷◌, ◌≡◌}
use Rattle.par2_matrix.proofs.exponents.Front.origins.Goals as goal

next_origin : (exponents : List ℕ) (n : ℕ) (before new : List Origin) (o : Origin) → AreOrigins exponents n before → new ≡ before ++ o ∷ [] → IsOriginAt exponents n o → AreOrigins exponents (n + 1) new
next_origin exponents n before new o so_far is here = subst (AreOrigins exponents (n + 1)) (sym is) (record {
  count = length_push before o ∙ ap (λ m. m + 1) so_far.count;
  each = each_more (IsOriginAt exponents) (Exponent 0) before o n so_far.count so_far.each here;
})

pub origin_at-requires-clause-within : goal.origin_at-requires-clause-within
origin_at-requires-clause-within c = omega (arith, c.loop-x-test.true, c.span-x-end.ensures)

pub loop-x-preserved : goal.loop-x-preserved
loop-x-preserved c = next_origin c.args.self.now.numbers.now c.loop-x.x c.loop-x.origins.items c.push.new.self.items c.origin_at.result c.loop-x.invariant c.in_ok-push.ensures.items c.origin_at.ensures

pub returns : goal.returns
returns c =
    let es = c.args.self.now.numbers.now in
    elim c.loop-x-test.branch [
      | goal.else-loop-x-test w ↦ absurd (omega (arith, w.loop-x-test.false, c.loop-x.auto.x-end))
      | goal.then-loop-x-test+in_ok-push+else-x-x-end w ↦
          let end : c.loop-x.x ≡ span es = omega (arith, c.span-x-end.ensures, w.loop-x-test.true) in
          subst (λ m. AreOrigins es (m + 1) c.loop-x-test.origins.items) end
          (next_origin es c.loop-x.x c.loop-x.origins.items c.loop-x-test.origins.items w.origin_at.result c.loop-x.invariant (ap (λ (v : Vec Origin Global). v.items) w.origins-is ∙ w.in_ok-push.ensures.items) w.origin_at.ensures)
    ]
