use Rattle.recovery_calls.proofs.Common.{◌≡◌, ◌<◌, ◌≤◌, length, subst, IsTrue, rules, arith, All, IfSome, AllAdjacentBelow}
use Rattle.recovery_calls.proofs.ElementTests.{known_fits, recovery_fits, exponents_rise}
use Rattle.recovery_calls.proofs.can_rebuild.Goals as goal

pub returns : goal.returns
returns c rise =
    let survivors = c.args.survivors.now in
    let s = survivors.slice in
    let known : IsTrue c.known_fits.result = search rules in
    let recovery : IsTrue c.recovery_fits.result = search rules in
    record {
      count = search arith;
      even = search arith;
      known = known_fits s survivors.known.items
          (subst (λ xs. All (λ slice. IfSome slice (λ bytes. length bytes.now ≤ s)) xs) c.deref.ensures.value (c.known_fits.ensures known));
      recovery = recovery_fits s survivors.recovery.items
          (subst (λ xs. All (λ r. length r.1.now ≡ s) xs) c.deref-else-not-known_fits.ensures.value (c.recovery_fits.ensures recovery));
      exponents = exponents_rise survivors.recovery.items
          (subst (λ xs. AllAdjacentBelow (λ a b. a.0 < b.0) xs (length xs)) c.deref-2.ensures.value (c.exponents_rise.ensures rise));
    }
