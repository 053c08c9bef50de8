use Rattle.par2_matrix.proofs.Names.{AreHoleEquations, Fits-lt-pow, all_from, are_hole_inverse, arith, length-lists_of, lists_of, ◌<◌, ◌^◌, ◌≡◌}
use Rattle.par2_matrix.proofs.holes.hole_inverse.Goals as goal

pub returns-in-Ok : goal.returns-in-Ok
returns-in-Ok c =
    let p = c.args.locator.now in
    let places = c.args.places.now in
    let buffers = c.in-Ok.buffers.items in
    let system = c.in-Some.system in
    let are : AreHoleEquations p places c.args.count c.args.count system = rw c.in-Some.is at c.in_ok-system.ensures in
    let full : c.rank.result ≡ system.columns = omega (arith, c.rank.ensures.most, c.if-rank-places.false, are.columns) in
    are_hole_inverse p places c.args.count system (lists_of buffers) (lists_of c.in_ok-rows_of-in-Ok.field-0.items)
    (all_from (λ x. x < 2 ^ 16) 0 p (λ i _. Fits-lt-pow (c.type_inv.locator i))) are (c.rank.ensures.full.0 full) c.in-Ok.ensures.ok
    (rw (c.deref.ensures.value, ← length-lists_of buffers) at c.in_ok-rows_of-in-Ok.ensures)
