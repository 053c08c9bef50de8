use Rattle.par2_output.proofs.Common.{◌∙◌, arith, rules, part, step}
use Rattle.std.proofs.lemmas.Result.{err_from_is_err_and}
use Rattle.par2_output.proofs.printer.write_bytes.Goals as goal

pub loop-rest-preserved : goal.loop-rest-preserved
loop-rest-preserved g c =
    let so_far = c.loop-rest.invariant in
    let next = step _ (g.W.Write.contents c.loop-rest.out.writer) _ so_far.0 c.loop-rest.rest.now _ c.in_ok-n.n so_far.1 so_far.2.0 c.in_ok-n.ensures.took.0 in
    (next.0, next.1, (next.2, c.in_ok-n.ensures.took.1 ∙ so_far.2.1))

pub returns-in_err-n : goal.returns-in_err-n
returns-in_err-n g c =
    let p = err_from_is_err_and c.from_residual.result c.from_residual.ensures.1 in
    let so_far = c.loop-rest.invariant in
    rw p.1 (
      part _ (g.W.Write.contents c.loop-rest.out.writer) _ so_far.0 c.loop-rest.rest.now _ so_far.1 (search rules) so_far.2.0 c.in_err-n.ensures.none.0,
      omega (arith, so_far.2.1, c.in_err-n.ensures.none.1),
    )
