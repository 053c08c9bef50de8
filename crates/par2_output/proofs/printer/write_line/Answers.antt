use Rattle.par2_output.proofs.Common.{take_all, seen, lines_cut, wrote_less, wrote_then}
use Rattle.std.proofs.lemmas.Result.{err_from_is_err_and}
use Rattle.par2_output.proofs.printer.write_line.Goals as goal

pub returns-in_err-write_bytes : goal.returns-in_err-write_bytes
returns-in_err-write_bytes g c =
    let p = err_from_is_err_and c.from_residual.result c.from_residual.ensures.1 in
    let held = seen g.W.Write.contents in
    rw p.1 (wrote_less held c.args.out.now c.write_bytes.new.out _ _
    (lines_cut held (λ string. string.now) c.args.out.now c.loop-string.out c.write_bytes.new.out c.args.strings.now c.loop-string.string-index _ c.loop-string-test.true
    c.loop-string.invariant (rw c.as_bytes.ensures.value at c.in_err-write_bytes.ensures)))

pub returns : goal.returns
returns g c =
    wrote_then (seen g.W.Write.contents) c.args.out.now c.loop-string.out c.write_bytes-2.new.out _ _ c.write_bytes-2.result
    (rw (take_all c.loop-string.string-index c.args.strings.now c.loop-string-test.false) at c.loop-string.invariant) c.write_bytes-2.ensures
