use Rattle.par2_transform.proofs.Names.{◌^◌, arith, lower_set, ahead_start, ahead_unset, each_start, each_then, each_so}
use Rattle.par2_transform.proofs.fourier.add_lower_ahead.Goals.{then-powers-j-eq1, else-powers-j-eq1}
use Rattle.par2_transform.proofs.fourier.add_lower_ahead.Goals as goal

pub loop-j-init : goal.loop-j-init
loop-j-init c = each_start _ c.args.rows.now (ahead_start c.args.i c.args.start 0 (2 ^ c.args.i))

pub loop-j-preserved : goal.loop-j-preserved
loop-j-preserved c =
    let l = c.loop-j in
    let i = c.args.i in
    let start = c.args.start in
    let is = c.powers_in-powers.ensures in
    elim c.if-powers-j-eq1.branch [
      | then-powers-j-eq1 w ↦ rw w.rows-is (each_then l.invariant w.add_rows.ensures (lower_set i start l.j (omega arith) c.loop-j-test.true (rw (← is) w.if-powers-j-eq1.true)))
      | else-powers-j-eq1 w ↦ rw w.rows-is (each_so l.invariant (ahead_unset i start 0 (2 ^ i) l.j (rw (← is) w.if-powers-j-eq1.false)))
    ]
