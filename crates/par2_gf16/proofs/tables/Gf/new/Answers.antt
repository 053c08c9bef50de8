use Rattle.par2_gf16.proofs.Names.{arith, sym, ◌∙◌, first_start, first_pushed, first_kept, second_step, tables_made}
use Rattle.par2_gf16.proofs.tables.Gf.new.Goals.{then-is_constant_power+in_ok-push-2, else-is_constant_power}
use Rattle.par2_gf16.proofs.tables.Gf.new.Goals as goal

pub loop-i-init : goal.loop-i-init
loop-i-init c = rw (c.new-powers.ensures.items, c.new-constants.ensures.items) (first_start c.in_ok-logs.logs.items c.in_ok-logs.ensures)

pub loop-i-preserved : goal.loop-i-preserved
loop-i-preserved c =
    let l = c.loop-i in
    elim c.if-is_constant_power.branch [
      | then-is_constant_power+in_ok-push-2 w ↦
          rw (c.in_ok-push.ensures.items, w.constants-is, w.in_ok-push-2.ensures.items)
          (first_pushed l.logs.items l.powers.items l.constants.items l.x c.doubled-x.result l.i (omega arith) l.invariant c.doubled-x.ensures (sym c.is_constant_power.ensures ∙ w.if-is_constant_power.true))
      | else-is_constant_power w ↦
          rw (c.in_ok-push.ensures.items, w.constants-is)
          (first_kept l.logs.items l.powers.items l.constants.items l.x c.doubled-x.result l.i (omega arith) l.invariant c.doubled-x.ensures (sym c.is_constant_power.ensures ∙ w.if-is_constant_power.false))
    ]

pub loop-j-preserved : goal.loop-j-preserved
loop-j-preserved c =
    let l = c.loop-j in
    rw c.in_ok-push-3.ensures.items (second_step l.powers.items l.x c.doubled-x-in-loop-j.result l.j l.invariant c.doubled-x-in-loop-j.ensures)

pub invariant_of-result : goal.invariant_of-result
invariant_of-result c = record {
  tables =
      let one = c.loop-i in
      let two = c.loop-j in
      tables_made one.logs.items one.powers.items two.powers.items one.constants.items one.x two.x one.i two.j (omega arith) (omega arith) one.invariant two.invariant;
}
