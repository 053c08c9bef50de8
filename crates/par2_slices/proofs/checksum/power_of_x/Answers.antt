use Rattle.par2_slices.proofs.Names.{◌∙◌, first_power, even_power, odd_power}
use Rattle.par2_slices.proofs.checksum.power_of_x.Goals as goal
use Rattle.par2_slices.proofs.checksum.power_of_x.Goals.{then-count-bit-eq1, else-count-bit-eq1}

pub loop-bit-init : goal.loop-bit-init
loop-bit-init c = first_power c.args.count 0x80000000 c.ranges.count.fits

pub loop-bit-preserved : goal.loop-bit-preserved
loop-bit-preserved c =
    elim c.if-count-bit-eq1.branch [
      | then-count-bit-eq1 w ↦ w.power-is ∙ w.after_byte-power.ensures
          ∙ odd_power c.args.count c.loop-bit.bit 0x80000000 c.loop-bit.power c.multiply-power.result c.loop-bit-test.true c.loop-bit.invariant c.multiply-power.ensures w.if-count-bit-eq1.true
      | else-count-bit-eq1 w ↦ w.power-is
          ∙ even_power c.args.count c.loop-bit.bit 0x80000000 c.loop-bit.power c.multiply-power.result c.loop-bit-test.true c.loop-bit.invariant c.multiply-power.ensures w.if-count-bit-eq1.false
    ]
