use Rattle.par2_md5_lanes.proofs.Names.{◌%◌, ◌-◌, arith, get_or-replicate, shifts_fit_splat, lanes}
use Rattle.std.proofs.lemmas.Simd.{length-replicate}
use Rattle.par2_md5_lanes.proofs.blocks.SimdU32Lanes.rotated.Goals as goal

pub overflow_shl-result : goal.overflow_shl-result
overflow_shl-result g c = shifts_fit_splat 32 c.args.x g.row.N (c.args.shift % 32) (omega arith)

pub overflow_shr-result : goal.overflow_shr-result
overflow_shr-result g c = shifts_fit_splat 32 c.args.x g.row.N ((32 - c.args.shift % 32) % 32) (omega arith)

pub returns : goal.returns
returns g c = λ k h. grind (arith, lanes, get_or-replicate, length-replicate)
