use Rattle.par2_md5_lanes.proofs.Common.{◌≡◌, ◌-◌, ◌*◌, ◌%◌, ◌^◌, arith, refl, take-replicate, ℕ}
use Rattle.par2_md5_lanes.proofs.midstate.ending.Goals as goal

pub returns : goal.returns
returns c = λ n same.
    let used : c.args.length % 64 ≡ n % 64 = omega (arith, same) in
    let bits : c.args.length * 8 % 2 ^ 64 ≡ n * 8 % 2 ^ 64 = omega (arith, same) in
    rw (used, bits, take-replicate {X = ℕ} ((119 - n % 64) % 64) 64 0 (omega arith)) refl
