use Rattle.par2_transform.proofs.Names.{◌*◌, ◌%◌, ◌≡◌, ◌≤◌, ◌^◌, ◌-◌, arith, pow_mono, shifted}
use Rattle.par2_transform.proofs.exponents.half_of.Goals as goal

pub returns-clause-bounds : goal.returns-clause-bounds
returns-clause-bounds c =
    let i = c.args.levels - 1 in
    let half : 1 * 2 ^ i % 18446744073709551616 ≡ 2 ^ i = shifted i (let most = c.requires.1 in omega (arith, most)) in
    let low : 2 ^ 3 ≤ 2 ^ i = pow_mono {i = 3} {j = i} (let some = c.requires.0 in omega (arith, some)) in
    let high : 2 ^ i ≤ 2 ^ 11 = pow_mono {i = i} {j = 11} (let most = c.requires.1 in omega (arith, most)) in
    (omega (arith, half, low), omega (arith, half, high))
