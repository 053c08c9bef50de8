use Rattle.par2_slices.proofs.Names.{◌≡◌, ℕ, suc, ◌+◌, ◌-◌, ◌*◌, ◌/◌, ◌%◌, ◌^◌, ◌∙◌, ap, arith, bit_xor, crc_step, rules, steps, first_product, more_product}
use Rattle.par2_slices.proofs.checksum.multiply.Goals as goal

pub loop-bit-init : goal.loop-bit-init
loop-bit-init c n power = first_product n c.args.a

pub loop-bit-preserved : goal.loop-bit-preserved
loop-bit-preserved c n power =
    let i : ℕ = c.loop-bit.bit in
    let m : ℕ = 32 - (i + 1) in
    let left : i + m ≡ 31 = omega arith in
    let held : c.loop-bit.product ≡ steps n (c.args.a % 2 ^ i * 2 ^ suc m) = (
    c.loop-bit.invariant n power ∙ ap (λ t. steps n (c.args.a % 2 ^ i * 2 ^ t)) (let e : 32 - i ≡ suc m = omega arith in e)
    ) in
    ap (λ t. bit_xor t (c.args.a / 2 ^ i % 2 * c.args.b)) (let e : bit_xor (c.loop-bit.product / 2) (c.loop-bit.product % 2 * 0xEDB88320) ≡ crc_step c.loop-bit.product = search rules in e)
    ∙ more_product n c.args.a c.args.b i m c.loop-bit.product left power held
