use Rattle.par2_transform.proofs.Names.{◌+◌, ◌*◌, ◌/◌, ◌%◌, ◌≡◌, ◌∙◌, ap, sym, arith, pow, power_behind_rounds}
use Rattle.par2_transform.proofs.windows.power.Goals as goal

pub returns : goal.returns
returns c =
    let n = c.args.n in
    let parts : n ≡ n / 65535 * 65535 + n % 65535 = omega arith in
    c.pow.ensures ∙ sym (ap (pow 2) parts ∙ power_behind_rounds (n / 65535) (n % 65535))
