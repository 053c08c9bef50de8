use Rattle.par2_journal_format.proofs.Common.{◌≡◌, ◌-◌, ap, sym, ◌∙◌, arith, length, map, drop, drop-map, take_all, length-drop, change_of}
use Rattle.par2_journal_format.proofs.walking.way_back.Goals as goal

pub returns-clause-back : goal.returns-clause-back
returns-clause-back c =
    let xs = c.as_slice.result.now in
    let n = c.len.result - c.len-2.result in
    let left = length-drop n xs in
    let mid : n ≡ length c.args.part.now.back - length c.in-Some.wanted.items = omega (arith, c.len.ensures, c.len-2.ensures) in
    c.in_ok-back.ensures ∙ ap (map change_of) (take_all (length xs - n) (drop n xs) (omega (arith, left)))
    ∙ sym (drop-map change_of n xs) ∙ ap (drop n) c.as_slice.ensures ∙ ap (λ m. drop m c.args.part.now.back) mid
