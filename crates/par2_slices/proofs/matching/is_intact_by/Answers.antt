use Rattle.par2_slices.proofs.Names.{◌≡◌, ◌<◌, ◌∙◌, List, length, sym, ap, subst, rules, Pair, pair_at, IsFirst, not_intact_by_first}
use Rattle.par2_slices.proofs.matching.is_intact_by.Goals as goal

pub returns-then-target-crc : goal.returns-then-target-crc
returns-then-target-crc c t h =
    let s = c.args.s in
    let bytes = c.args.bytes.now in
    let pairs : List Pair = c.args.target.now.pairs.now in
    let first : IsFirst s bytes c.in-Some.crc = c.requires.first c.in-Some.crc c.in-Some.is in
    sym (not_intact_by_first s t bytes c.requires.size first.some (subst (λ ps. 0 < length ps) (sym h.pairs) (search rules))
    (λ same.
    let e : (pair_at pairs 0).1 ≡ c.in-Some.crc = ap (λ (ps : List Pair). (pair_at ps 0).1) (sym h.pairs) ∙ sym same ∙ sym first.crc in
    c.if-target-crc.true e))
