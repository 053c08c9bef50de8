use Rattle.par2_verify.proofs.Common.{◌≡◌, ◌+◌, ◌∷◌, [], List, ℕ, Bool, cond, get_or, drop, arith, append_assoc, drop_more, map-cond, contains, Pair, numbers_of_lost, count_cmp}
use Rattle.par2_verify.proofs.report.lost_numbers.Goals as goal

lost_more : (is_lost : Pair → Bool) (n : ℕ) (pair : Pair) (pairs : List Pair) → numbers_of_lost n is_lost (pair ∷ pairs) ≡ cond (is_lost pair) (n ∷ numbers_of_lost (n + 1) is_lost pairs) (numbers_of_lost (n + 1) is_lost pairs)
lost_more is_lost n pair pairs = grind (arith, map-cond)

pub loop-i-preserved : goal.loop-i-preserved
loop-i-preserved c =
    let i : ℕ = c.loop-i.i in
    let is_lost = contains count_cmp c.args.lost.now in
    let later : List Pair = drop (i + 1) c.args.pairs.now in
    grind (arith, drop_more c.args.pairs.now i ([], 0) c.loop-i-test.true, lost_more is_lost i (get_or c.args.pairs.now i ([], 0)) later, append_assoc c.loop-i.numbers.items (i ∷ []) (numbers_of_lost (i + 1) is_lost later))
