use Rattle.par2_slices.proofs.Names.{◌≡◌, List, subst, arith, false_from_ne_true, Option, count_by, Position, is_awaited, ltb-false, ltb-true, all_answered, unawaited}
use Rattle.par2_slices.proofs.search.Search.awaits.Goals as goal

pub returns-then-contains : goal.returns-then-contains
returns-then-contains c =
    let pairs = c.args.wanted.now in
    let found : List (Option Position) = c.args.self.now.found.items in
    let count_is : c.awaited.result ≡ count_by (is_awaited c.args.crc found) c.group.result.now = subst (λ (found : List (Option Position)). c.awaited.result ≡ count_by (is_awaited c.args.crc found) c.group.result.now) c.deref.ensures.value c.awaited.ensures in (
      λ none. unawaited pairs found c.args.crc c.group.result.now c.group.ensures (let zero : count_by (is_awaited c.args.crc found) c.group.result.now ≡ 0 = omega (arith, ltb-false 0 c.awaited.result (false_from_ne_true _ none), count_is) in zero),
      λ have some. let few : ⊥ = omega (arith, ltb-true 0 c.awaited.result some, count_is, all_answered pairs found c.args.crc c.group.result.now c.group.ensures have) in few,
    )
