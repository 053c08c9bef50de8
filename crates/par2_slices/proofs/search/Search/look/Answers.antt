use Rattle.par2_slices.proofs.Names.{◌≡◌, ◌∙◌, ℕ, List, sym, subst, arith, Option, count_by, Position, PairPlace, is_awaited, Search, no_more, unawaited}
use Rattle.par2_slices.proofs.search.Search.look.Goals as goal

pub returns-else-pairs-gt0 : goal.returns-else-pairs-gt0
returns-else-pairs-gt0 c =
    let crc : ℕ = c.args.crc in
    let group : List PairPlace = c.group.result.now in
    let room : Search = c.make_room.new.self in
    let none : c.awaited-pairs.result ≡ 0 = omega (arith, c.if-pairs-gt0.false) in
    no_more c.args.scan.now c.args.offset room.found.items room.left room.filter room.batch.items crc c.make_room.ensures.at c.requires.crc
    (unawaited c.args.scan.now.wanted.now room.found.items crc group c.group.ensures
    (subst (λ (found : List (Option Position)). count_by (is_awaited crc found) group ≡ 0) c.deref.ensures.value (sym c.awaited-pairs.ensures ∙ none)))
