use Rattle.par2_slices.proofs.Common.{◌≡◌, ◌∙◌, ◌+◌, ℕ, List, false, true, set, ap, sym, subst, ◌==◌, Option, Some, None, eqb-true, and_parts, is_none, bytes_eq, Pair, answer_at, is_awaited, pair_at, pair_place_at, has_checksums, IsPlace, Position, PairPlace, none_from}
use Rattle.par2_slices.proofs.Searching.{Settled, not_settled, one_settled, has_is, no_md5, not_awaited}
use Rattle.par2_slices.proofs.search.answer_pairs.Goals as goal
use Rattle.par2_slices.proofs.search.answer_pairs.Goals.{then-is_awaited+then-eq, else-is_awaited, else-is_awaited-via-then-is_awaited+else-eq, else-is_awaited-via-else-is_awaited}

pub loop-place-preserved : goal.loop-place-preserved
loop-place-preserved c =
    let pairs : List Pair = c.args.wanted.now in
    let md5 : List ℕ = c.args.md5.now in
    let crc : ℕ = c.args.candidate.crc in
    let position : Position = c.args.candidate.position in
    let old : List (Option Position) = c.args.found.now.items in
    let group : List PairPlace = c.group-place-items.result.now in
    let n : ℕ = c.loop-place.place-index in
    let found : List (Option Position) = c.loop-place.found.items in
    let count : ℕ = c.loop-place.count in
    let place : PairPlace = pair_place_at group n in
    let its : IsPlace pairs place = c.group-place-items.ensures.each n c.loop-place-test.true in
    let pair : Pair = pair_at pairs place.index in
    let pending : c.is_awaited.result ≡ is_awaited crc found place = c.is_awaited.ensures ∙ ap (λ f. is_awaited crc f place) c.deref.ensures.value in
    let read : bytes_eq md5 (pair_at c.pairs-pairs.result.now place.index).0 ≡ bytes_eq md5 pair.0 = ap (λ ps. bytes_eq md5 (pair_at ps place.index).0) c.pairs-pairs.ensures in
    let After : List (Option Position) → ℕ → Type 0 = λ f k. Settled pairs md5 crc position old group (n + 1) f k in
    let moved : (f : List (Option Position)) (k : ℕ) → c.if-is_awaited.found.items ≡ f → c.if-is_awaited.count ≡ k → After f k → After c.if-is_awaited.found.items c.if-is_awaited.count = λ f k same is after.
    subst (λ g. After g c.if-is_awaited.count) (sym same) (subst (After f) (sym is) after) in
    elim c.if-is_awaited.branch [
      | then-is_awaited+then-eq w ↦ (
          let items : c.if-is_awaited.found.items ≡ set found place.index (Some position) = ap (λ v. v.items) w.found-is in
          let awaited = and_parts (place.crc == crc) (is_none (answer_at found place.index)) (sym pending ∙ w.if-is_awaited.true) in
          let matched : has_checksums md5 crc pair ≡ true = has_is pair md5 crc (its.1 ∙ eqb-true _ _ awaited.0) (sym read ∙ sym w.eq.ensures ∙ w.if-eq.true) in
          moved _ _ items w.count-is (one_settled pairs md5 crc position old group n found count c.loop-place.invariant c.requires its.0 (none_from (answer_at found place.index) awaited.1) matched)
          )
      | else-is_awaited w ↦ (
          let items : c.if-is_awaited.found.items ≡ found = ap (λ v. v.items) w.found-is in
          let stays : (answer_at found place.index ≡ None → has_checksums md5 crc pair ≡ false) → After c.if-is_awaited.found.items c.if-is_awaited.count = λ fails.
          moved _ _ items w.count-is (not_settled pairs md5 crc position old group n found count c.loop-place.invariant its.0 fails)
          in
          elim w.else-is_awaited.branch [
            | else-is_awaited-via-then-is_awaited+else-eq w' ↦ stays (λ none. no_md5 pair md5 crc (sym read ∙ sym w'.eq.ensures ∙ w'.if-eq.false))
            | else-is_awaited-via-else-is_awaited w' ↦ stays (not_awaited crc found place pair md5 its.1 (sym pending ∙ w'.if-is_awaited.false))
          ]
          )
    ]
