use Rattle.par2_slices.proofs.Names.{◌≡◌, ℕ, rules, refl, List, length, subst, arith, Option, Pair, Position, IsTally, IsFilled, filled_more, none_answered, common_steps}
use Rattle.par2_slices.proofs.search.Search.new.Goals as goal

pub returns-clause-tally : goal.returns-clause-tally
returns-clause-tally c =
    let pairs : List Pair = c.pairs-pairs.result.now in
    let found : List (Option Position) = c.in_ok-vec.field-0.items in
    let filled = c.in_ok-vec.ensures.items_if_clones_equal in
    subst (λ (ps : List Pair). IsTally ps found (length pairs) c.loop-pair.filter) c.pairs-pairs.ensures (none_answered pairs found (length pairs) c.loop-pair.filter (filled (λ y h. search rules)) refl (subst (λ (n : ℕ). IsFilled pairs n c.loop-pair.filter) (let e : c.loop-pair.pair-index ≡ length pairs = omega arith in e) c.loop-pair.invariant))

pub loop-pair-preserved : goal.loop-pair-preserved
loop-pair-preserved c =
    filled_more c.pairs-pairs.result.now c.loop-pair.pair-index c.loop-pair.filter c.insert.new.self c.loop-pair.invariant c.loop-pair-test.true _
    c.insert.ensures.shift c.insert.ensures.included c.insert.ensures.kept c.insert.ensures.only (search rules)

pub returns-clause-open : goal.returns-clause-open
returns-clause-open c = grind (arith, common_steps)
