use Rattle.par2_slices.proofs.Common.{◌≡◌, ◌∙◌, ◌<◌, ◌-◌, ℕ, List, true, false, inr, refl, sym, subst, ap, length, Option, None, Position, answer_at, pair_at, pair_place_at, IsOfOpenPair, IsTally, PairPlace, AreAlike, Groups, Includes}
use Rattle.par2_slices.proofs.Searching.{included_alike, not_closed, tally_settled, waiting_pair}
use Rattle.par2_slices.proofs.search.Search.answer.Goals as goal
use Rattle.par2_slices.proofs.search.Search.answer.Goals.{After-is_waiting}

-- the tally with a filter that keeps the group if a pair of it is open
tally_with : (c : After-is_waiting) (after : Groups)
    → ((i : ℕ) → i < length c.args.wanted.now → answer_at c.answer_pairs.new.found.items i ≡ None → Includes c.args.self.now.filter (pair_at c.args.wanted.now i).1 → Includes after (pair_at c.args.wanted.now i).1)
    → after.shift ≡ c.args.self.now.filter.shift
    → ((other : ℕ) → Includes after other → Includes c.args.self.now.filter other)
    → ((other : ℕ) → Includes after other → AreAlike c.args.self.now.filter.shift c.args.candidate.crc other → IsOfOpenPair c.args.self.now.filter.shift c.args.wanted.now c.answer_pairs.new.found.items other)
    → IsTally c.args.wanted.now c.answer_pairs.new.found.items (c.args.self.now.left - c.answer_pairs.result) after
tally_with c after keeps shift fewer pending =
    tally_settled c.args.wanted.now c.args.md5 c.args.candidate.crc c.args.candidate.position c.args.self.now.found.items c.answer_pairs.new.found.items c.args.self.now.left c.answer_pairs.result c.args.self.now.filter after c.requires
    c.answer_pairs.ensures.len (λ i h. inr (c.answer_pairs.ensures.each i h)) c.answer_pairs.ensures.count keeps shift fewer pending

pub returns-then-not-is_waiting-clause-tally : goal.returns-then-not-is_waiting-clause-tally
returns-then-not-is_waiting-clause-tally c =
    let new : List (Option Position) = c.answer_pairs.new.found.items in
    let crc : ℕ = c.args.candidate.crc in
    let shift : ℕ = c.args.self.now.filter.shift in
    let group : List PairPlace = c.group.result.now in
    let closed : (k : ℕ) → k < length group → AreAlike shift crc (pair_place_at group k).crc → answer_at new (pair_place_at group k).index ≡ None → ⊥ = λ k h low none.
    let both : true ≡ false = sym (c.is_waiting.ensures.1 (k, h, low, ap (λ found. answer_at found (pair_place_at group k).index) c.deref.ensures.value ∙ none)) ∙ c.if-not-is_waiting.true in
    cc
    in
    tally_with (goal.at.returns-then-not-is_waiting-clause-tally c).After-is_waiting c.remove.new.self
    (λ i h none. c.remove.ensures.kept (pair_at c.args.wanted.now i).1 (not_closed shift c.args.wanted.now new crc group c.requires.fine c.group.ensures closed i h none))
    c.remove.ensures.shift
    c.remove.ensures.only
    (λ other is alike. absurd (c.remove.ensures.gone (included_alike c.remove.new.self crc other (subst (λ (shift : ℕ). AreAlike shift crc other) (sym c.remove.ensures.shift) alike) is)))

pub returns-else-not-is_waiting-clause-tally : goal.returns-else-not-is_waiting-clause-tally
returns-else-not-is_waiting-clause-tally c =
    let new : List (Option Position) = c.answer_pairs.new.found.items in
    let group : List PairPlace = c.group.result.now in
    let pending = c.is_waiting.ensures.0 c.if-not-is_waiting.false in
    let none : answer_at new (pair_place_at group pending.0).index ≡ None = ap (λ found. answer_at found (pair_place_at group pending.0).index) (sym c.deref.ensures.value) ∙ pending.3 in
    tally_with (goal.at.returns-else-not-is_waiting-clause-tally c).After-is_waiting c.args.self.now.filter
    (λ i h none is. is)
    refl
    (λ other is. is)
    (λ other is. waiting_pair c.args.self.now.filter.shift c.args.wanted.now new c.args.candidate.crc group c.group.ensures pending.0 pending.1 pending.2 none other)
