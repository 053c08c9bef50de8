use Rattle.par2_slices.proofs.Common.{◌≡◌, ◌∙◌, ℕ, List, [], ◌∷◌, map, refl, ap, ap₂, Option, Some, None, option_map, option_or, Pair, first_match, first_position, position_in, Position}
use Rattle.std.proofs.lemmas.Result.{IfOk-weaker}
use Rattle.par2_slices.proofs.search.find.Goals as goal

-- the offset of a position in the only buffer
alone : (answer : Option ℕ) → option_map (λ (position : Position). position.offset) (option_or (option_map (position_in 0) answer) None) ≡ answer
alone None = refl
alone (Some offset) = refl

offsets_alone : (s : ℕ) (bytes : List ℕ) (pairs : List Pair) → map (option_map (λ position. position.offset)) (map (first_position s (bytes ∷ [])) pairs) ≡ map (first_match s bytes) pairs
offsets_alone s bytes [] = refl
offsets_alone s bytes (pair ∷ pairs) = ap₂ (λ (o : Option ℕ) os. o ∷ os) (alone (first_match s bytes pair)) (offsets_alone s bytes pairs)

pub returns : goal.returns
returns c =
    IfOk-weaker c.offsets_of.result _ _ (λ offsets e. e ∙ ap (map (option_map (λ position. position.offset))) (c.deref.ensures.value ∙ c.in_ok-positions.ensures) ∙ offsets_alone c.args.s c.args.bytes.now c.args.wanted.now) c.offsets_of.ensures
