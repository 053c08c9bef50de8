-- The first position whose item passes a test.
use Rattle.par2_spec.proofs.Common.{◌≡◌, ◌+◌, List, [], ◌∷◌, map, refl, ap, ap₂, Bool, not, cond, position, position_or_len, length-map}
use Rattle.std.proofs.Common.{Some, nat_lt, None}

len-map : {X Y : Type 0} (p : Y → Bool) (g : X → Y) (xs : List X) → position_or_len p (map g xs) ≡ position_or_len (λ x. p (g x)) xs
len-map p g [] = refl
len-map p g (x ∷ xs) = ap (λ n. cond (not (p (g x))) (1 + n) 0) (len-map p g xs)

pub position-map : {X Y : Type 0} (p : Y → Bool) (g : X → Y) (xs : List X) → position p (map g xs) ≡ position (λ x. p (g x)) xs
position-map p g xs = ap₂ (λ a b. cond (nat_lt a b) (Some a) None) (len-map p g xs) (length-map xs g)
