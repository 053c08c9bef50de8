-- B-tree sets of names, or of keys that represent names.
use Rattle.par2_spec.proofs.Common.{◌≡◌, ℕ, List, [], ◌∷◌, ◌++◌, true, cond, arith, slice_cmp, nat_cmp, Ordering, is_eq-slice_cmp, is_among, BTreeSet, contains, is_at}
use Rattle.par2_spec.proofs.Basics.{among-append, same_either_way}

-- the order of keys by their names
abbrev pub name_order : {K : Type 0} → (K → List ℕ) → K → K → Ordering
name_order name_of a b = slice_cmp nat_cmp (name_of a) (name_of b)

-- a tree with one more key
pub holds_more : {K : Type 0} (name_of : K → List ℕ) (old new : BTreeSet K) (key : K) (names : List (List ℕ))
    → ((q : K) → contains (name_order name_of) new q ≡ cond (is_at (name_order name_of key) q) true (contains (name_order name_of) old q))
    → ((q : K) → contains (name_order name_of) old q ≡ is_among names (name_of q))
    → (q : K) → contains (name_order name_of) new q ≡ is_among (names ++ name_of key ∷ []) (name_of q)
holds_more name_of old new key names updates holds q = grind (arith, is_eq-slice_cmp, same_either_way, among-append)
