-- Findings on a set.
use Rattle.std.specs.Prelude.{◌≡◌, ℕ, Bool, List, length, map, flat_map, filter, find, not, Option, option_map, String, string_bytes}
use Rattle.std.specs.BTreeMap.{get}
use Rattle.par2_spec.specs.Prelude.{BTreeMap, slice_cmp, enumerate_from, option_map_or, nat_cmp, bytes_eq, Pair, Folder, has, Complete, TargetReport, incomplete_state, Target}

-- the slice checksums of those targets whose slices are searched for, in order
abbrev pub pairs_sought : (Target → Bool) → List Target → List Pair
pairs_sought sought targets = flat_map (λ t. t.pairs) (filter sought targets)

-- a map holds the matches of incomplete targets by their names
abbrev pub HoldsMatches : List (Target × Option (List ℕ)) → BTreeMap (List ℕ) (Option (List ℕ)) → Type 0
HoldsMatches incomplete matches =
    (name : List ℕ) → get (slice_cmp nat_cmp) matches name ≡ option_map (λ m. m.1) (find (λ m. bytes_eq m.0.name name) incomplete)

-- the report on a target, by the matches and the lost slices
abbrev pub said_of : Folder → BTreeMap (List ℕ) (Option (List ℕ)) → (Pair → Bool) → Target → TargetReport
said_of folder matches is_lost t = record {
  name = t.name;
  state = option_map_or (incomplete_state (has folder t.name)) (get (slice_cmp nat_cmp) matches t.name) Complete;
  found = length (filter (λ pair. not (is_lost pair)) t.pairs);
  total = length t.pairs;
}

-- the numbers of the lost slices among those with these checksums, counted from n
abbrev pub numbers_of_lost : ℕ → (Pair → Bool) → List Pair → List ℕ
numbers_of_lost n is_lost pairs = map (λ z. z.0) (filter (λ z. is_lost z.1) (enumerate_from n pairs))

-- the words of a command as bytes
abbrev pub words : {Z : Type 0} → List (String Z) → List (List ℕ)
words extras = map string_bytes extras
