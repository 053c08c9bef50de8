use Rattle.par2_verify.proofs.Names.{◌≡◌, ◌∙◌, List, [], ◌∷◌, ℕ, map, refl, sym, ap, subst, arith, rules, tests, Option, option_map, IfOk-weaker, map-map, bytes_eq, slice_cmp, nat_cmp, IsDistinct, itself, same_either_way, Target, YieldsList-from_map, YieldsList-from_slice, fact_from_collect, update_all_none, is_eq-slice_cmp, IsEquivalence, lookup, find, same_name}
use Rattle.std.specs.BTreeMap.{IsFromIterResult}
use Rattle.par2_verify.proofs.matching.matches_by_name.Goals as goal

abbrev by_name : Target × Option (List ℕ) → List ℕ × Option (List ℕ)
by_name m = (m.0.name, m.1)

laws : IsEquivalence bytes_eq
laws = record { refl = itself; symm = same_either_way; congr = λ x y z e. ap (λ name. bytes_eq name z) (same_name x y e) }

looked_up : (ms : List (Target × Option (List ℕ))) (name : List ℕ) → lookup (bytes_eq name) (map by_name ms) ≡ option_map (λ m. m.1) (find (λ m. bytes_eq m.0.name name) ms)
looked_up [] name = refl
looked_up (m ∷ ms) name = grind (arith, same_either_way name m.0.name, looked_up ms name)

pub returns : goal.returns
returns c = λ once.
    let ms : List (Target × Option (List ℕ)) = c.args.incomplete.now in
    IfOk-weaker c.collect.result _ _ (λ tree is. λ name. is.0 name
    ∙ update_all_none laws _ is_eq-slice_cmp (map by_name ms) name (subst (IsDistinct bytes_eq) (sym (map-map (λ (e : List ℕ × Option (List ℕ)). e.0) by_name ms)) once) ∙ looked_up ms name)
    (fact_from_collect (IsFromIterResult (slice_cmp nat_cmp)) c.collect.result c.collect.ensures.ran
    (YieldsList-from_map _ by_name (YieldsList-from_slice ms cc) c.map.ensures.closure (λ x r q k. search (rules, tests))))
