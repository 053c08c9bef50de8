use Rattle.par2_verify.proofs.Names.{◌≡◌, ◌∙◌, Bor, List, [], ◌∷◌, ℕ, refl, map, ap, ap₂, rules, zip, slice_get, bytes_of, IfOk-weaker, Option, Target, buffers_of, incomplete, intact_names, matched_numbers, option_and_then, YieldsList-at, YieldsList-from_map, YieldsList-from_slice, YieldsList-from_zip, items_from_collect, matches_by_numbers, free_by}
use Rattle.par2_verify.proofs.matching.matches.Goals as goal

abbrev with_name : List (List ℕ) → Bor Target × Option ℕ → Target × Option (List ℕ)
with_name names z = (z.0.now, option_and_then (slice_get names) z.1)

zipped : (names : List (List ℕ)) (ts : List (Bor Target)) (numbers : List (Option ℕ)) → map (with_name names) (zip ts numbers) ≡ zip (map (λ t. t.now) ts) (map (option_and_then (slice_get names)) numbers)
zipped names [] numbers = refl
zipped names (t ∷ ts) [] = refl
zipped names (t ∷ ts) (number ∷ numbers) = ap (λ ms. with_name names (t, number) ∷ ms) (zipped names ts numbers)

pub returns : goal.returns
returns c =
    let folder = c.args.folder.now.files in
    let set = c.args.set.now in
    let us : List Target = map (λ (t : Bor Target). t.now) c.in_ok-incomplete.incomplete.items in
    let names : List (List ℕ) = c.in_ok-free.free.items in
    let free : names ≡ free_by folder set c.args.candidates.now = c.in_ok-free.ensures (intact_names folder set) c.in_ok-incomplete.ensures.intact in
    let numbers : c.in_ok-numbers.numbers.items ≡ matched_numbers set.slice_size (map (bytes_of folder) names) us =
    c.in_ok-numbers.ensures ∙ ap₂ (λ s (xs : List (List ℕ)). matched_numbers s xs (map (λ t. t.now) c.deref-3.result.now)) c.slice_size.ensures.value (ap buffers_of c.deref-2.ensures.value ∙ c.in_ok-buffers.ensures ∙ ap (map (bytes_of folder)) c.deref.ensures.value)
    ∙ ap (matched_numbers set.slice_size (map (bytes_of folder) names)) (ap (map (λ t. t.now)) c.deref-3.ensures.value) in
    let found = λ (us : List Target) (ns : List (List ℕ)). zip us (map (option_and_then (slice_get ns)) (matched_numbers set.slice_size (map (bytes_of folder) ns) us)) in
    IfOk-weaker c.collect.result _ _ (λ list e. e ∙ zipped names c.in_ok-incomplete.incomplete.items c.in_ok-numbers.numbers.items
    ∙ ap (λ (is : List (Option ℕ)). zip us (map (option_and_then (slice_get names)) is)) numbers
    ∙ ap₂ found c.in_ok-incomplete.ensures.incomplete free
    ∙ matches_by_numbers folder set c.args.candidates.now c.requires (c.matches_by_number_are_by_name.ensures folder set.slice_size (free_by folder set c.args.candidates.now) (incomplete folder set)))
    (items_from_collect c.collect.result c.collect.ensures.ran
    (YieldsList-from_map _ (with_name names) (YieldsList-at c.map-matches.ensures.source (YieldsList-from_zip (YieldsList-from_slice c.in_ok-incomplete.incomplete.items cc) (YieldsList-from_slice c.in_ok-numbers.numbers.items cc))) c.map-matches.ensures.closure (λ x r q k. search rules)))
