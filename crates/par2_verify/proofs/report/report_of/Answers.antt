use Rattle.par2_verify.proofs.Names.{set_in, ◌≡◌, ◌∙◌, List, ℕ, Ok, refl, sym, ap, ap₂, subst, map, flat_map, filter, is_none, list_any, eq_by_cmp, IsDistinct, bytes_eq, IfOk, map_from_collect, YieldsList-from_map_by, YieldsList-from_slice, rules, pairs_sought, said_of, target_report_of, Pair, candidates, matches, contains, slice_cmp, nat_cmp, filter_agree, found, bytes_of, is_among, names_without_match, Option, Target, HoldsMatches, count_cmp, answered, is_sought, once, std_from_distinct, distinct_once}
use Rattle.par2_verify.proofs.report.report_of.Goals.{In_ok-matches}
use Rattle.par2_verify.proofs.report.report_of.Goals as goal

-- the names that are searched
abbrev names : In_ok-matches → List (List ℕ)
names c = candidates c.args.folder.now.files c.args.set.now c.args.extras.now

matched : (c : In_ok-matches) → c.in_ok-incomplete.incomplete.items ≡ matches c.args.folder.now.files c.args.set.now (names c)
matched c = c.in_ok-incomplete.ensures ∙ ap (matches c.args.folder.now.files c.args.set.now) (c.deref.ensures.value ∙ c.in_ok-candidates.ensures)

held : (c : In_ok-matches) (base : List ℕ) → set_in c.args.folder.now.files base c.args.extras.now ≡ Ok c.args.set.now → HoldsMatches (matches c.args.folder.now.files c.args.set.now (names c)) c.in_ok-matches.matches
held c base reads =
    let own : c.deref-4.result.now ≡ matches c.args.folder.now.files c.args.set.now (names c) = c.deref-4.ensures.value ∙ matched c in
    subst (λ ms. HoldsMatches ms c.in_ok-matches.matches) own (c.in_ok-matches.ensures (subst (λ ms. IsDistinct bytes_eq (map (λ m. m.0.name) ms)) (sym own) (once c.args.folder.now.files base c.args.extras.now c.args.set.now reads)))

lost_are : (c : In_ok-matches) (pair : Pair) → contains count_cmp c.in_ok-lost.lost pair ≡ list_any (eq_by_cmp count_cmp pair) (filter (λ p. is_none (found c.args.set.now.slice_size (map (bytes_of c.args.folder.now.files) (names c)) p)) (pairs_sought (is_sought c.args.folder.now.files c.args.set.now (names c)) c.args.set.now.targets))
lost_are c pair =
    let set = c.args.set.now in
    let among = λ (t : Target). contains (slice_cmp nat_cmp) c.in_ok-unmatched.unmatched t.name in
    let sought : (t : Target) → among t ≡ is_sought c.args.folder.now.files set (names c) t =
    λ t. c.in_ok-unmatched.ensures t.name ∙ ap (λ (ms : List (Target × Option (List ℕ))). is_among (names_without_match ms) t.name) (c.deref-2.ensures.value ∙ matched c) in
    c.in_ok-lost.ensures pair
    ∙ ap₂ (λ (ns : List (List ℕ)) (ts : List Target). list_any (eq_by_cmp count_cmp pair) (filter (λ p. is_none (found set.slice_size (map (bytes_of c.args.folder.now.files) ns) p)) (flat_map (λ t. t.pairs) ts)))
    (c.deref-3.ensures.value ∙ c.in_ok-candidates.ensures) (filter_agree among (is_sought c.args.folder.now.files set (names c)) sought set.targets)

pub returns : goal.returns
returns c = λ base reads.
    let at = (goal.at.returns c).In_ok-matches in
    let set = c.args.set.now in
    let is_lost = contains count_cmp c.in_ok-lost.lost in
    let said : map target_report_of c.in_ok-targets.targets.items ≡ map (said_of c.args.folder.now.files c.in_ok-matches.matches is_lost) set.targets =
    subst (λ r. IfOk r (λ list. map target_report_of list.items ≡ map (said_of c.args.folder.now.files c.in_ok-matches.matches is_lost) set.targets)) c.in_ok-targets.was
    (map_from_collect c.collect.result c.collect.ensures.ran (YieldsList-from_map_by _ target_report_of (said_of c.args.folder.now.files c.in_ok-matches.matches is_lost) (YieldsList-from_slice set.targets cc) c.map.ensures.closure (λ x r q k. search rules))) in
    answered c.args.folder.now.files base c.args.extras.now set reads c.in_ok-matches.matches is_lost (held at base reads) (lost_are at) c.id.result _ _ c.in_ok-count.count c.in_ok-count.rank c.id.ensures said refl c.in_ok-count.ensures.0 c.in_ok-count.ensures.1

pub matches-requires : goal.matches-requires
matches-requires c = subst (IsDistinct bytes_eq) (sym (c.deref.ensures.value ∙ c.in_ok-candidates.ensures)) (std_from_distinct _ (distinct_once _))
