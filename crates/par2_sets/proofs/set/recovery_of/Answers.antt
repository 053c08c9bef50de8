use Rattle.par2_sets.proofs.AnswerNames.{lookup, ◌≡◌, ◌∙◌, ℕ, List, map, sym, ap, subst, rules, option_map, nat_cmp, eq_by_cmp, IsStrictlyIncreasing, IfOk-weaker, lookup-map_values, packet_view, set_exponents, set_recovery, YieldsList-from_map_by, YieldsList-from_slice, YieldsList-at, YieldsList-from_filter_map, filter_map-map, entry_of, usable, slices_in, pair_of, first_slices, rising, items_of, IsOrdered, items_from_collect, YieldsList-from_rest}
use Rattle.par2_packets.specs.declared.scan.Packet as scan
use Rattle.par2_sets.proofs.set.recovery_of.Goals as goal

pub returns : goal.returns
returns c =
    let ps : List scan.Packet = c.args.packets.now in
    let E = eq_by_cmp nat_cmp in
    let s = c.args.s in
    let useful = λ (p : scan.Packet). usable s (packet_view p) in
    let es = c.in_ok-firsts.field-0.entries in
    let ran = c.in_ok-firsts.ensures in
    let items = items_of entry_of ran.0 ran.1 (YieldsList-from_map_by _ entry_of pair_of (
    YieldsList-at c.map-slices.ensures.source (YieldsList-from_filter_map _ useful (YieldsList-from_slice ps cc) c.filter_map-found.ensures.closure (λ x r q k. search rules)))
    c.map-slices.ensures.closure (λ x r q k. search rules)) in
    let says : (q : ℕ) → option_map (λ x. x.now) (lookup (E q) es) ≡ lookup (E q) (slices_in (map packet_view ps) s) = λ q.
    ap (option_map (λ x. x.now)) (ran.2 q) ∙ sym (lookup-map_values (λ x. x.now) (E q) ran.0)
    ∙ ap (lookup (E q)) (items ∙ ap (map pair_of) (sym (filter_map-map (usable s) packet_view ps))) in
    let up : IsOrdered nat_cmp c.in_ok-firsts.field-0 = search rules in
    let same = first_slices (map packet_view ps) s es up says in
    let all = items_from_collect c.collect.result c.collect.ensures.ran (YieldsList-from_rest es cc) in
    record {
      value = IfOk-weaker c.collect.result _ _ (λ list e. ap set_recovery e ∙ same) all;
      rising = IfOk-weaker c.collect.result _ _ (λ list e. subst (λ xs. IsStrictlyIncreasing (set_exponents xs)) (sym e) (rising es up)) all;
    }
