use Rattle.par2_sets.proofs.AnswerNames.{◌≡◌, ◌∙◌, List, ℕ, inr, sym, ap, Some, None, map, find, filter_map, option_map, option_and_then, eq_by_cmp, bytes_eq, rules, ok_or, packet_view, Bor, DescBody, read_desc, description_of, NoDescription, slice_cmp, nat_cmp, YieldsList-from_slice, YieldsList-from_filter_map, filter_map-map, option_copied, firsts_of, found, same_id, item_at, all_some, take_all, arith, all_some_more, all_some_none, Option}
use Rattle.par2_packets.specs.declared.scan.Packet as scan
use Rattle.par2_sets.proofs.set.descriptions.Goals.{After-and_then}
use Rattle.par2_sets.proofs.set.descriptions.Goals as goal

-- the map has the packet of the first description of each File ID
described : (c : After-and_then) → c.and_then.result ≡ description_of (map packet_view c.args.packets.now) c.id.result
described c =
    let id = c.id.result in
    let ps : List scan.Packet = c.args.packets.now in
    let read : scan.Packet → Option DescBody = λ p. read_desc p.kind p.body.now in
    let entry : scan.Packet → Option (List ℕ × scan.Packet) = λ p. option_map (λ d. (d.id, p)) (read p) in
    let step : c.and_then.result ≡ option_and_then read (option_copied c.get.result) = search rules in
    step ∙ ap (option_and_then read) (c.get.ensures.value ∙ firsts_of (slice_cmp nat_cmp) c.in_ok-firsts.firsts c.in_ok-firsts.ensures (YieldsList-from_filter_map _ entry (YieldsList-from_slice ps cc) c.filter_map-described.ensures.closure (λ x r q k. search rules)) id)
    ∙ found (eq_by_cmp (slice_cmp nat_cmp) id) read (λ d. d.id) ps
    ∙ (λ i. find (λ d. same_id id d.id i) (filter_map read ps))
    ∙ ap (find (λ d. bytes_eq d.id id)) (sym (filter_map-map (λ p. read_desc p.kind p.body) packet_view ps))

pub returns-in_default : goal.returns-in_default
returns-in_default c =
    let at = item_at c.args.main.now.ids c.loop-k.k _ c.id.ensures in
    inr (ap (λ o. ok_or o NoDescription) (all_some_none (description_of (map packet_view c.args.packets.now)) c.args.main.now.ids c.loop-k.k c.id.result at.0 at.1 (sym (described (goal.at.returns-in_default c).After-and_then) ∙ c.in_default.is)))

pub loop-k-preserved : goal.loop-k-preserved
loop-k-preserved c =
    let at = item_at c.args.main.now.ids c.loop-k.k _ c.id.ensures in
    all_some_more (description_of (map packet_view c.args.packets.now)) c.args.main.now.ids c.loop-k.k c.id.result c.loop-k.descriptions.items c.in-Some.description at.0 at.1 c.loop-k.invariant (sym (described (goal.at.loop-k-preserved c).After-and_then) ∙ c.in-Some.is)
    ∙ ap Some (sym c.in_ok-push.ensures.items)

pub returns : goal.returns
returns c = ap (λ ids. ok_or (all_some (map (description_of (map packet_view c.args.packets.now)) ids)) NoDescription) (sym (take_all c.loop-k.k c.args.main.now.ids (omega arith))) ∙ ap (λ o. ok_or o NoDescription) c.loop-k.invariant
