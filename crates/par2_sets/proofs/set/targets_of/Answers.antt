use Rattle.par2_sets.proofs.AnswerNames.{◌≡◌, ◌∙◌, ◌⊎◌, ◌==◌, ◌&&◌, ◌++◌, ◌∷◌, [], if◌then◌else◌, Ok, Fault, DescBody, Target, List, ℕ, map, length, find, filter_map, option_map, eq_by_cmp, bytes_eq, ⊎_map, sym, ap, rules, Some, Err, arith, NoChecksums, IfscBody, read_ifsc, pairs_of, target_of, all_some, packet_view, was_some, ok_or, take_all, Returns, count_cmp, YieldsList-from_slice, YieldsList-from_filter_map, filter_map-map, get, Vec, Global, Pair, slice_count, firsts_of, keyed, same_count, all_some_more, passed_on, one_missing, common_steps, Option}
use Rattle.par2_packets.specs.declared.scan.Packet as scan
use Rattle.par2_sets.specs.declared.set.Target as code
use Rattle.par2_sets.proofs.set.targets_of.Goals.{In_ok-checksums}
use Rattle.par2_sets.proofs.set.targets_of.Goals as goal

-- the map has the first checksums of each File ID with each number of slices
held : (c : In_ok-checksums) (id : List ℕ) (n : ℕ) → option_map (λ x. x.pairs) (get count_cmp c.in_ok-checksums.checksums (id, n)) ≡ pairs_of (map packet_view c.args.packets.now) id n
held c id n =
    let ps : List scan.Packet = c.args.packets.now in
    let read : scan.Packet → Option IfscBody = λ p. read_ifsc p.kind p.body.now in
    let key : IfscBody → List ℕ × ℕ = λ x. (x.id, length x.pairs) in
    let entry : scan.Packet → Option ((List ℕ × ℕ) × IfscBody) = λ p. option_map (λ x. (key x, x)) (read p) in
    ap (option_map (λ x. x.pairs)) (
    firsts_of count_cmp c.in_ok-checksums.checksums c.in_ok-checksums.ensures (YieldsList-from_filter_map _ entry (YieldsList-from_slice ps cc) c.filter_map-found.ensures.closure (λ x r q k. search rules)) (id, n)
    ∙ keyed (eq_by_cmp count_cmp (id, n)) read key ps
    ∙ (λ i. find (λ x. same_count id x.id n (length x.pairs) i) (filter_map read ps))
    ∙ ap (find (λ x. bytes_eq x.id id && length x.pairs == n)) (sym (filter_map-map (λ p. read_ifsc p.kind p.body) packet_view ps)))

-- a target lacks what its checksums lack
no_target : {A B : Type 0} (f : A → B) (o : Option A) (missing fault : Fault) → ok_or o missing ≡ Err fault → ok_or (option_map f o) missing ≡ Err fault
no_target f o missing fault e = grind arith

abbrev with_pairs : DescBody → List Pair → Target
with_pairs d pairs = record { name = d.name; length = d.length; md5 = d.md5; pairs = pairs }

pub loop-description-preserved : goal.loop-description-preserved
loop-description-preserved c =
    let packets = map packet_view c.args.packets.now in
    let ds = c.args.descriptions.now in
    let d = c.description-item.result in
    let pairs = c.in_ok-pairs_for.field-0.items in
    let pushed : c.push.new.self.items ≡ c.loop-description.targets.items ++ with_pairs d pairs ∷ [] = search rules in
    let step : ok_or (if d.length == 0 then Some [] else pairs_of packets d.id (slice_count c.args.s d.length)) NoChecksums ≡ Ok pairs =
    ap (λ o. ok_or (if d.length == 0 then Some [] else o) NoChecksums) (sym (held (goal.at.loop-description-preserved c).In_ok-checksums d.id (slice_count c.args.s d.length))) ∙ c.in_ok-pairs_for.ensures in
    all_some_more (target_of packets c.args.s) ds c.loop-description.description-index d c.loop-description.targets.items (with_pairs d pairs) c.loop-description-test.true c.description-item.is c.loop-description.invariant
    (ap (option_map (with_pairs d)) (was_some _ NoChecksums pairs step))
    ∙ ap Some (sym pushed)

pub returns-in_err-pairs_for : goal.returns-in_err-pairs_for
returns-in_err-pairs_for c =
    let packets = map packet_view c.args.packets.now in
    let ds = c.args.descriptions.now in
    let d = c.description-item.result in
    let fault = c.in_err-pairs_for.field-0.0 in
    passed_on (λ r. Returns (λ (made : Vec code.Target Global). made.items) r (ok_or (all_some (map (target_of packets c.args.s) ds)) NoChecksums)) _ fault c.from_residual-in_err-pairs_for.ensures.1
    (⊎_map (λ memory. memory) (λ missing. one_missing (target_of packets c.args.s) ds c.loop-description.description-index d NoChecksums fault c.loop-description-test.true c.description-item.is
    (no_target (with_pairs d) (if d.length == 0 then Some [] else pairs_of packets d.id (slice_count c.args.s d.length)) NoChecksums fault
    (ap (λ o. ok_or (if d.length == 0 then Some [] else o) NoChecksums) (sym (held (goal.at.returns-in_err-pairs_for c).In_ok-checksums d.id (slice_count c.args.s d.length))) ∙ missing))) c.in_err-pairs_for.ensures)

pub returns : goal.returns
returns c = ap (λ ds. ok_or (all_some (map (target_of (map packet_view c.args.packets.now) c.args.s) ds)) NoChecksums) (sym (take_all c.loop-description.description-index c.args.descriptions.now c.loop-description-test.false)) ∙ ap (λ o. ok_or o NoChecksums) c.loop-description.invariant

pub unreachable-requires : goal.unreachable-requires
unreachable-requires c = grind (arith, common_steps)
