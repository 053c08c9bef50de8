use Rattle.par2_sets.proofs.AnswerNames.{Vec, Global, Packet, Name, ◌≡◌, ◌∙◌, true, false, not, ◌+◌, ◌++◌, ◌∷◌, [], sym, ap, ap₂, map, take, filter, bytes_eq, accepted, packets_with, packet_view, are_own, names, take_all, rules, filter_same, is_par_name, append-nil, has_own, packets_in, no_more, one_more, kept_more, others_are, same_name}
use Rattle.par2_sets.proofs.set.packets_of.Goals.{then-eq, else-eq+in_ok-is_own, then-is_own+in_ok-push, else-is_own}
use Rattle.par2_sets.proofs.set.packets_of.Goals as goal

pub loop-name-preserved : goal.loop-name-preserved
loop-name-preserved c =
    let folder = c.args.folder.now.files in
    let base = c.args.base.now in
    let id = c.args.id.now in
    let all = c.deref-name-items.result.now in
    let i = c.loop-name.name-index in
    let name = c.name-item.result in
    let low = c.loop-name-test.true in
    let is = c.name-item.is in
    let own : c.if-eq.is_own ≡ has_own folder id name = elim c.if-eq.branch [
      | then-eq w ↦ w.is_own-is ∙ c.in_ok-base_is_own.ensures.own ∙ ap (are_own id) (c.new-found.ensures ∙ ap accepted c.bytes_of.ensures) ∙ ap (has_own folder id) (sym (same_name name base (sym c.eq.ensures ∙ w.if-eq.true)))
      | else-eq+in_ok-is_own w ↦ w.is_own-is ∙ w.in_ok-is_own.ensures.own ∙ ap (are_own id) (w.in_bytes-found.ensures ∙ ap accepted w.bytes_of-else-eq.ensures)
    ] in
    let packets : map packet_view c.if-eq.packets.items ≡ packets_in folder base (filter (λ other. not (bytes_eq other base)) (take (i + 1) all)) id = elim c.if-eq.branch [
      | then-eq w ↦ ap (λ (v : Vec Packet Global). map packet_view v.items) w.packets-is ∙ c.loop-name.invariant.0 ∙ no_more folder base id all i name low is (sym c.eq.ensures ∙ w.if-eq.true)
      | else-eq+in_ok-is_own w ↦ ap (λ (v : Vec Packet Global). map packet_view v.items) w.packets-is ∙ w.in_ok-is_own.ensures.added
          ∙ ap₂ (λ a b. a ++ packets_with id b) c.loop-name.invariant.0 (w.in_bytes-found.ensures ∙ ap accepted w.bytes_of-else-eq.ensures)
          ∙ one_more folder base id all i name low is (sym c.eq.ensures ∙ w.if-eq.false)
    ] in
    let files : c.if-is_own.own_files.items ≡ filter (has_own folder id) (take (i + 1) all) = elim c.if-is_own.branch [
      | then-is_own+in_ok-push w ↦ ap (λ (v : Vec Name Global). v.items) w.own_files-is ∙ w.in_ok-push.ensures.items ∙ ap₂ (λ a b. a ++ b ∷ []) c.loop-name.invariant.1 w.copied.ensures
          ∙ kept_more (has_own folder id) all i name low is true (sym w.if-is_own.true ∙ own)
      | else-is_own w ↦ ap (λ (v : Vec Name Global). v.items) w.own_files-is ∙ c.loop-name.invariant.1 ∙ sym (append-nil _) ∙ kept_more (has_own folder id) all i name low is false (sym w.if-is_own.false ∙ own)
    ] in
    (packets, files)

pub returns : goal.returns
returns c =
    let base = c.args.base.now in
    let all = take_all c.loop-name.name-index c.deref-name-items.result.now c.loop-name-test.false ∙ c.deref-name-items.ensures.value
    ∙ filter_same _ is_par_name _ (λ x b f k. search rules) _ _ c.retain.ensures.filtered ∙ ap (filter is_par_name) c.in_ok-names.ensures in
    record {
      packets = c.loop-name.invariant.0 ∙ ap (λ ns. packets_in c.args.folder.now.files base ns c.args.id.now) (ap (filter (λ n. not (bytes_eq n base))) all ∙ others_are base (names c.args.folder.now.files));
      own = c.loop-name.invariant.1 ∙ ap (filter (has_own c.args.folder.now.files c.args.id.now)) all;
    }
