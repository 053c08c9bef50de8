use Rattle.par2_slices.proofs.Names.{◌≡◌, ◌∙◌, ◌+◌, ◌*◌, ◌<◌, ◌≤◌, ℕ, List, true, false, take, drop, length, ◌-◌, get_or, sym, ap, subst, crc_of, AreCandidateRows, HaveAnswers, Row, take_rest, next_row, noted, skipped, answered, unmarked}
use Rattle.par2_slices.proofs.search.Search.rows_by.Goals as goal
use Rattle.par2_slices.proofs.search.Search.rows_by.Goals.{then-may_contain_any+then-awaits_any+else-is_full, else-may_contain_any, else-may_contain_any-via-then-may_contain_any+else-awaits_any, else-may_contain_any-via-else-may_contain_any}

pub loop-at-preserved : goal.loop-at-preserved
loop-at-preserved g c =
    let scan = c.args.scan.now in
    let search = c.args.self.now in
    let start : ℕ = c.args.start in
    let len : ℕ = g.row.LEN in
    let at : ℕ = c.loop-at.at in
    let are = c.loop-at.invariant.are in
    let crcs = c.loop-at.invariant.crcs in
    let outs : List ℕ = take (length scan.bytes.now - start) (drop start scan.bytes.now) in
    let Are : List Row → Type 0 = λ rows. AreCandidateRows scan start len (at + 1) rows in
    let Have : ℕ → Type 0 = HaveAnswers scan.wanted.now search.found.items in
    let free : ((k : ℕ) → k < 4 → Have (get_or c.loop-at.crcs k 0)) → Are c.loop-at.rows.items = λ have.
    skipped scan start len at c.loop-at.rows.items are (λ k h.
    answered scan start search.found.items search.left search.filter search.batch.items (crc_of scan (start + k * len + at)) c.requires.at (subst Have (crcs k h) (have k h)))
    in
    record {
      are = elim c.if-may_contain_any.branch [
        | then-may_contain_any+then-awaits_any+else-is_full w ↦ subst (λ kept. Are kept.items) (sym w.rows-is) (subst Are (sym w.push.ensures.items) (noted scan start len at c.loop-at.crcs c.loop-at.rows.items are crcs))
        | else-may_contain_any w ↦ subst (λ kept. Are kept.items) (sym w.rows-is) (free
            (elim w.else-may_contain_any.branch [
              | else-may_contain_any-via-then-may_contain_any+else-awaits_any v ↦ v.awaits_any.ensures.0 (λ is. let both : true ≡ false = sym is ∙ v.if-awaits_any.false in cc)
              | else-may_contain_any-via-else-may_contain_any v ↦ λ k h.
                  unmarked scan.wanted.now search.found.items search.left search.filter (get_or c.loop-at.crcs k 0) c.requires.at.tally
                  (λ included. let both : true ≡ false = sym (c.may_contain_any.ensures k h included) ∙ v.if-may_contain_any.false in cc)
            ]))
      ];
      crcs = next_row scan start len at c.loop-at.crcs c.next_crcs-crcs.result _ _ (subst (λ (s : ℕ). 1 ≤ s) c.size.ensures.value c.size.ensures.some) (take_rest scan.bytes.now start) (take_rest _ c.size.result ∙ ap (λ s. drop s outs) c.size.ensures.value) crcs c.next_crcs-crcs.ensures;
    }
