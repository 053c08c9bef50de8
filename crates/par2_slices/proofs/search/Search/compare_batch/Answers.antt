use Rattle.par2_slices.proofs.Names.{All, no_candidate, ◌≡◌, ◌∙◌, ◌+◌, ◌-◌, ℕ, ◌<◌, List, length, drop, ap, sym, subst, arith, Option, Pair, Candidate, Position, after_window, candidate_at, answer_at, pair_at, after_candidates, IsWindow, length-drop, emptied, matches, none_settled, settled_from}
use Rattle.par2_slices.proofs.search.Search.compare_batch.Goals as goal

pub loop-k-preserved : goal.loop-k-preserved
loop-k-preserved c =
    let scan = c.args.scan.now in
    let k : ℕ = c.loop-k.k in
    let candidates : List Candidate = c.as_slice-candidates.result.now in
    let candidates_are : candidates ≡ c.args.self.now.batch.items = c.as_slice-candidates.ensures.value ∙ ap (λ batch. batch.items) c.take-batch.ensures.value in
    let candidate : Candidate = candidate_at candidates k in
    let inside : k < length candidates = c.loop-k-test.true in
    let its : IsWindow scan candidate = subst (λ (cs : List Candidate). All (IsWindow scan) cs) (sym candidates_are) c.requires.candidates k no_candidate inside in
    record {
      tally = c.answer.ensures.tally;
      each = λ i h.
          let pair : Pair = pair_at scan.wanted.now i in
          let old : Option Position = answer_at c.loop-k.self.found.items i in
          ap (after_candidates scan pair (drop (k + 1) candidates))
          (c.answer.ensures.each i h ∙ ap (λ m. after_window m candidate.position old) (matches scan candidate.position.offset _ candidate.crc pair (c.batch_md5s-digests.ensures k inside) its.crc))
          ∙ sym (settled_from scan pair candidates k old inside)
          ∙ c.loop-k.invariant.each i h;
      batch = c.answer.ensures.batch ∙ c.loop-k.invariant.batch;
    }

pub returns-clause-at : goal.returns-clause-at
returns-clause-at c o at =
    let scan = c.args.scan.now in
    let before = c.args.self.now in
    let after = c.loop-k.self in
    let candidates : List Candidate = c.as_slice-candidates.result.now in
    let candidates_are : candidates ≡ before.batch.items = c.as_slice-candidates.ensures.value ∙ ap (λ batch. batch.items) c.take-batch.ensures.value in
    emptied scan o before.found.items after.found.items before.left after.left before.filter after.filter before.batch.items after.batch.items at c.loop-k.invariant.tally c.loop-k.invariant.batch
    (λ i h.
    let pair : Pair = pair_at scan.wanted.now i in
    sym (none_settled scan pair (drop c.loop-k.k candidates) (answer_at after.found.items i) (length-drop c.loop-k.k candidates ∙ (let e : length candidates - c.loop-k.k ≡ 0 = omega (arith, c.loop-k-test.false) in e)))
    ∙ c.loop-k.invariant.each i h
    ∙ ap (λ cs. after_candidates scan pair cs (answer_at before.found.items i)) candidates_are)
