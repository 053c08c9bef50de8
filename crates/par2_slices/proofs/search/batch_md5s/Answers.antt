use Rattle.par2_slices.proofs.Common.{length, ap, arith, inl, inr, cases_lt, get_or_past, ◌≡◌, candidate_at, no_candidate, Candidate}
use Rattle.par2_slices.proofs.search.batch_md5s.Goals as goal

pub window_digests-requires-clause-within : goal.window_digests-requires-clause-within
window_digests-requires-clause-within c k low =
    elim (cases_lt k (length c.args.batch.now)) [
      | inl own ↦ omega (arith, c.starts.ensures k low, (c.requires.windows k no_candidate own).whole, c.size-size.ensures.value)
      | inr left ↦
          let none : (candidate_at c.args.batch.now k).position.offset ≡ 0 = ap (λ (candidate : Candidate). candidate.position.offset) (get_or_past c.args.batch.now k no_candidate left) in
          omega (arith, c.starts.ensures k low, none, (c.requires.windows 0 no_candidate c.requires.some).whole, c.size-size.ensures.value)
    ]
