use Rattle.par2_transform.proofs.Names.{arith, inl, inr, ℕ, ◌≡◌, ◌≤◌, ◌<◌, ◌+◌, ◌*◌, ◌∙◌, ap, sym, subst, List, length, with_items_is, word_in, word_of, times, AreTwoRuns, EachColumn, RunAddedBy, WordVector, in_vector, place_runs, rewritten_none, rewritten_then, run_none, run_added, run_next, kept_rows}
use Rattle.par2_transform.proofs.rows.Rows.add_rows.Goals as goal

pub loop-k-init : goal.loop-k-init
loop-k-init c =
    let inside = c.self.inside in
    let was = c.as_mut_slice-vectors.result.now in (
      subst (λ (n : ℕ). AreTwoRuns n c.place-from.result c.place-to.result c.place-count.result) (sym (ap (λ (xs : List WordVector). length xs) c.as_mut_slice-vectors.ensures.value))
          (place_runs inside.levels inside.width c.args.from c.args.to c.args.count c.place-from.result c.place-to.result c.place-count.result inside.vectors.items c.self.invariant.0 (rw (← c.self.view_is) at c.requires)
          (rw (← c.self.view_is) at c.place-from.ensures) (rw (← c.self.view_is) at c.place-to.ensures) (rw (← c.self.view_is) at c.place-count.ensures)),
      (rewritten_none was, run_none (32 * c.place-to.result) (λ e. times c.args.by (word_of was (32 * c.place-from.result + e))) (word_of was)),
    )

pub loop-k-preserved : goal.loop-k-preserved
loop-k-preserved c =
    let l = c.loop-k in
    let from = c.place-from.result in
    let was = c.as_mut_slice-vectors.result.now in
    let others = l.invariant.1.1.others in
    let kept : (p : ℕ) → 32 * (from + l.k) ≤ p → p < 32 * (from + l.k) + 32 → word_of l.vectors p ≡ word_of was p =
    λ p at below. elim l.invariant.0.apart [ inl before ↦ others.below p (omega (arith, before, at, below)) | inr after ↦ others.above p (omega (arith, after, at, below)) ] in
    let is : (e : ℕ) → 32 * (from + l.k) + e ≡ 32 * from + (32 * l.k + e) = λ e. omega arith in (
      l.invariant.0,
      (
        rewritten_then _ _ _ l.invariant.1.0 c.add_at.ensures.kept,
        run_next c.place-to.result l.k (word_in c.times.result) l.invariant.1.1 c.add_at.ensures.added
            (λ e low. c.times.ensures e low
            ∙ ap (times c.args.by) (in_vector l.vectors (from + l.k) e low ∙ kept (32 * (from + l.k) + e) (omega arith) (omega (arith, low)) ∙ ap (word_of was) (is e))),
      ),
    )

pub returns : goal.returns
returns c =
    let inside = c.self.inside in
    let old = inside.vectors.items in
    let l = c.loop-k in
    let new = l.vectors in
    let by = times c.args.by in
    let from = c.place-from.result in
    let to = c.place-to.result in
    let count = c.place-count.result in
    let end : l.k ≡ count = omega (arith, c.loop-k-test.false, l.auto.k-end) in
    let added = subst (λ (n : ℕ). RunAddedBy by (32 * from) (32 * to) (32 * n) (word_of old) (word_of new)) end (subst (λ (xs : List WordVector). RunAddedBy by (32 * from) (32 * to) (32 * l.k) (word_of xs) (word_of new)) c.as_mut_slice-vectors.ensures.value l.invariant.1.1) in
    rw (← c.self.view_is)
    (subst (λ (xs : List WordVector). EachColumn (RunAddedBy by c.args.from c.args.to c.args.count) (record { levels = inside.levels; words = 32 * inside.width; vectors = old }) (record { levels = inside.levels; words = 32 * inside.width; vectors = xs })) (sym (with_items_is inside.vectors new (l.auto.vectors ∙ c.as_mut_slice-vectors.ensures.len)))
    (run_added by inside.levels (32 * inside.width) c.args.from c.args.to c.args.count (32 * from) (32 * to) (32 * count) old new
    (rw (← c.self.view_is) at c.place-from.ensures) (rw (← c.self.view_is) at c.place-to.ensures) (rw (← c.self.view_is) at c.place-count.ensures) added))

pub invariant_of-self : goal.invariant_of-self
invariant_of-self c = (kept_rows _ _ c.self.inside.vectors _ c.loop-k.vectors c.self.invariant.0 c.as_mut_slice-vectors.ensures.value c.loop-k.invariant.1.0 (c.loop-k.auto.vectors ∙ c.as_mut_slice-vectors.ensures.len), c.self.invariant.1)
