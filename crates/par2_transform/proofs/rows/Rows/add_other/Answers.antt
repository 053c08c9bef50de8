use Rattle.par2_transform.proofs.Names.{◌≡◌, ◌*◌, ◌∙◌, ap, sym, subst, List, length, with_items_is, mul, word_in, word_of, arith, ℕ, AddsToRun, Grid, IsAdded, WordVector, added_same, rewritten_then, row_added, run_next, in_vector, kept_rows}
use Rattle.par2_transform.proofs.rows.Rows.add_other.Goals as goal

pub loop-k-preserved : goal.loop-k-preserved
loop-k-preserved c = (
  rewritten_then _ _ _ c.loop-k.invariant.0 c.add_at.ensures.kept,
  run_next c.place-start.result c.loop-k.k (word_in c.times.result) c.loop-k.invariant.1 c.add_at.ensures.added
      (λ e low. c.times.ensures e low ∙ ap (mul c.args.factor.now) (in_vector c.row-row.result.now c.loop-k.k e low)),
)

pub returns : goal.returns
returns c =
    let inside = c.self.inside in
    let old = inside.vectors.items in
    let l = c.loop-k in
    let new = l.vectors in
    let by = mul c.args.factor.now in
    let row = c.row-row.result.now in
    let start = c.place-start.result in
    let words : 32 * length row ≡ 32 * inside.width = c.row-row.ensures.size ∙ c.requires.same ∙ ap (λ (g : Grid). g.words) (sym c.self.view_is) in
    let end : l.k ≡ length row = omega (arith, c.loop-k-test.false, l.auto.k-end) in
    let added = subst (λ (n : ℕ). AddsToRun (32 * start) (32 * n) (λ e. by (word_of row e)) (word_of old) (word_of new)) end (subst (λ (xs : List WordVector). AddsToRun (32 * start) (32 * l.k) (λ e. by (word_of row e)) (word_of xs) (word_of new)) c.as_mut_slice-vectors.ensures.value l.invariant.1) in
    rw (← c.self.view_is)
    (added_same
    (subst (λ (xs : List WordVector). IsAdded (record { levels = inside.levels; words = 32 * inside.width; vectors = old }) (record { levels = inside.levels; words = 32 * inside.width; vectors = xs }) c.args.to (λ e. by (word_of row e))) (sym (with_items_is inside.vectors new (l.auto.vectors ∙ c.as_mut_slice-vectors.ensures.len)))
    (row_added inside.levels (32 * inside.width) c.args.to (32 * start) (32 * length row) (λ e. by (word_of row e)) old new (rw (← c.self.view_is) at c.place-start.ensures) words added))
    (λ k h. ap by (c.row-row.ensures.words k)))

pub invariant_of-self : goal.invariant_of-self
invariant_of-self c = (kept_rows _ _ c.self.inside.vectors _ c.loop-k.vectors c.self.invariant.0 c.as_mut_slice-vectors.ensures.value c.loop-k.invariant.0 (c.loop-k.auto.vectors ∙ c.as_mut_slice-vectors.ensures.len), c.self.invariant.1)
