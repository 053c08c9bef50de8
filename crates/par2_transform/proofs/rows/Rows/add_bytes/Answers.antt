use Rattle.par2_transform.proofs.Names.{◌^◌, ◌<◌, ◌≡◌, ◌+◌, ◌*◌, ◌∙◌, arith, ap, ap₂, sym, subst, refl, List, ℕ, length, with_items_is, mul, word, word_in, word_of, AddsToRun, IsAdded, WordVector, added_same, place_is, rewritten_none, rewritten_then, run_none, row_added, rows_fit, run_next, word_at, kept_rows}
use Rattle.par2_transform.proofs.rows.Rows.add_bytes.Goals as goal

pub loop-k-init : goal.loop-k-init
loop-k-init c =
    let inside = c.self.inside in
    let start = c.place-start.result in
    let was = c.as_mut_slice-vectors.result.now in
    let source = c.copy_padded.new.to in
    let words : length source ≡ 64 * inside.width = c.copy_padded.ensures.size ∙ ap (λ (xs : List ℕ). length xs) c.as_mut_slice.ensures.value ∙ c.self.invariant.1 in
    let all = ap (λ (xs : List ℕ). length xs) (c.as_slice-source.ensures.value ∙ with_items_is inside.source source (c.copy_padded.ensures.size ∙ c.as_mut_slice.ensures.len)) in
    let size = ap (λ (xs : List WordVector). length xs) c.as_mut_slice-vectors.ensures.value in
    let start_is = place_is c.args.to inside.width start (rw (← c.self.view_is) at c.place-start.ensures) in
    let place : c.args.to < 2 ^ inside.levels = rw (← c.self.view_is) at c.requires.place in
    let fits = rows_fit inside.levels inside.width c.args.to 1 inside.vectors.items c.self.invariant.0 (omega (arith, place)) in
    (omega (arith, all, words), (omega (arith, fits, start_is, size), (rewritten_none was, run_none (32 * start) (λ e. mul c.args.factor.now (word e c.as_slice-source.result.now)) (word_of was))))

pub loop-k-preserved : goal.loop-k-preserved
loop-k-preserved c =
    let l = c.loop-k in (
      l.invariant.0,
      (
        l.invariant.1.0,
        (
          rewritten_then _ _ _ l.invariant.1.1.0 c.add_at.ensures.kept,
          run_next c.place-start.result l.k (word_in c.times.result) l.invariant.1.1.1 c.add_at.ensures.added
              (λ e low. c.times.ensures e low ∙ ap (mul c.args.factor.now) (c.from_bytes-words.ensures e low ∙ word_at l.k e c.as_slice-source.result.now)),
        ),
      ),
    )

pub returns : goal.returns
returns c =
    let inside = c.self.inside in
    let old = inside.vectors.items in
    let l = c.loop-k in
    let new = l.vectors in
    let end : l.k ≡ inside.width = omega (arith, c.loop-k-test.false, l.auto.k-end) in
    let by = mul c.args.factor.now in
    let start = c.place-start.result in
    let source = c.copy_padded.new.to in
    let copied = c.copy_padded.ensures.same in
    let words : length source ≡ 64 * inside.width = c.copy_padded.ensures.size ∙ ap (λ (xs : List ℕ). length xs) c.as_mut_slice.ensures.value ∙ c.self.invariant.1 in
    let bytes = c.as_slice-source.result.now in
    let added = subst (λ (n : ℕ). AddsToRun (32 * start) (32 * n) (λ e. by (word e bytes)) (word_of old) (word_of new)) end (subst (λ (xs : List WordVector). AddsToRun (32 * start) (32 * l.k) (λ e. by (word e bytes)) (word_of xs) (word_of new)) c.as_mut_slice-vectors.ensures.value l.invariant.1.1.1) in
    rw (← c.self.view_is)
    (added_same
    (subst (λ (xs : List WordVector). IsAdded (record { levels = inside.levels; words = 32 * inside.width; vectors = old }) (record { levels = inside.levels; words = 32 * inside.width; vectors = xs }) c.args.to (λ e. by (word e bytes))) (sym (with_items_is inside.vectors new (l.auto.vectors ∙ c.as_mut_slice-vectors.ensures.len)))
    (row_added inside.levels (32 * inside.width) c.args.to (32 * start) (32 * inside.width) (λ e. by (word e bytes)) old new (rw (← c.self.view_is) at c.place-start.ensures) refl added))
    (λ k h. ap by (ap (word k) (c.as_slice-source.ensures.value ∙ with_items_is inside.source source (c.copy_padded.ensures.size ∙ c.as_mut_slice.ensures.len))
    ∙ ap₂ (λ x y. x + 256 * y) (copied (2 * k) (omega (arith, words, h, c.copy_padded.ensures.size))) (copied (2 * k + 1) (omega (arith, words, h, c.copy_padded.ensures.size))))))

pub invariant_of-self : goal.invariant_of-self
invariant_of-self c =
    let inside = c.self.inside in
    let source = ap (λ (xs : List ℕ). length xs) (with_items_is inside.source c.copy_padded.new.to (c.copy_padded.ensures.size ∙ c.as_mut_slice.ensures.len)) ∙ c.copy_padded.ensures.size ∙ ap (λ (xs : List ℕ). length xs) c.as_mut_slice.ensures.value ∙ c.self.invariant.1 in
    (kept_rows _ _ inside.vectors _ c.loop-k.vectors c.self.invariant.0 c.as_mut_slice-vectors.ensures.value c.loop-k.invariant.1.1.0 (c.loop-k.auto.vectors ∙ c.as_mut_slice-vectors.ensures.len), source)
