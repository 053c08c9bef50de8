use Rattle.par2_transform.proofs.Names.{arith, ℕ, ◌≡◌, ◌≤◌, ◌+◌, ◌*◌, ◌∙◌, ap, sym, subst, List, length, with_items_is, mul, word_in, word_of, EachColumn, IsButterfly, WordVector, in_vector, butterfly_at, butterfly_runs, run_same, butterfly_added, butterfly_next, butterfly_none, place_is, rewritten_none, rewritten_then, rows_before, rows_fit, kept_rows}
use Rattle.par2_transform.proofs.rows.Rows.butterfly.Goals as goal

pub loop-k-init : goal.loop-k-init
loop-k-init c =
    let inside = c.self.inside in
    let width = inside.width in
    let low = c.place-low.result in
    let high = c.place-high.result in
    let was = c.as_mut_slice-vectors.result.now in
    let size = ap (λ (xs : List WordVector). length xs) c.as_mut_slice-vectors.ensures.value in
    let low_is = place_is c.args.low width low (rw (← c.self.view_is) at c.place-low.ensures) in
    let high_is = place_is c.args.high width high (rw (← c.self.view_is) at c.place-high.ensures) in
    let count_is = place_is c.args.count width c.place-count.result (rw (← c.self.view_is) at c.place-count.ensures) in (
      omega (arith, rows_before width c.args.low c.args.high c.args.count c.requires.order, low_is, high_is, count_is),
      (
        omega (arith, rows_fit inside.levels width c.args.high c.args.count inside.vectors.items c.self.invariant.0 (rw (← c.self.view_is) at c.requires.high), size, high_is, count_is),
        (rewritten_none was, butterfly_none (mul c.args.factor.now) (32 * low) (32 * high) (word_of was)),
      ),
    )

pub loop-k-preserved : goal.loop-k-preserved
loop-k-preserved c =
    let l = c.loop-k in
    let k = l.k in
    let low = c.place-low.result in
    let high = c.place-high.result in
    let apart : low + k + 1 ≤ high = (let order = l.invariant.0 in omega (arith, order, c.loop-k-test.true, l.auto.k-end)) in
    let by = mul c.args.factor.now in
    let was = l.vectors in
    let mid = c.add_at.new.vectors in
    let now = c.add_at-in-loop-k.new.vectors in
    let first = run_same (32 * (low + k)) 32 (word_in c.times.result) (λ e. by (word_of was (32 * (high + k) + e))) (word_of was) (word_of mid) c.add_at.ensures.added
    (λ e less. c.times.ensures e less ∙ ap by (in_vector was (high + k) e less)) in
    let second = run_same (32 * (high + k)) 32 _ (λ e. word_of mid (32 * (low + k) + e)) (word_of mid) (word_of now) c.add_at-in-loop-k.ensures.added
    (λ e less. in_vector mid (low + k) e less) in
    let step = butterfly_runs by (32 * (low + k)) (32 * (high + k)) 32 (word_of was) (word_of mid) (word_of now) (omega (arith, apart)) first second in
    let next : 32 * k + 32 ≡ 32 * (k + 1) = omega arith in (
      l.invariant.0,
      (
        l.invariant.1.0,
        (
          rewritten_then _ _ _ l.invariant.1.1.0 (rewritten_then _ _ _ c.add_at.ensures.kept c.add_at-in-loop-k.ensures.kept),
          subst (λ n. IsButterfly by (32 * low) (32 * high) n (word_of c.as_mut_slice-vectors.result.now) (word_of now)) next
              (butterfly_next l.invariant.1.1.1 (butterfly_at by (32 * (low + k)) (32 * low + 32 * k) (32 * (high + k)) (32 * high + 32 * k) 32 32 (word_of was) (word_of now) (omega arith) (omega arith) (omega arith) step) (omega (arith, apart))),
        ),
      ),
    )

pub returns : goal.returns
returns c =
    let inside = c.self.inside in
    let old = inside.vectors.items in
    let l = c.loop-k in
    let new = l.vectors in
    let by = mul c.args.factor.now in
    let low = c.place-low.result in
    let high = c.place-high.result in
    let count = c.place-count.result in
    let end : l.k ≡ count = omega (arith, c.loop-k-test.false, l.auto.k-end) in
    let added = subst (λ (n : ℕ). IsButterfly by (32 * low) (32 * high) (32 * n) (word_of old) (word_of new)) end (subst (λ (xs : List WordVector). IsButterfly by (32 * low) (32 * high) (32 * l.k) (word_of xs) (word_of new)) c.as_mut_slice-vectors.ensures.value l.invariant.1.1.1) in
    rw (← c.self.view_is)
    (subst (λ (xs : List WordVector). EachColumn (IsButterfly by c.args.low c.args.high c.args.count) (record { levels = inside.levels; words = 32 * inside.width; vectors = old }) (record { levels = inside.levels; words = 32 * inside.width; vectors = xs })) (sym (with_items_is inside.vectors new (l.auto.vectors ∙ c.as_mut_slice-vectors.ensures.len)))
    (butterfly_added by inside.levels (32 * inside.width) c.args.low c.args.high c.args.count (32 * low) (32 * high) (32 * count) old new
    (rw (← c.self.view_is) at c.place-low.ensures) (rw (← c.self.view_is) at c.place-high.ensures) (rw (← c.self.view_is) at c.place-count.ensures) added))

pub invariant_of-self : goal.invariant_of-self
invariant_of-self c = (kept_rows _ _ c.self.inside.vectors _ c.loop-k.vectors c.self.invariant.0 c.as_mut_slice-vectors.ensures.value c.loop-k.invariant.1.1.0 (c.loop-k.auto.vectors ∙ c.as_mut_slice-vectors.ensures.len), c.self.invariant.1)
