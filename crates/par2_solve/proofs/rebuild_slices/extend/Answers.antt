use Rattle.par2_solve.proofs.Names.{OneChanged, ap₂, arith, by_either, cases_eq, inl, inr, length, length-lists_of, list_at, lists_of, read_at, rules, set, subst, sym, written_changed, written_here, ◌++◌, ◌<◌, ◌∙◌, ◌≡◌}
use Rattle.par2_solve.proofs.rebuild_slices.extend.Goals as goal

pub loop-r-preserved : goal.loop-r-preserved
loop-r-preserved c =
    let buffers = c.loop-r.buffers in
    let r = c.loop-r.r in
    let invariant = c.loop-r.invariant in
    let new = c.extend_from_slice.new.self in
    let was = c.index-buffers-r.result in
    let low : r < length buffers = omega (arith, invariant.count, c.requires, length-lists_of buffers, length-lists_of c.args.buffers.now, c.loop-r-test.true) in
    let changed : OneChanged (lists_of buffers) (lists_of (set buffers r new)) r = written_changed buffers r new in
    let items : new.items ≡ was.items ++ c.buffer_at.result.now = search rules in
    let before : was.items ≡ list_at (lists_of buffers) r = search (rules, read_at) in
    let here = written_here buffers r new low ∙ items ∙ ap₂ (λ xs ys. xs ++ ys) (before ∙ invariant.rest r (omega arith)) c.buffer_at.ensures in
    record {
      count = changed.count ∙ invariant.count;
      each = λ i h. by_either (cases_eq i r)
          (λ same. subst (λ k. list_at (lists_of (set buffers r new)) k ≡ list_at (lists_of c.args.buffers.now) k ++ list_at (lists_of c.args.blocks.now) k) (sym same) here)
          (λ other. changed.others i other ∙ invariant.each i (omega (arith, h, other)));
      rest = λ i h. changed.others i (λ same. omega (arith, h, same)) ∙ invariant.rest i (omega (arith, h));
    }
