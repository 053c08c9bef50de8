use Rattle.par2_solve.proofs.Names.{ap, arith, byte_lists, drop, length, length-lists_of, list_at, lists_of, next_source, no_source, nothing_added, refl, sym, take, vector_word, word, word_of, word_past, ◌*◌, ◌-◌, ◌∙◌}
use Rattle.par2_solve.proofs.products.add_columns.Goals.{then-start-bytes+in_ok-source, else-start-bytes}
use Rattle.par2_solve.proofs.products.add_columns.Goals as goal

pub loop-k-init : goal.loop-k-init
loop-k-init c = no_source (lists_of c.args.factors.now) (byte_lists c.args.sources.now) (lists_of c.args.targets.now) c.args.columns.from c.args.columns.to

pub loop-k-preserved : goal.loop-k-preserved
loop-k-preserved c =
    let from = c.args.columns.from in
    let to = c.args.columns.to in
    let factors = lists_of c.args.factors.now in
    let sources = byte_lists c.args.sources.now in
    let old = lists_of c.args.targets.now in
    let mid = lists_of c.loop-k.targets in
    let here = c.source_at-bytes.ensures in
    elim c.if-start-bytes.branch [
      | then-start-bytes+in_ok-source w ↦
          rw w.targets-is
          (next_source factors sources old mid (lists_of w.add_source.new.targets) from to c.loop-k.k c.loop-k.invariant (λ p. word_of w.in_ok-source.source.items (p - from))
          (vector_word (list_at sources c.loop-k.k) w.in_ok-source.source.items from to (2 * to - 2 * from) refl
          (λ q. w.in_ok-source.ensures.words q ∙ ap (word q) (w.window_of.ensures ∙ ap (λ xs. take (2 * to - 2 * from) (drop (2 * from) xs)) here)))
          (rw (w.deref.ensures.value, ← length-lists_of c.loop-k.targets) at w.add_source.ensures))
      | else-start-bytes w ↦
          rw w.targets-is
          (next_source factors sources old mid mid from to c.loop-k.k c.loop-k.invariant (λ p. 0)
          (λ p low high. sym (word_past (list_at sources c.loop-k.k) p (omega (arith, ap length here, w.if-start-bytes.false))))
          (nothing_added _ mid from to (length mid)))
    ]
