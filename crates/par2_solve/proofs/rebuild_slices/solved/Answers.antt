use Rattle.par2_solve.proofs.Names.{AreSolvedBy, Global, List, Vec, ap, arith, byte_lists, chunk, length, length-byte_lists, length-lists_of, list_at, lists_of, many_windows, map, more_solved, none_solved, refl, rules, square, subst, sym, syndrome, window_size, with_items_is, words_solved, ℕ, ◌<◌, ◌∙◌, ◌≡◌}
use Rattle.par2_solve.proofs.rebuild_slices.solved.Goals.{After-deref-in-loop-from, After-deref-in-loop-from-3}
use Rattle.par2_solve.proofs.rebuild_slices.solved.Goals as goal

part_are : (c : After-deref-in-loop-from) → byte_lists c.deref-in-loop-from.result.now ≡ map (chunk c.loop-from.from c.min-bytes.result) (byte_lists c.args.kept.now.slices.now)
part_are c = ap byte_lists c.deref-in-loop-from.ensures.value ∙ c.in_ok-part.ensures

many : (c : After-deref-in-loop-from) → length c.deref-in-loop-from.result.now ≡ length c.args.kept.now.slices.now
many c = many_windows c.loop-from.from c.min-bytes.result c.args.kept.now.slices.now c.deref-in-loop-from.result.now (part_are c)

sizes : (c : After-deref-in-loop-from) (j : ℕ) → j < length (byte_lists c.deref-in-loop-from.result.now) → length (list_at (byte_lists c.deref-in-loop-from.result.now) j) ≡ c.min-bytes.result
sizes c j h =
    window_size c.loop-from.from c.min-bytes.result (byte_lists c.args.kept.now.slices.now) (byte_lists c.deref-in-loop-from.result.now) (part_are c)
    (λ i low. let size = c.requires.size i low in omega (arith, size, c.args.size.even, c.loop-from.invariant.within, c.min-bytes.ensures, c.loop-from-test.true)) j h

sources_are : (c : After-deref-in-loop-from-3) → byte_lists c.deref-in-loop-from-3.result.now ≡ lists_of c.in_ok-syndromes.syndromes.items
sources_are c = ap byte_lists c.deref-in-loop-from-3.ensures.value ∙ c.in_ok-sources.ensures ∙ ap lists_of c.deref-in-loop-from-2.ensures.value

pub invariant_of-block : goal.invariant_of-block
invariant_of-block c =
    let few = c.args.transform.now.few in
    let count = many_windows c.loop-from.from c.min-bytes.result c.args.transform.now.slices.now c.deref.result.now (ap byte_lists c.deref.ensures.value ∙ c.in_ok-known.ensures) in
    record { few = omega (arith, few, count) }

pub invariant_of-part : goal.invariant_of-part
invariant_of-part c = record { count = c.args.kept.now.count ∙ sym (many (goal.at.invariant_of-part c).After-deref-in-loop-from) }

pub with_recovery_slices-requires : goal.with_recovery_slices-requires
with_recovery_slices-requires c = λ j h. let size = sizes (goal.at.with_recovery_slices-requires c).After-deref-in-loop-from j h in omega (arith, size, c.args.size.even, c.loop-from.invariant.even, c.min-bytes.ensures, c.max-at_once.ensures, c.least.ensures, c.columns_at_once-columns.ensures.even)

pub products-requires : goal.products-requires
products-requires c =
    let at = goal.at.products-requires c in
    let count = sym (length-byte_lists c.deref-in-loop-from-3.result.now) ∙ ap (λ (xs : List (List ℕ)). length xs) (sources_are at.After-deref-in-loop-from-3) ∙ c.in_ok-syndromes.ensures.count ∙ length-byte_lists c.deref-in-loop-from.result.now in
    (c.args.kept.now.exponents.now, c.requires.inverse, c.args.kept.now.count ∙ sym (many at.After-deref-in-loop-from) ∙ sym count)

pub loop-from-preserved : goal.loop-from-preserved
loop-from-preserved c =
    let at = (goal.at.loop-from-preserved c).After-deref-in-loop-from in let from = c.loop-from.from in let n = c.min-bytes.result in
    let exponents = c.args.kept.now.exponents.now in let slices = byte_lists c.args.transform.now.slices.now in let recovery = byte_lists c.args.kept.now.slices.now in
    let old = lists_of c.loop-from.buffers.items in let blocks = lists_of c.in_ok-lost.lost.items in let new = c.extend.new.buffers in
    let size : length new ≡ c.loop-from.buffers.len = search rules in
    let extended = rw (c.as_mut_slice.ensures.value, c.deref-in-loop-from-4.ensures.value, ← length-lists_of c.in_ok-lost.lost.items) at c.in_ok-extend.ensures in
    let slices_are = ap byte_lists c.deref.ensures.value ∙ c.in_ok-known.ensures in
    let sources = sources_are (goal.at.loop-from-preserved c).After-deref-in-loop-from-3 in
    record {
      solved = rw (with_items_is c.loop-from.buffers new size)
          (λ lost inverts.
          let kept_count = sym c.args.kept.now.count ∙ square lost exponents c.args.inverse.now inverts in
          more_solved from n lost exponents slices recovery old blocks (lists_of new) c.loop-from.invariant.even (length-byte_lists c.args.kept.now.slices.now ∙ kept_count) (c.loop-from.invariant.solved lost inverts)
          (rw (← slices_are, ← part_are at)
          (words_solved n lost exponents (byte_lists c.deref.result.now) (byte_lists c.deref-in-loop-from.result.now) (lists_of c.in_ok-syndromes.syndromes.items) blocks
          (length-byte_lists c.deref-in-loop-from.result.now ∙ many at ∙ kept_count) (sizes at) c.in_ok-syndromes.ensures (rw sources at (c.in_ok-lost.ensures exponents lost inverts)))) extended);
      even = omega arith;
      within = omega arith;
    }

pub loop-from-init : goal.loop-from-init
loop-from-init c = record {
  solved = λ lost inverts. none_solved (length c.args.kept.now.slices.now) lost c.args.kept.now.exponents.now _ (lists_of c.in_ok-buffers.buffers.items) (sym c.args.kept.now.count ∙ square lost c.args.kept.now.exponents.now c.args.inverse.now inverts) c.in_ok-buffers.ensures;
  even = refl;
  within = omega arith;
}

pub extend-requires : goal.extend-requires
extend-requires c =
    let lost = c.requires.inverse.0 in let inverts = c.requires.inverse.1 in
    ap (λ (xs : List (Vec ℕ Global)). length xs) c.deref-in-loop-from-4.ensures.value ∙ sym (length-lists_of c.in_ok-lost.lost.items) ∙ (c.in_ok-lost.ensures c.args.kept.now.exponents.now lost inverts).count
    ∙ sym (c.loop-from.invariant.solved lost inverts).count ∙ length-lists_of c.loop-from.buffers.items ∙ ap (λ (xs : List (Vec ℕ Global)). length xs) (sym c.as_mut_slice.ensures.value)

pub returns : goal.returns
returns c =
    let end : c.loop-from.from ≡ c.args.size.bytes = omega (arith, c.loop-from-test.false, c.loop-from.invariant.within) in
    let exponents = c.args.kept.now.exponents.now in
    record {
      solved = subst (λ bytes. AreSolvedBy c.args.inverse.now bytes exponents (syndrome exponents (byte_lists c.args.transform.now.slices.now) (byte_lists c.args.kept.now.slices.now)) (lists_of c.loop-from.buffers.items)) end c.loop-from.invariant.solved;
      slices = c.buffers_fit.ensures;
      recovery = c.buffers_fit-2.ensures;
    }
