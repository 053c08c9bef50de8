use Rattle.par2_transform.proofs.Names.{◌+◌, ℕ, List, subst, arith, add_assoc, ap, lists_of, AddsAt, byte_lists, recovered, Place, adds_empty, adds_range, adds_same, adds_whole, group_of, group_within, adds_to_group, length-group, still_within}
use Rattle.par2_transform.proofs.recovery.Transform.add_recovery_slices_at.Goals as goal

pub loop-from-init : goal.loop-from-init
loop-from-init c = record { added = adds_empty (λ t p. t) (λ t p. recovered (byte_lists c.args.self.now.slices.now) (c.args.first + t) p) 0 0 (omega arith); inside = omega arith }

pub add_group-requires-clause-exponents : goal.add_group-requires-clause-exponents
add_group-requires-clause-exponents c =
    let from = c.loop-from.from in
    let to = from + c.min.result in
    let size = length-group from to c.args.outputs.now.places.now (omega arith) (omega (arith, c.min.ensures, c.len-count.ensures)) in
    rw c.part-group.ensures.places (omega (arith, size, c.min.ensures, c.len-count.ensures, c.requires.exponents))

pub add_group-requires-clause-room : goal.add_group-requires-clause-room
add_group-requires-clause-room c =
    let from = c.loop-from.from in
    let all = c.args.outputs.now.places.now in
    let words = c.args.outputs.now.words in
    let half = lists_of c.loop-from.buffers in
    rw (c.part-group.ensures.words, c.part-group.ensures.places)
    (group_within words from (from + c.min.result) all half (omega arith) (omega (arith, c.min.ensures, c.len-count.ensures)) (still_within all words words _ (lists_of c.args.buffers.now) half c.loop-from.invariant.added c.requires.room))

pub loop-from-preserved : goal.loop-from-preserved
loop-from-preserved c =
    let all : List Place = c.args.outputs.now.places.now in
    let words : ℕ = c.args.outputs.now.words in
    let slices = byte_lists c.args.self.now.slices.now in
    let first = c.args.first in
    let from = c.loop-from.from in
    let to = from + c.min.result in
    let half = lists_of c.loop-from.buffers in
    let new = lists_of c.add_group.new.buffers in
    let group = c.part-group.result in
    let given = λ (t p : ℕ). recovered slices (first + from + t) p in
    record {
      added = adds_range (λ t p. t) (λ t p. recovered slices (first + t) p) 0 from to c.loop-from.invariant.added
          (adds_to_group from to words (λ t p. recovered slices (first + t) p) all half new (omega arith) (omega (arith, c.min.ensures, c.len-count.ensures)) c.args.outputs.now.apart
          (adds_same (group_of from to all) words given (λ t p. recovered slices (first + (from + t)) p) half new
          (subst (λ (places : List Place). AddsAt places words given half new) c.part-group.ensures.places
          (subst (λ (n : ℕ). AddsAt group.places.now n given half new) c.part-group.ensures.words c.in_ok-add_group.ensures))
          (λ t p h room. ap (λ (n : ℕ). recovered slices n p) (add_assoc first from t)))) (omega arith) (omega arith);
      inside = omega (arith, c.min.ensures);
    }

pub returns : goal.returns
returns c =
    adds_whole (λ t p. t) (λ t p. recovered (byte_lists c.args.self.now.slices.now) (c.args.first + t) p) c.loop-from.from c.loop-from.invariant.added (λ t p h fits. omega (arith, h, c.loop-from-test.false, c.len-count.ensures))
