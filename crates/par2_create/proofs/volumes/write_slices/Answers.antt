use Rattle.par2_create.proofs.Names.{◌≡◌, ◌∙◌, ◌*◌, ◌/◌, List, ℕ, map, ap, sym, length, subst, arith, on_ok_weaker, padded, lists_of, Place, AreWritten, buffers_of, Bor, length-places, places_apart, places_blank, places_within, volumes_written}
use Rattle.par2_create.proofs.volumes.write_slices.Goals as goal

pub new-outputs-requires : goal.new-outputs-requires
new-outputs-requires c =
    let parts = c.args.parts.now in
    record { apart = rw (c.deref.ensures.value, c.in_ok-places.ensures) (places_apart parts (parts.slice / 2) c.args.parts.now.volumes.now (omega (arith, c.args.parts.now.fours))) }

pub write_recovery_slices-requires-clause-room : goal.write_recovery_slices-requires-clause-room
write_recovery_slices-requires-clause-room c =
    let size : 2 * c.new-outputs.result.words ≡ c.args.parts.now.slice = omega (arith, c.args.parts.now.fours) in
    rw (c.new-outputs.ensures.places, c.deref.ensures.value, c.in_ok-places.ensures)
    (places_within c.args.parts.now c.new-outputs.result.words c.args.parts.now.volumes.now (lists_of c.args.out.now) size c.requires)

pub returns : goal.returns
returns c =
    let words = c.new-outputs.result.words in
    let pad = padded c.args.parts.now.slice in
    let slices = buffers_of c.deref-2.result.now in
    let exponents : List ℕ = c.deref-3.result.now in
    let old = lists_of c.args.out.now in
    let new = lists_of c.write_recovery_slices.new.buffers in
    on_ok_weaker c.write_recovery_slices.result
    (λ written. volumes_written c.args.parts.now words c.args.parts.now.volumes.now slices exponents old new (omega (arith, c.args.parts.now.fours))
    (ap (λ (buffers : List (Bor (List ℕ))). map pad (buffers_of buffers)) c.deref-2.ensures.value ∙ c.in_ok-inputs.ensures)
    (c.deref-3.ensures.value ∙ c.in_ok-exponents.ensures) c.requires
    (subst (λ (all : List Place). AreWritten words slices exponents all old new) (c.new-outputs.ensures.places ∙ c.deref.ensures.value ∙ c.in_ok-places.ensures) written))
    c.write_recovery_slices.ensures

pub write_recovery_slices-requires-clause-count : goal.write_recovery_slices-requires-clause-count
write_recovery_slices-requires-clause-count c =
    ap length (c.deref-3.ensures.value ∙ c.in_ok-exponents.ensures) ∙ length-places c.args.parts.now c.args.parts.now.volumes.now ∙ sym (ap length (c.new-outputs.ensures.places ∙ c.deref.ensures.value ∙ c.in_ok-places.ensures))

pub write_recovery_slices-requires-clause-zeros : goal.write_recovery_slices-requires-clause-zeros
write_recovery_slices-requires-clause-zeros c =
    rw (c.new-outputs.ensures.places, c.deref.ensures.value, c.in_ok-places.ensures) (places_blank c.args.parts.now c.new-outputs.result.words c.args.parts.now.volumes.now (lists_of c.args.out.now) (omega (arith, c.args.parts.now.fours)) c.requires)
