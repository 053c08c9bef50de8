use Rattle.par2_files.proofs.Names.{◌≡◌, ◌∷◌, ◌++◌, ◌-◌, ◌∙◌, ℕ, Bor, List, ap, length, map, take, drop, arith, drop-append_seam, take-append_seam, length-append, length-map, map-append, md5, buffers_of, fingerprint, folders_after, taken_are_applicable, group_buffers, change_of, End, all_fingerprints}
use Rattle.par2_files.proofs.walk.fingerprints.Goals as goal

pub states_along-requires-clause-applicable : goal.states_along-requires-clause-applicable
states_along-requires-clause-applicable c = taken_are_applicable c.args.folder.now (map change_of c.args.changes.now) c.requires.taken

pub overflow_sub-len : goal.overflow_sub-len
overflow_sub-len c =
    let along = group_buffers End c.args.folder.now.files (map change_of c.args.changes.now) in
    let beside = buffers_of c.args.beside.now in
    let digests = c.in_ok-along.ensures (along ++ beside) (rw c.deref-2.ensures.value c.in_ok-states.ensures) in
    omega (arith, ap length digests, length-map (along ++ beside) md5, length-append along beside, length-map c.args.beside.now (λ (bytes : Bor (List ℕ)). bytes.now))

pub returns : goal.returns
returns c =
    let files = c.args.folder.now.files in
    let changes = map change_of c.args.changes.now in
    let prints = map fingerprint (files ∷ folders_after files changes) in
    let buffers = buffers_of c.args.beside.now in
    let digests = map md5 buffers in
    let along = group_buffers End files changes in
    let all : c.in_ok-along.along.items ≡ prints ++ digests = c.in_ok-along.ensures (along ++ buffers) (rw c.deref-2.ensures.value c.in_ok-states.ensures) ∙ map-append md5 along buffers ∙ ap (λ l. l ++ digests) (all_fingerprints files changes) in
    let place : c.len.result - length c.args.beside.now ≡ length prints = omega (arith, ap length all, length-append prints digests, length-map buffers md5, length-map c.args.beside.now (λ (bytes : Bor (List ℕ)). bytes.now)) in
    record {
      along = c.in_ok-beside.ensures.items ∙ (λ i. take (place i) (all i)) ∙ take-append_seam prints digests;
      beside = c.in_ok-beside.ensures.tail ∙ (λ i. drop (place i) (all i)) ∙ drop-append_seam prints digests;
    }
