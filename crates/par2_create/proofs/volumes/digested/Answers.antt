use Rattle.par2_create.proofs.Names.{◌≡◌, ◌∙◌, List, [], ◌∷◌, ◌++◌, ℕ, File, length, Vec, Global, with_items_is, rules, sym, ap, ap₂, map, map-append, map_more, as_file, lists_of, volume_file_name, with_slices, Volume, get_or, drop, ◌+◌, with_items, some_left, taken}
use Rattle.par2_create.proofs.volumes.digested.Goals.{After-as_mut_slice}
use Rattle.par2_create.proofs.volumes.digested.Goals as goal

pub remove-bytes-requires : goal.remove-bytes-requires
remove-bytes-requires c =
    let some = some_left (with_slices c.args.parts.now) c.args.parts.now.volumes.now c.loop-volume.volume-index c.loop-volume.buffers.items c.loop-volume-test.true c.loop-volume.invariant.left in search (rules, some)

-- the buffer of this volume, and those of the others
cut : (c : After-as_mut_slice) → (c.remove-bytes.result.items ≡ with_slices c.args.parts.now c.volume-item.result) × (lists_of c.remove-bytes.new.self.items ≡ map (with_slices c.args.parts.now) (drop (c.loop-volume.volume-index + 1) c.args.parts.now.volumes.now))
cut c =
    let t = taken (with_slices c.args.parts.now) c.args.parts.now.volumes.now c.loop-volume.volume-index c.volume-item.result c.loop-volume.buffers.items c.remove-bytes.result c.loop-volume-test.true c.volume-item.is c.loop-volume.invariant.left c.remove-bytes.ensures.value in (t.0, ap lists_of c.remove-bytes.ensures.items ∙ t.1)

pub digest_volume-requires : goal.digest_volume-requires
digest_volume-requires c = c.as_mut_slice.ensures.value ∙ (cut c).0

pub loop-volume-preserved : goal.loop-volume-preserved
loop-volume-preserved c =
    let named = λ (v : Volume). let file : File = (v.name, volume_file_name c.args.parts.now v) in file in
    let item : List ℕ × Vec ℕ Global = (c.copied.result, with_items c.remove-bytes.result c.digest_volume.new.bytes) in
    let size : length c.digest_volume.new.bytes ≡ c.remove-bytes.result.len = c.digest_volume.auto.bytes ∙ c.as_mut_slice.ensures.len in
    let last : as_file item ≡ named (get_or c.args.parts.now.volumes.now c.loop-volume.volume-index c.volume-item.result) = ap₂ (λ (a b : List ℕ). (a, b)) c.copied.ensures (with_items_is c.remove-bytes.result c.digest_volume.new.bytes size ∙ c.in_ok-digest_volume.ensures) ∙ ap named c.volume-item.is in
    record {
      done = ap (map as_file) c.in_ok-push.ensures.items ∙ map-append as_file c.loop-volume.files.items (item ∷ []) ∙ ap₂ (λ (xs : List File) (x : File). xs ++ x ∷ []) c.loop-volume.invariant.done last ∙ sym (map_more named c.args.parts.now.volumes.now c.loop-volume.volume-index c.volume-item.result c.loop-volume-test.true);
      left = (cut (goal.at.loop-volume-preserved c).After-as_mut_slice).1;
    }
