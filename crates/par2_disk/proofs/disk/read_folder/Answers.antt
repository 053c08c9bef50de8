use Rattle.par2_disk.proofs.Names.{◌∙◌, ◌≡◌, ◌<◌, ◌≤◌, length, get_or, Some, ap, subst, arith, entries, names, begins_empty, still_there, next_file, is_whole, Contents}
use Rattle.std.specs.FinMap as map_of
use Rattle.par2_disk.proofs.Steps.{IsWrittenAs, tried as tried_by, reads_on}
use Rattle.par2_disk.proofs.disk.read_folder.Goals as goal

pub loop-name-init : goal.loop-name-init
loop-name-init g c = record {
  reads = c.in_ok-names.ensures.names.reads;
  later = c.in_ok-names.ensures.failures.later;
  steady = c.in_ok-names.ensures.failures.steady;
  possible = λ _. c.in_ok-names.ensures.names.possible;
  listed = λ h. c.deref-name-items.ensures.value ∙ c.in_ok-names.ensures.names.names h;
  files = λ h. ap entries (c.in_ok-reserve.ensures.files ∙ c.new-folder.ensures.files) ∙ begins_empty (g.S.Store.contents c.args.store.now).files;
  places = let room = c.in_ok-reserve.ensures.ok in omega (arith, c.len.ensures, c.deref-name-items.ensures.len);
}

pub loop-name-preserved : goal.loop-name-preserved
loop-name-preserved g c =
    let so_far = c.loop-name.invariant in
    let name = c.name-item.result in
    let tried : IsWrittenAs c.loop-name.folder c.apply-taken.new.self name c.into.result =
    subst (λ n. IsWrittenAs c.loop-name.folder c.apply-taken.new.self n c.into.result) c.copied.ensures
    (tried_by _ _ _ _ _ c.apply-taken.result c.apply-taken.ensures.refused c.apply-taken.ensures.unchanged c.apply-taken.ensures.folder) in
    record {
      reads = reads_on so_far.reads c.in_ok-bytes.ensures.file.reads;
      later = omega (arith, so_far.later, c.in_ok-bytes.ensures.failures.later);
      steady = c.in_ok-bytes.ensures.failures.steady ∙ so_far.steady;
      possible = λ h.
          let files = ap (λ (k : Contents). k.files) (so_far.reads.same h) in
          c.in_ok-bytes.ensures.file.possible (so_far.reads.honest h) (still_there _ _ _ _ _ files (so_far.listed h) c.loop-name-test.true c.name-item.is) ∙ so_far.possible h;
      listed = so_far.listed;
      files = λ h.
          let whole = (g.S.Store.contents c.args.store.now).files in
          let i = c.loop-name.name-index in
          let bytes = c.into.result in
          let named : c.name-item.result ≡ get_or (names whole) i c.name-item.result = c.name-item.is ∙ ap (λ l. get_or l i c.name-item.result) (so_far.listed h) in
          let found : map_of.get whole name ≡ Some bytes = subst (λ (k : Contents). map_of.get k.files name ≡ Some bytes) (so_far.reads.same h) (rw c.into.ensures (c.in_ok-bytes.ensures.file.bytes (so_far.reads.honest h))) in
          let in_range : i < length (names whole) = subst (λ l. i < length l) (so_far.listed h) c.loop-name-test.true in
          let next = next_file whole c.loop-name.folder.files i _ _ c.name-item.result (so_far.files h) in_range named found in
          let room : 0 < c.loop-name.folder.vacant = omega (arith, so_far.places, c.loop-name-test.true) in
          ap entries (tried.written next.is_new room) ∙ next.files;
      places = tried.places _ _ so_far.places c.loop-name-test.true;
    }

pub returns-in_err-bytes-clause-possible : goal.returns-in_err-bytes-clause-possible
returns-in_err-bytes-clause-possible g c h =
    let so_far = c.loop-name.invariant in
    let files = ap (λ (k : Contents). k.files) (so_far.reads.same h) in
    c.in_err-bytes.ensures.file.possible (so_far.reads.honest h) (still_there _ _ _ _ _ files (so_far.listed h) c.loop-name-test.true c.name-item.is) ∙ so_far.possible h

pub returns-in_err-bytes-clause-reads : goal.returns-in_err-bytes-clause-reads
returns-in_err-bytes-clause-reads g c = reads_on c.loop-name.invariant.reads c.in_err-bytes.ensures.file.reads

pub returns-clause-files : goal.returns-clause-files
returns-clause-files g c h = is_whole _ _ c.loop-name.name-index (c.loop-name.invariant.files h) (subst (λ l. length l ≤ c.loop-name.name-index) (c.loop-name.invariant.listed h) c.loop-name-test.false)
