use Rattle.par2_disk.proofs.Common.{◌≡◌, ◌+◌, ◌≤◌, length, take, entries, names, OnlyReads}
use Rattle.par2_disk.proofs.disk.read_folder.Given as goal

abbrev pub invariant-loop-name : goal.invariant-loop-name
invariant-loop-name g l =
    let S = g.S.Store in
    record {
      reads : OnlyReads S l.fn.store l.store;
      later : S.failures l.fn.store ≤ S.failures l.store;
      steady : S.failures l.store ≡ S.failures l.fn.store;
      possible : S.honest l.fn.store → S.impossible l.store ≡ S.impossible l.fn.store;
      listed : S.honest l.fn.store → l.name-items ≡ names (S.contents l.fn.store).files;
      files : S.honest l.fn.store → entries l.folder.files ≡ take l.name-index (entries (S.contents l.fn.store).files);
      places : length l.name-items ≤ l.folder.vacant + l.name-index;
    }
