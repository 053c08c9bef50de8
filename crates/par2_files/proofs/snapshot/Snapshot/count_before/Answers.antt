use Rattle.par2_files.proofs.SortedFiles.{front_at}
use Rattle.par2_files.proofs.snapshot.Snapshot.count_before.Goals as goal

pub returns-in-Ok : goal.returns-in-Ok
returns-in-Ok c = rw c.in-At.is (front_at _ c.args.self.now.kept _ _ c.in-Ok.ensures.found)
