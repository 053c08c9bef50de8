use Rattle.par2_files.proofs.SortedFiles.{taken_from, bytes_taken}
use Rattle.par2_files.proofs.snapshot.Snapshot.take_out.Goals as goal

pub returns : goal.returns
returns c =
    let kept = c.args.self.now.kept in
    record {
      bytes = bytes_taken _ kept _ _ c.remove.result c.in-Ok.ensures.found c.remove.ensures.value;
      folder = rw c.remove.ensures.items (taken_from _ kept _ c.in-Ok.at c.in-Ok.ensures.found).folder;
    }

pub invariant_of-self : goal.invariant_of-self
invariant_of-self c = record { kept = rw c.remove.ensures.items (taken_from _ c.args.self.now.kept _ c.in-Ok.at c.in-Ok.ensures.found).kept }
