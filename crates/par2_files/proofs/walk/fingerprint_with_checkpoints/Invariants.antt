use Rattle.par2_files.proofs.Names.{◌≡◌, ◌⊎◌, ◌<◌, ◌-◌, length, AreCheckpointsOf, folder_in, Beginning, IsAt}
use Rattle.par2_files.proofs.walk.fingerprint_with_checkpoints.Given as goal

abbrev pub invariant-loop-place : goal.invariant-loop-place
invariant-loop-place l = record {
  at : IsAt l.split (folder_in l.snapshot) l.bytes l.progress;
  are_checkpoints : AreCheckpointsOf (folder_in l.snapshot) l.checkpoints;
  -- once there was a name, there is a checkpoint before the split
  some : (l.split ≡ Beginning) ⊎ (0 < length l.checkpoints.list.items);
  behind : 0 < l.place → 0 < length l.checkpoints.list.items;
}

abbrev pub decreases-loop-place : goal.decreases-loop-place
decreases-loop-place l = length l.snapshot.files.items - l.place
