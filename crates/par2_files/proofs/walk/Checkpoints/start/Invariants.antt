use Rattle.par2_files.proofs.Names.{◌≡◌, [], ◌∷◌, map, false, Folder, group_buffers, touches, AreCheckpointsOf, HaveAbsorbed, change_of, All}
use Rattle.par2_files.proofs.walk.Checkpoints.start.Given as goal

abbrev pub invariant-loop-name : goal.invariant-loop-name
invariant-loop-name l = record {
  behind : All (λ c. touches l.start.0 (change_of c) ≡ false) l.changes;
  states : (folder : Folder) → AreCheckpointsOf folder l.self → HaveAbsorbed (l.start.1 ∷ []) (group_buffers l.start.0 folder (map change_of l.changes));
}
