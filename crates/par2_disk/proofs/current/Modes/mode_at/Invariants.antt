use Rattle.par2_disk.proofs.Names.{take, GivesNoMore, IsWithinThoseNamed}
use Rattle.par2_disk.proofs.current.Modes.mode_at.Given as goal

abbrev pub invariant-loop-file : goal.invariant-loop-file
invariant-loop-file l = record {
  all : GivesNoMore l.permissions 0o666;
  allowed : GivesNoMore l.permissions l.self.allowed;
  named : IsWithinThoseNamed (take l.file-index l.file-items) l.name l.permissions;
}
