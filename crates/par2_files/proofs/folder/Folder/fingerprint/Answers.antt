use Rattle.par2_files.proofs.Common.{refl, takes_all}
use Rattle.par2_files.proofs.folder.Folder.fingerprint.Goals as goal

pub fingerprints-requires-clause-taken : goal.fingerprints-requires-clause-taken
unfolding takes_all
fingerprints-requires-clause-taken c = refl
