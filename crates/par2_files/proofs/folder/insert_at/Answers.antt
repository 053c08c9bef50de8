use Rattle.par2_files.proofs.SortedFiles.{inserted}
use Rattle.par2_files.proofs.folder.insert_at.Goals as goal

pub returns-clause-files : goal.returns-clause-files
returns-clause-files c = rw c.in-Ok.ensures.items (inserted _ c.requires.kept _ _ _ c.requires.gap (c.as_str-bytes.ensures.name, c.as_slice-slice.ensures.fits))
