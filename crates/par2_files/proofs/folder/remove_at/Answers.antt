use Rattle.par2_files.proofs.Names.{◌∙◌, [], ap, Some, sym, get_or_default, removed, bytes_at}
use Rattle.par2_files.proofs.folder.remove_at.Goals as goal

pub returns-clause-bytes : goal.returns-clause-bytes
returns-clause-bytes c = bytes_at _ c.requires.kept _ _ c.requires.here ∙ ap (λ e. Some e.1) (sym (c.remove.ensures.value ∙ get_or_default _ _ c.remove.result ([], []) c.requires.here.in_range))

pub returns-clause-files : goal.returns-clause-files
returns-clause-files c = rw c.remove.ensures.items (removed _ c.requires.kept _ _ c.requires.here)
