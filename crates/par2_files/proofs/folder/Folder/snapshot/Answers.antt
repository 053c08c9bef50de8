use Rattle.par2_files.proofs.Common.{◌≡◌, ◌∙◌, ap, map, rules, subst, sym, map-id, File, FolderState, AreFolderFiles, folder_of, file_of, YieldsList-from_map_by, YieldsList-from_slice, items_from_drains}
use Rattle.par2_files.proofs.folder.Folder.snapshot.Goals.{In_ok-files}
use Rattle.par2_files.proofs.folder.Folder.snapshot.Goals as goal

all : (c : In_ok-files) → map file_of c.in_ok-files.files.items ≡ c.self.inside.files.items
all c =
    let ran = c.in_ok-files.ensures.ran in
    let files = c.self.inside.files.items in
    ap (map file_of) ran.2.0 ∙ items_from_drains ran.0 ran.1 (YieldsList-from_map_by _ file_of (λ (file : File). file) (YieldsList-from_slice files cc) c.map-files.ensures.closure (λ x r q k. search rules)) ∙ map-id files

pub invariant_of-result : goal.invariant_of-result
invariant_of-result c = record { kept = subst AreFolderFiles (sym (all (goal.at.invariant_of-result c).In_ok-files)) c.self.invariant }

pub returns : goal.returns
returns c = ap folder_of (all (goal.at.returns c).In_ok-files) ∙ ap (λ (state : FolderState). state.files) c.self.view_is
