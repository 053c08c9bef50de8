use Rattle.par2_files.proofs.Names.{◌∙◌, ap, map, rules, sym, File, YieldsList-from_map, YieldsList-from_slice, items_from_collect, IfOk-weaker, files_of}
use Rattle.par2_files.proofs.folder.Folder.names.Goals as goal

pub returns : goal.returns
returns c =
    let files = c.self.inside.files.items in
    let name = λ (file : File). file.0 in
    rw (← c.self.view_is) (IfOk-weaker c.collect.result _ _ (λ list e. e ∙ ap (map name) (sym (files_of files c.self.invariant.sorted)))
    (items_from_collect _ c.collect.ensures.ran (YieldsList-from_map _ name (YieldsList-from_slice files cc) c.map-names.ensures.closure (λ x r q k. search rules))))
