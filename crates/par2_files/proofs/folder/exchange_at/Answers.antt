use Rattle.par2_files.proofs.Names.{◌∙◌, ◌≡◌, [], ap, rules, Some, sym, get_or_default, File, exchanged, bytes_at}
use Rattle.par2_files.proofs.folder.exchange_at.Goals as goal

pub returns : goal.returns
returns c =
    let here = c.requires.here in
    let read = c.index_mut.ensures.value ∙ get_or_default _ _ c.index_mut.result.now ([], []) here.in_range in
    let named : c.index_mut.result.now.0 ≡ c.args.name.now = ap (λ (e : File). e.0) read ∙ here.has_name in
    let made = exchanged _ c.requires.kept _ _ _ here (c.as_str-bytes.ensures.name, c.as_slice-slice.ensures.fits) in
    record {
      bytes = rw c.swap.ensures.y_after (bytes_at _ c.requires.kept _ _ here ∙ ap (λ e. Some e.1) (sym read));
      files = rw (named, c.swap.ensures.x_after) made;
      len = search rules;
      capacity = search rules;
    }
