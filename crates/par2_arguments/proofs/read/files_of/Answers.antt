use Rattle.par2_arguments.proofs.Common.{◌∙◌, ap, map, codes, rules, Bor, Text, found_of, take_all}

pub returns : Rattle.par2_arguments.proofs.read.files_of.Goals.returns
returns c = c.loop-bytes.invariant ∙ ap (map (λ (v : Bor Text). v.now)) (take_all c.loop-bytes.bytes-index c.unwrap_or-bytes-items.result.now c.loop-bytes-test.false)
    ∙ ap (λ (s : Bor _). map (λ v. v.now) s.now) c.unwrap_or-bytes-items.ensures
    ∙ Rattle.par2_arguments.proofs.Subcommands.buffers_read (found_of c.args.matches.now) (codes "files") c.get_strs.result _ c.get_strs.ensures (search rules)
