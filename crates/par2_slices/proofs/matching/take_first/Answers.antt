use Rattle.par2_slices.proofs.Names.{◌∙◌, ap, rules, first_intact, buffers_of, filter_same}
use Rattle.par2_slices.proofs.matching.take_first.Goals as goal

pub returns-in_err-first-clause-first : goal.returns-in_err-first-clause-first
returns-in_err-first-clause-first c t h =
    let files = c.args.files in
    c.from_residual.ensures ∙ c.in_err-first.ensures t h ∙ ap (first_intact files.s (buffers_of files.buffers.now) t) c.deref.ensures.value

pub returns-clause-left : goal.returns-clause-left
returns-clause-left c = filter_same _ _ _ (λ x b f' k. search rules) _ _ c.retain.ensures.filtered

pub returns-clause-first : goal.returns-clause-first
returns-clause-first c t h =
    let files = c.args.files in
    c.in_ok-first.ensures t h ∙ ap (first_intact files.s (buffers_of files.buffers.now) t) c.deref.ensures.value
