use Rattle.par2_matrix.proofs.Names.{◌∙◌, sym, subst, IsReduced, echelon, lists_of, length-lists_of, none_reduced, new_system}
use Rattle.par2_matrix.proofs.system.System.new.Goals as goal

pub invariant_of-result : goal.invariant_of-result
invariant_of-result c =
    let rows = c.in_ok-empty_lists.field-0.items in
    subst (λ n. IsReduced (echelon n c.args.bytes 0 (lists_of rows) (lists_of c.in_ok-empty_lists-2.field-0.items)))
    (sym c.in_ok-empty_lists.ensures.count ∙ length-lists_of rows)
    (none_reduced _ _ _ _ c.requires.even c.in_ok-empty_lists.ensures c.in_ok-empty_lists-2.ensures)

pub returns : goal.returns
returns c = new_system _ _ _ _ _ (sym (length-lists_of c.in_ok-empty_lists.field-0.items) ∙ c.in_ok-empty_lists.ensures.count) c.in_ok-empty_lists.ensures c.in_ok-empty_lists-2.ensures
