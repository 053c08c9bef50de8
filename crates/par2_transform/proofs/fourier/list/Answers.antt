use Rattle.par2_transform.proofs.Common.{arith, ℕ, List, ◌≡◌, sym, subst, ap, ◌∙◌, length, get_or, with_items_is, IsListed}
use Rattle.par2_transform.proofs.fourier.list.Goals as goal

pub name_each-requires : goal.name_each-requires
name_each-requires c = c.as_mut_slice-entries.ensures.len ∙ c.in_ok-next.ensures.len

pub returns-clause-count : goal.returns-clause-count
returns-clause-count c =
    let size = c.name_least.auto.next ∙ c.name_each.auto.next ∙ c.as_mut_slice-entries.ensures.len in
    ap (λ (xs : List ℕ). length xs) (with_items_is c.in_ok-next.next c.name_least.new.next size) ∙ size ∙ c.in_ok-next.ensures.len

pub returns-clause-listed : goal.returns-clause-listed
returns-clause-listed c = λ j low.
    let next = c.name_least.new.next in
    let many : length c.name_each.new.next ≡ 65536 = c.name_each.auto.next ∙ c.as_mut_slice-entries.ensures.len ∙ c.in_ok-next.ensures.len in
    let size = c.name_least.auto.next ∙ c.name_each.auto.next ∙ c.as_mut_slice-entries.ensures.len in
    subst (λ (xs : List ℕ). IsListed (λ i. get_or xs i 0) (get_or c.args.numbers.now j 0)) (sym (with_items_is c.in_ok-next.next next size)) (c.name_least.ensures (get_or c.args.numbers.now j 0) (omega (arith, c.type_inv.numbers j, many)) (c.name_each.ensures j low))
