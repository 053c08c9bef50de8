use Rattle.par2_tool.proofs.Names.{◌≡◌, arith, drop, refl, subst, into_iter_items, common_steps, items_from_collect, YieldsList-from_vec, Lists}
use Rattle.par2_tool.proofs.headline.words_in.Goals as goal

pub returns : goal.returns
returns c =
    let left : into_iter_items c.next-name.new.self ≡ drop 1 (into_iter_items c.args.args) = grind (arith, common_steps) in
    subst (λ items. Lists items c.collect.result) left (items_from_collect _ c.collect.ensures.ran (YieldsList-from_vec _ refl c.next-name.new.self.rest.ok.0))
