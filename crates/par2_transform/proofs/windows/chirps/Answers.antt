use Rattle.par2_transform.proofs.Names.{rules, arith, ◌≡◌, ◌-◌, YieldsList-from_map, YieldsList-from_range, items_from_collect, IfOk-weaker, ℕ, ◌+◌, ◌*◌, ◌%◌, ◌^◌, subst, chirp, Tabulates, shifted_most, tabulated}
use Rattle.par2_transform.proofs.windows.chirps.Goals as goal

pub returns : goal.returns
returns c =
    let plan = c.args.plan.now in
    let n = 1 * 2 ^ plan.levels % 18446744073709551616 in
    let f = λ (i : ℕ). chirp plan.classes (c.args.m + i) in
    IfOk-weaker c.collect.result _ _ (λ v is. subst (λ k. Tabulates f k v.items) (shifted_most plan.levels plan.few_levels) (tabulated f n v.items is))
    (items_from_collect c.collect.result c.collect.ensures.ran (YieldsList-from_map _ f (YieldsList-from_range 0 n n (cc) (let e : n - 0 ≡ n = omega arith in e)) c.map.ensures.closure (λ x r q k. search rules)))
