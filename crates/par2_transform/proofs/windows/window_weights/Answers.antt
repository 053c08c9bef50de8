use Rattle.par2_transform.proofs.Names.{arith, ◌<◌, ◌≤◌, length-lists_of, mul-le-mul_right, none_weighed, weight_rows, windows_weighed, ◌≡◌, ◌∙◌, ◌+◌, ◌*◌, ◌^◌, ◌++◌, ◌∷◌, [], ℕ, List, sym, ap, subst, length, get_or, map-append, with_items_is, with_items, lists_of, chirp, cut_of, WindowsWeighed, next_weighed}
use Rattle.par2_transform.proofs.windows.window_weights.Goals as goal

pub loop-a-preserved : goal.loop-a-preserved
loop-a-preserved c =
    let cut = cut_of c.args.plan.now in
    let a = c.loop-a.a in
    let all = c.loop-a.all.items in
    let words = c.weights.new.words in
    let row = with_items c.in_ok-words.words words in
    let size = c.weights.auto.words ∙ c.as_mut_slice.ensures.len in
    let count : length words ≡ 2 ^ c.args.plan.now.levels = c.weights.ensures.count ∙ ap (λ (xs : List ℕ). length xs) c.as_mut_slice.ensures.value ∙ c.in_ok-words.ensures.count in
    let items : lists_of c.push.new.self.items ≡ lists_of all ++ words ∷ [] =
    ap lists_of c.in_ok-push.ensures.items ∙ map-append (λ v. v.items) all (row ∷ []) ∙ ap (λ xs. lists_of all ++ xs ∷ []) (with_items_is c.in_ok-words.words words size) in
    subst (WindowsWeighed cut c.args.exponent (a + 1)) (sym items)
    (next_weighed cut c.args.exponent a (lists_of all) words c.loop-a.invariant count c.weights.ensures.elements
    (c.weights.ensures.are (chirp cut.classes) (a * cut.window + c.args.exponent) (λ e h. ap (λ xs. get_or xs e 0) c.as_mut_slice.ensures.value ∙ c.in_ok-words.ensures.each e h)))

pub loop-a-init : goal.loop-a-init
loop-a-init c = subst (WindowsWeighed (cut_of c.args.plan.now) c.args.exponent 0) (sym (ap lists_of c.in_ok-all.ensures.items)) (none_weighed (cut_of c.args.plan.now) c.args.exponent)

pub returns-clause-count : goal.returns-clause-count
returns-clause-count c = omega (arith, length-lists_of c.loop-a.all.items, c.loop-a.invariant.count, c.loop-a-test.false, c.loop-a.auto.a-end)

pub returns-clause-rows : goal.returns-clause-rows
returns-clause-rows c = weight_rows (cut_of c.args.plan.now) c.args.exponent c.loop-a.a (lists_of c.loop-a.all.items) c.loop-a.invariant

pub returns-clause-has : goal.returns-clause-has
returns-clause-has c =
    let end : c.loop-a.a ≡ c.args.plan.now.windows = omega (arith, c.loop-a-test.false, c.loop-a.auto.a-end) in
    windows_weighed (cut_of c.args.plan.now) c.args.exponent (lists_of c.loop-a.all.items) (subst (λ n. WindowsWeighed (cut_of c.args.plan.now) c.args.exponent n (lists_of c.loop-a.all.items)) end c.loop-a.invariant)

-- the first numbers of the windows
early : (a windows window : ℕ) → a < windows → windows * window ≤ 1048576 → a * window ≤ 1048576
early a windows window low few = omega (arith, mul-le-mul_right window (let less : a ≤ windows = omega (arith, low) in less), few)

pub overflow_mul-a : goal.overflow_mul-a
overflow_mul-a c = omega (arith, early c.loop-a.a c.args.plan.now.windows c.args.plan.now.window c.loop-a-test.true c.args.plan.now.few_numbers)

pub overflow_add-a : goal.overflow_add-a
overflow_add-a c = omega (arith, early c.loop-a.a c.args.plan.now.windows c.args.plan.now.window c.loop-a-test.true c.args.plan.now.few_numbers, c.requires)

pub chirps-requires : goal.chirps-requires
chirps-requires c = omega (arith, early c.loop-a.a c.args.plan.now.windows c.args.plan.now.window c.loop-a-test.true c.args.plan.now.few_numbers, c.requires)
