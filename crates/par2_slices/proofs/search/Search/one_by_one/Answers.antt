use Rattle.par2_slices.proofs.Names.{◌≡◌, ◌∙◌, ◌+◌, ◌-◌, ◌≤◌, ℕ, List, get_or, refl, ap, subst, arith, get_or-drop, drop, length, rules, take, drop_min, take_rest, none_left, slid_window, common_steps}
use Rattle.par2_slices.proofs.search.Search.one_by_one.Goals as goal

pub loop-offset-preserved : goal.loop-offset-preserved
loop-offset-preserved c =
    let s : ℕ = c.args.scan.now.rolling.now.size in
    let content : List ℕ = c.args.scan.now.bytes.now in
    let o : ℕ = c.loop-offset.offset in
    let next : ℕ = c.unwrap_or-next.result in
    let incoming_is = take_rest content c.min.result ∙ ap (λ n. drop n content) c.min.ensures ∙ drop_min c.size.result content ∙ ap (λ s. drop s content) c.size.ensures.value in
    let next_is : next ≡ get_or content (s + o) 0 = (let read : next ≡ get_or (take (length content - c.min.result) (drop c.min.result content)) o 0 = search rules in read) ∙ ap (λ t. get_or t o 0) incoming_is ∙ get_or-drop s content o 0 in
    record {
      at = c.test.ensures;
      value = c.slid-crc.ensures ∙ slid_window s content o c.loop-offset.crc (get_or content o 0) next (subst (λ (s : ℕ). 1 ≤ s) c.size.ensures.value c.size.ensures.some) c.loop-offset.invariant.value refl next_is;
    }

pub returns-then-self-eq0 : goal.returns-then-self-eq0
returns-then-self-eq0 c =
    let search = c.loop-offset.self in
    none_left c.args.scan.now c.loop-offset.offset (c.args.end - c.loop-offset.offset) c.args.end search.found.items search.left search.filter search.batch.items c.loop-offset.invariant.at c.if-self-eq0.true (omega arith)

pub padded_crc32-crc-requires : goal.padded_crc32-crc-requires
padded_crc32-crc-requires c = grind (arith, common_steps)
