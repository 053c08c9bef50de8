use Rattle.par2_sets.proofs.AnswerNames.{◌≡◌, ◌∙◌, ◌==◌, ◌++◌, ◌∷◌, [], inr, sym, ap, ap₂, rules, arith, take_more, take_all, Some, Ok, option_map, ok_or, if◌then◌else◌, NoChecksums, count_cmp, ne_eqb, get, option_copied, slice_count, item_at}
use Rattle.par2_sets.proofs.set.pairs_for.Goals.{After-get}
use Rattle.par2_sets.proofs.set.pairs_for.Goals as goal

-- the checksums that the map has for a file that isn't empty
found : (c : After-get) → ok_or (if c.args.description.now.length == 0 then Some [] else option_map (λ x. x.pairs) (get count_cmp c.args.firsts.now (c.args.description.now.id, slice_count c.args.s c.args.description.now.length))) NoChecksums
    ≡ ok_or (option_map (λ x. x.pairs) (option_copied c.get.result)) NoChecksums
found c =
    let d = c.args.description.now in
    let value : option_copied c.get.result ≡ get count_cmp c.args.firsts.now (d.id, slice_count c.args.s d.length) =
    c.get.ensures.value ∙ ap₂ (λ a b. get count_cmp c.args.firsts.now (a, b)) c.id.ensures (c.slice_count.ensures ∙ ap (slice_count c.args.s) c.length-2.ensures) in
    ap (λ b. ok_or (if b then Some [] else option_map (λ x. x.pairs) (get count_cmp c.args.firsts.now (d.id, slice_count c.args.s d.length))) NoChecksums) (ne_eqb d.length 0 (λ e. c.if-length-eq0.false (c.length.ensures ∙ e)))
    ∙ ap (λ o. ok_or (option_map (λ x. x.pairs) o) NoChecksums) (sym value)

pub returns-in_default : goal.returns-in_default
returns-in_default c = inr (found (goal.at.returns-in_default c).After-get ∙ ap (λ r. ok_or (option_map (λ x. x.pairs) (option_copied r)) NoChecksums) c.in_default.is)

pub loop-k-preserved : goal.loop-k-preserved
loop-k-preserved c =
    let at = item_at c.in-Some.checksums.now.pairs c.loop-k.k _ c.pair.ensures in
    let pushed : c.push.new.self.items ≡ c.loop-k.pairs.items ++ c.pair.result ∷ [] = search rules in
    pushed ∙ ap₂ (λ a b. a ++ b ∷ []) c.loop-k.invariant at.1 ∙ sym (take_more c.in-Some.checksums.now.pairs c.loop-k.k _ at.0)

pub returns : goal.returns
returns c =
    found (goal.at.returns c).After-get ∙ ap (λ r. ok_or (option_map (λ x. x.pairs) (option_copied r)) NoChecksums) c.in-Some.is
    ∙ ap Ok (sym (c.loop-k.invariant ∙ take_all c.loop-k.k c.in-Some.checksums.now.pairs (omega (arith, c.loop-k-test.false))))
