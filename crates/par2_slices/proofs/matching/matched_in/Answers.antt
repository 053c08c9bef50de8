use Rattle.par2_slices.proofs.Names.{◌∙◌, ℕ, ◌+◌, ◌++◌, List, length, drop, sym, ap, subst, arith, Bor, range_with_len, append-nil, at_drop_all, length-map, matched_from, buffers_of, AreBelow, below_length, described_all, left_below, match_pushed, Ok, ◌≡◌, ◌-◌, refl, items_from_collect, YieldsList-from_range}
use Rattle.par2_slices.proofs.matching.matched_in.Goals as goal

pub loop-target-init : goal.loop-target-init
loop-target-init c =
    let buffers : List (List ℕ) = buffers_of c.args.files.buffers.now in
    let n : ℕ = length c.args.files.buffers.now in
    let all = items_from_collect {E = ℕ} (Ok c.in_ok-free.free) c.in_ok-free.ensures.ran (YieldsList-from_range 0 n n refl (let e : n - 0 ≡ n = omega arith in e)) in
    record {
      free = subst (λ (free : List ℕ). AreBelow n free) (sym all) (below_length n);
      numbers = λ ts h. ap (λ numbers. numbers ++ matched_from c.args.files.s buffers c.in_ok-free.free.items ts) c.in_ok-numbers.ensures.items
          ∙ ap (λ free. matched_from c.args.files.s buffers free ts) (all ∙ ap (range_with_len 0) (sym (length-map c.args.files.buffers.now (λ (bytes : Bor (List ℕ)). bytes.now))));
    }

pub loop-target-preserved : goal.loop-target-preserved
loop-target-preserved c =
    let buffers : List (List ℕ) = buffers_of c.args.files.buffers.now in
    let n : ℕ = c.loop-target.target-index in
    record {
      free = subst (λ (free : List ℕ). AreBelow (length c.args.files.buffers.now) free) (sym c.take_first.ensures.left) (left_below _ _ c.take_first.result c.loop-target.invariant.free);
      numbers = λ ts h. ap (λ numbers. numbers ++ matched_from c.args.files.s buffers c.take_first.new.free.items (drop (n + 1) ts)) c.in_ok-push.ensures.items
          ∙ match_pushed c.args.files.s buffers c.args.targets.now ts n _ c.loop-target.numbers.items c.take_first.result c.loop-target.free.items c.take_first.new.free.items
          c.loop-target-test.true h c.take_first.ensures.first c.take_first.ensures.left (c.loop-target.invariant.numbers ts h);
    }

pub returns : goal.returns
returns c ts h =
    sym (append-nil c.loop-target.numbers.items)
    ∙ sym (at_drop_all (λ us. c.loop-target.numbers.items ++ matched_from c.args.files.s (buffers_of c.args.files.buffers.now) c.loop-target.free.items us) ts c.loop-target.target-index (omega (arith, described_all c.args.targets.now ts h, c.loop-target-test.false)))
    ∙ c.loop-target.invariant.numbers ts h
