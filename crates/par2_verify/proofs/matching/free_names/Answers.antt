use Rattle.par2_verify.proofs.Common.{◌∙◌, List, ℕ, not, ap, append-nil, arith, filter, take_all, is_among, filter_more}
use Rattle.par2_verify.proofs.matching.free_names.Goals as goal

pub loop-name-preserved : goal.loop-name-preserved
loop-name-preserved c = λ all h.
    grind (arith, filter_more (λ (n : List ℕ). not (is_among all n)) c.args.names.now c.loop-name.name-index c.name-item.result c.loop-name-test.true, h (record { ref_ptr = c.args.names.ref_ptr; now = c.name-item.result }), c.loop-name.invariant all h, append-nil)

pub loop-name-init : goal.loop-name-init
loop-name-init c = λ all h. c.new-free.ensures.items

pub returns : goal.returns
returns c = λ all h. c.loop-name.invariant all h ∙ ap (filter (λ (n : List ℕ). not (is_among all n))) (take_all c.loop-name.name-index c.args.names.now c.loop-name-test.false)
