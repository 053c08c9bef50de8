use Rattle.par2_sets.proofs.AnswerNames.{◌≡◌, ◌<◌, ◌≤◌, ◌∙◌, ◌∷◌, [], Some, length, sym, ap, subst, true, false, arith, NameTooLong, is_among, numbered, aside, taken_for, target_names, long_aside, no_name, all_names, first_here, first_later, from_one, long_is_no_name, too_long, err_from_is_err_and, refused_by, common_steps}
use Rattle.par2_sets.proofs.set.aside.Goals as goal

pub loop-n-preserved : goal.loop-n-preserved
loop-n-preserved c =
    let taken = taken_for c.args.folder.now.files c.args.set.now in
    let name = c.args.name.now in
    let n = c.loop-n.n in
    let low : n ≤ c.args.most = omega (arith, c.loop-n-test.true) in
    let full : is_among taken (numbered name n) ≡ true = ap (is_among taken) (sym c.in_ok-other.ensures.name) ∙ sym (c.is_taken.ensures (target_names c.args.set.now) c.requires.targets) ∙ c.if-not-is_taken.false in
    c.loop-n.invariant ∙ first_later taken name c.args.most n low full

pub returns-in_err-other-clause-refused : goal.returns-in_err-other-clause-refused
returns-in_err-other-clause-refused c =
    let folder = c.args.folder.now.files in
    let set = c.args.set.now in
    let taken = taken_for folder set in
    let name = c.args.name.now in
    let n = c.loop-n.n in
    let low : n ≤ c.args.most = omega (arith, c.loop-n-test.true) in
    let found : 255 < length (numbered name n) → 255 < length (aside folder set name) = λ long.
    let free : is_among taken (numbered name n) ≡ false = no_name taken (numbered name n) (all_names folder set c.vacant.ensures.folder c.targets.ensures.sound) (long_is_no_name (numbered name n) long) in
    subst (λ other. 255 < length other) (sym (c.loop-n.invariant ∙ first_here taken name c.args.most n low free)) long in
    refused_by (λ y. (y ≡ NameTooLong) × (255 < length (numbered name n))) (λ y. long_aside folder set (name ∷ []) ≡ Some y) _ c.in_err-other.field-0.0 (err_from_is_err_and _ c.from_residual.ensures.1) c.in_err-other.ensures.refused
    (λ long. too_long folder set name (found long.1) ∙ ap Some (sym long.0))

pub loop-n-init : goal.loop-n-init
loop-n-init c = from_one c.args.folder.now.files c.args.set.now c.args.name.now c.args.most c.requires.most

pub unreachable-requires : goal.unreachable-requires
unreachable-requires c = grind (arith, common_steps)
