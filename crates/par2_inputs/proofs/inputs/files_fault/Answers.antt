use Rattle.par2_inputs.proofs.Names.{◌≡◌, ◌+◌, ◌∙◌, ◌==◌, ◌&&◌, not, length, has, position, Input, ap, refl, arith, rules, tests, Some, NoSuchFile, EmptyFile, TooManySlices, None, YieldsList-from_slice, position_from_yields_List, files_by, too_many_by}
use Rattle.par2_inputs.proofs.inputs.files_fault.Goals.{In_default}
use Rattle.par2_inputs.proofs.inputs.files_fault.Goals as goal

none_absent : (c : In_default) → None ≡ position (λ (input : Input). length input.bytes.now == 0 && not (has c.args.folder.now.files input.name.now)) c.args.inputs.now
none_absent c =
    position_from_yields_List (λ (input : Input). length input.bytes.now == 0 && not (has c.args.folder.now.files input.name.now)) _ _ _ c.in_default.ensures.ran (YieldsList-from_slice c.args.inputs.now c.iter.ensures.rest) (λ x b q k. search (rules, tests))

pub returns-in-Some : goal.returns-in-Some
returns-in-Some c =
    let k = c.in-Some.place in
    ap (λ n. Some (NoSuchFile n)) (let e : k + 1 ≡ 1 + k = omega arith in e)
    ∙ files_by c.args.folder.now.files c.args.size c.args.inputs.now (Some k) _ _ (position_from_yields_List (λ (input : Input). length input.bytes.now == 0 && not (has c.args.folder.now.files input.name.now)) _ _ _ c.in-Some.ensures.ran (YieldsList-from_slice c.args.inputs.now c.iter.ensures.rest) (λ x b q k. search (rules, tests))) refl refl

pub returns-in-Some-position : goal.returns-in-Some-position
returns-in-Some-position c =
    let k = c.in-Some-position.place in
    ap (λ n. Some (EmptyFile n)) (let e : k + 1 ≡ 1 + k = omega arith in e)
    ∙ files_by c.args.folder.now.files c.args.size c.args.inputs.now None (Some k) _ (none_absent (goal.at.returns-in-Some-position c).In_default)
    (position_from_yields_List (λ (input : Input). length input.bytes.now == 0) _ _ _ c.in-Some-position.ensures.ran (YieldsList-from_slice c.args.inputs.now c.iter-2.ensures.rest) (λ x b q k. search (rules, tests))) refl

pub returns : goal.returns
returns c =
    c.then_some.ensures ∙ too_many_by c.are_too_many.result TooManySlices
    ∙ files_by c.args.folder.now.files c.args.size c.args.inputs.now None None _ (none_absent (goal.at.returns c).In_default)
    (position_from_yields_List (λ (input : Input). length input.bytes.now == 0) _ _ _ c.in_default-position.ensures.ran (YieldsList-from_slice c.args.inputs.now c.iter-2.ensures.rest) (λ x b q k. search (rules, tests))) c.are_too_many.ensures
