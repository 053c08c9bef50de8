use Rattle.par2_sets.proofs.AnswerNames.{◌≡◌, ◌<◌, ◌∙◌, ◌++◌, ◌∷◌, [], ℕ, List, Some, None, IsTrue, length, rules, map, sym, ap, subst, get_or, arith, is_name, aside, names, target_names, long_aside, take_all, length-append, length-map, refused_by, err_from_is_err_and, Fault, Folder, ParSet, common_steps, one_more_aside, one_more_short}
use Rattle.par2_sets.proofs.set.asides.Goals as goal

pub loop-name-preserved : goal.loop-name-preserved
loop-name-preserved c =
    let folder = c.args.folder.now.files in
    let set = c.args.set.now in
    let names = c.args.names.now in
    let i = c.loop-name.name-index in
    let named : IsTrue (is_name c.in_ok-aside.field-0) = search rules in (
      c.in_ok-push.ensures.items ∙ one_more_aside folder set names i c.name-item.result c.in_ok-aside.field-0 c.loop-name-test.true c.name-item.is c.in_ok-aside.ensures.aside c.loop-name.asides.items c.loop-name.invariant.0,
      one_more_short folder set names i c.name-item.result c.in_ok-aside.field-0 c.loop-name-test.true c.name-item.is c.in_ok-aside.ensures.aside named c.loop-name.invariant.1,
    )

-- a name among others whose aside is too long
among : (folder : Folder) (set : ParSet) (names : List (List ℕ)) (i : ℕ) (name : List ℕ) (fault : Fault) → i < length names → name ≡ get_or names i name → long_aside folder set (name ∷ []) ≡ Some fault → long_aside folder set names ≡ Some fault
among folder set names i name fault low is long = grind (arith, common_steps)

pub returns-in_err-aside-clause-refused : goal.returns-in_err-aside-clause-refused
returns-in_err-aside-clause-refused c =
    let long = λ (xs : List (List ℕ)) (y : Fault). long_aside c.args.folder.now.files c.args.set.now xs ≡ Some y in
    refused_by (long (c.name-item.result ∷ [])) (long c.args.names.now) _ c.in_err-aside.field-0.0 (err_from_is_err_and _ c.from_residual-in_err-aside.ensures.1) c.in_err-aside.ensures.refused
    (among c.args.folder.now.files c.args.set.now c.args.names.now c.loop-name.name-index c.name-item.result _ c.loop-name-test.true c.name-item.is)

pub aside-requires-clause-most : goal.aside-requires-clause-most
aside-requires-clause-most c = omega (arith, ap length c.targets.ensures.value, length-append (names c.args.folder.now.files) (target_names c.args.set.now), length-map c.args.set.now.targets (λ t. t.name))

pub returns-clause-few : goal.returns-clause-few
returns-clause-few c = omega (arith, ap length c.targets.ensures.value, length-append (names c.args.folder.now.files) (target_names c.args.set.now), length-map c.args.set.now.targets (λ t. t.name))

pub returns-clause-short : goal.returns-clause-short
returns-clause-short c = subst (λ xs. long_aside c.args.folder.now.files c.args.set.now xs ≡ None) (take_all c.loop-name.name-index c.args.names.now c.loop-name-test.false) c.loop-name.invariant.1

pub returns-clause-names : goal.returns-clause-names
returns-clause-names c = c.loop-name.invariant.0 ∙ ap (map (aside c.args.folder.now.files c.args.set.now)) (take_all c.loop-name.name-index c.args.names.now c.loop-name-test.false)
