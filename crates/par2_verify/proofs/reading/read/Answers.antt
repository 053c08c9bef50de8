use Rattle.par2_verify.proofs.Names.{arith, ◌≡◌, ◌⊎◌, ◌∙◌, ◌∷◌, [], ℕ, List, Bool, inl, inr, map, refl, sym, ap, Err, Result, Fault, Memory, ParSet, set_of, set_in, err_from_is_err_and, err_again, answered_so, cond, rules, tests, string_bytes, subst, Global, filter, filter_map, is_some, IfOk, IfSome, Option, String, Some, Folder, has, YieldsList-from_slice, items_from_collect, YieldsList-from_filter_map, None, all_there, unread, all_present, is_early, not_early, Returns, Reading}
use Rattle.par2_verify.proofs.reading.read.Goals.{In_ok-base, In_ok-extras}
use Rattle.par2_verify.proofs.reading.read.Goals as goal

-- the name of a file, if the word is one
abbrev named : Folder → String Global → Option (List ℕ)
named folder word = cond (has folder (string_bytes word)) (Some (string_bytes word)) None

is_named : (o : Option (List ℕ)) (b : Bool) (name : List ℕ) → is_some o ≡ b → IfSome o (λ n. n ≡ name) → o ≡ cond b (Some name) None
is_named None b name v e = ap (λ b. cond b (Some name) None) v
is_named (Some n) b name v e = ap Some e ∙ ap (λ b. cond b (Some name) None) v

present : (folder : Folder) (words : List (String Global)) → filter_map (named folder) words ≡ filter (has folder) (map string_bytes words)
present folder [] = refl
present folder (word ∷ words) = grind (arith, present folder words)

listed : (c : In_ok-extras) → c.in_ok-extras.extras.items ≡ filter_map (named c.args.folder.now.files) c.args.extras.now
listed c =
    subst (λ r. IfOk r (λ list. list.items ≡ filter_map (named c.args.folder.now.files) c.args.extras.now)) c.in_ok-extras.was
    (items_from_collect c.collect.result c.collect.ensures.ran (YieldsList-from_filter_map _ (named c.args.folder.now.files) (YieldsList-from_slice c.args.extras.now cc) c.filter_map-extras.ensures.closure (λ x r q k. search (rules, tests, is_named))))

pub returns-clause-extras : goal.returns-clause-extras
returns-clause-extras c =
    listed (goal.at.returns-clause-extras c).In_ok-extras ∙ present c.args.folder.now.files c.args.extras.now ∙ all_there c.args.folder.now.files c.args.base.now (map string_bytes c.args.extras.now) c.in_ok-base.ensures.1

-- the set that was read, or its fault
abbrev Answers : Result ParSet Fault → Result Reading Fault → Type 0
Answers set r = Returns (λ (reading : Reading). reading.set) r set

-- the set is that of the base
of_base : (c : In_ok-base) → set_in c.args.folder.now.files c.args.base.now (map string_bytes c.args.extras.now) ≡ set_of c.args.folder.now.files c.in_ok-base.base
of_base c = all_present c.args.folder.now.files c.args.base.now (map string_bytes c.args.extras.now) c.in_ok-base.ensures.1 ∙ ap (set_of c.args.folder.now.files) (sym c.in_ok-base.ensures.0)

pub returns-in_err-base-clause-set : goal.returns-in_err-base-clause-set
returns-in_err-base-clause-set c =
    err_again (Answers (set_in c.args.folder.now.files c.args.base.now (map string_bytes c.args.extras.now))) c.from_residual.result c.in_err-base.field-0.0 (err_from_is_err_and c.from_residual.result c.from_residual.ensures.1)
    (inr (unread c.args.folder.now.files c.args.base.now (map string_bytes c.args.extras.now) c.in_err-base.field-0.0 c.in_err-base.ensures))

pub returns-in_err-set-clause-set : goal.returns-in_err-set-clause-set
returns-in_err-set-clause-set c =
    let set = set_in c.args.folder.now.files c.args.base.now (map string_bytes c.args.extras.now) in
    let fault = c.in_err-set.field-0.0 in
    err_again (Answers set) c.from_residual-in_err-set.result fault (err_from_is_err_and c.from_residual-in_err-set.result c.from_residual-in_err-set.ensures.1)
    (elim c.in_err-set.ensures.refused as (λ _. (fault ≡ Memory) ⊎ (set ≡ Err fault)) [ inl memory ↦ inl memory | inr refused ↦ inr (of_base (goal.at.returns-in_err-set-clause-set c).In_ok-base ∙ refused) ])

pub returns-clause-set : goal.returns-clause-set
returns-clause-set c = of_base (goal.at.returns-clause-set c).In_ok-base ∙ c.in_ok-set.ensures.read

pub returns-in_err-base-clause-early : goal.returns-in_err-base-clause-early
returns-in_err-base-clause-early c other early =
    let p = err_from_is_err_and c.from_residual.result c.from_residual.ensures.1 in
    answered_so c.from_residual.result _ c.in_err-base.field-0.0 other (p.1 ∙ ap Err p.2) c.in_err-base.ensures (sym (is_early c.args.folder.now.files c.args.base.now (map string_bytes c.args.extras.now)) ∙ early)

pub returns-in_err-extras-clause-early : goal.returns-in_err-extras-clause-early
returns-in_err-extras-clause-early c fault early = absurd (not_early c.args.folder.now.files c.args.base.now (map string_bytes c.args.extras.now) c.in_ok-base.ensures.1 fault early)

pub returns-in_err-set-clause-early : goal.returns-in_err-set-clause-early
returns-in_err-set-clause-early c fault early = absurd (not_early c.args.folder.now.files c.args.base.now (map string_bytes c.args.extras.now) c.in_ok-base.ensures.1 fault early)

pub returns-clause-early : goal.returns-clause-early
returns-clause-early c fault early = absurd (not_early c.args.folder.now.files c.args.base.now (map string_bytes c.args.extras.now) c.in_ok-base.ensures.1 fault early)
