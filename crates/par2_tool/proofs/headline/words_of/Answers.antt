use Rattle.par2_tool.proofs.Common.{OutOfMemory}
use Rattle.par2_tool.proofs.Names.{◌≡◌, Result, Err, IfErr, arith, ap, common_steps, error_kind, subst, sym}
use Rattle.par2_tool.proofs.Runs.{memory_kind, other_kind}
use Rattle.par2_tool.proofs.headline.words_of.Goals as goal

-- what holds of the error that was given
where_failed : {A E : Type 0} (given : Result A E) (error : E) → given ≡ Err error → (P : E → Type 0) → P error → IfErr given P
where_failed given error is P holds = subst (λ it. IfErr it P) (sym is) holds

pub returns-in-Err-clause-refused : goal.returns-in-Err-clause-refused
returns-in-Err-clause-refused c =
    let memory : error_kind c.in-Err.error ≡ OutOfMemory = grind (arith, common_steps) in
    where_failed c.args.given c.in-Err.error c.in-Err.is _ (ap Err (sym (memory_kind _ memory)))

pub returns-in-Err-2-clause-refused : goal.returns-in-Err-2-clause-refused
returns-in-Err-2-clause-refused c =
    let other : error_kind c.in-Err-2.field-0 ≡ OutOfMemory → ⊥ = (λ memory. grind (arith, common_steps)) in
    where_failed c.args.given c.in-Err-2.field-0 c.in-Err-2.is _ (ap Err (sym (other_kind _ other)))
