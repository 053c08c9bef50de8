use Rattle.par2_laws.proofs.Common.{◌≡◌, ◌∙◌, Some, sym, ap, subst, by_either, Memory, NotRepairable, RepairFailed}
use Rattle.std.proofs.lemmas.Result.{IfErr-weaker, IfOk-weaker}
use Rattle.par2_spec.specs.Prelude.{HasFiles}
use Rattle.par2_laws.proofs.Reading.{leaves_files, never_fails, has_choice}
use Rattle.par2_laws.proofs.answers.repair_restores_the_files.Goals as goal

pub returns : goal.returns
returns c = λ folder base extras purge answer is. record {
  restored = λ files s original. IfOk-weaker answer _ _ (λ left repaired. subst (HasFiles files) (sym repaired.left) (leaves_files folder base extras files s original purge repaired.accepted)) is.left;
  right = λ files s original. IfErr-weaker answer _ _ (λ fault why failed. by_either why
      (λ memory. let clash : Memory ≡ RepairFailed = sym memory ∙ failed in absurd (cc))
      (λ refused. never_fails folder base extras files s original purge (refused ∙ ap Some failed))) is.refused;
  undetermined = λ files s missing rank original. IfErr-weaker answer _ _ (λ fault why few. by_either why
      (λ memory. let clash : Memory ≡ NotRepairable missing rank = sym memory ∙ few in absurd (cc))
      (λ refused. has_choice folder base extras files s original purge missing rank (refused ∙ ap Some few))) is.refused;
}
