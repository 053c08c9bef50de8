use Rattle.par2_disk.proofs.Names.{rules, take_all, All-more, and_self, ◌≡◌, ◌∙◌, List, ℕ, subst, GivesNoMore, IsWithinThoseNamed, narrower, within_first, within_on, within_second}
use Rattle.par2_disk.proofs.current.Modes.mode_at.Goals.{then-eq, else-eq}
use Rattle.par2_disk.proofs.current.Modes.mode_at.Goals as goal

-- a mode has no bit that the file lacks, if the file has this name
abbrev Narrows : List ℕ → ℕ → (List ℕ × ℕ) → Type 0
Narrows name mode file = file.0 ≡ name → GivesNoMore mode file.1

pub loop-file-preserved : goal.loop-file-preserved
loop-file-preserved c =
    let so_far = c.loop-file.invariant in
    let name = c.in-File.name.now in
    let after = c.if-eq.permissions in
    let within : GivesNoMore after c.loop-file.permissions =
    elim c.if-eq.branch [ then-eq w ↦ rw w.permissions-is (within_first c.loop-file.permissions _) | else-eq w ↦ rw w.permissions-is (and_self c.loop-file.permissions) ] in
    let narrowed : Narrows name after c.file-item.result =
    elim c.if-eq.branch [
      | then-eq w ↦ λ same. rw w.permissions-is (within_second c.loop-file.permissions _)
      | else-eq w ↦ λ same. search rules
    ] in
    record {
      all = within_on _ _ _ within so_far.all;
      allowed = within_on _ _ _ within so_far.allowed;
      named = All-more (Narrows name after) _ c.loop-file.file-index c.file-item.result c.loop-file-test.true (narrower _ _ _ _ within so_far.named) (subst (Narrows name after) c.file-item.is narrowed);
    }

pub returns-after-loop-file-clause-location : goal.returns-after-loop-file-clause-location
returns-after-loop-file-clause-location c =
    let items = take_all c.loop-file.file-index c.deref-file-items.result.now c.loop-file-test.false ∙ c.deref-file-items.ensures.value in
    rw c.in-File.is (subst (λ files. IsWithinThoseNamed files c.in-File.name.now c.loop-file.permissions) items c.loop-file.invariant.named)
