use Rattle.par2_files.proofs.Names.{inr, ◌≡◌, ◌⊎◌, ℕ, List, false, false≢true, Split, Beginning, comes_before, inl, refl, HasAbsorbed, ◌<◌, length, ap, arith, subst, sym, ◌∙◌, append-nil, entries, take_all, md5, fingerprint, files_in, folder_in, taken_on, files_of, file_of, length-map, fingerprint_is}
use Rattle.par2_files.proofs.SortedFiles.{no_bytes}
use Rattle.par2_files.proofs.walk.fingerprint_with_checkpoints.Goals.{then-comes_before+in_ok-progress+in_ok-mark, else-comes_before}
use Rattle.par2_files.proofs.walk.fingerprint_with_checkpoints.Goals as goal

pub returns-clause-some : goal.returns-clause-some
returns-clause-some c = λ files.
    let whole = ap entries (sym c.in_ok-snapshot.ensures) ∙ files_of (files_in c.in_ok-snapshot.snapshot) c.in_ok-snapshot.snapshot.kept.sorted in
    let some = subst (λ l. 0 < length l) whole files in
    c.loop-place.invariant.behind (omega (arith, some, length-map c.in_ok-snapshot.snapshot.files.items file_of, c.loop-place-test.false))

pub returns-clause-fingerprint : goal.returns-clause-fingerprint
returns-clause-fingerprint c = c.digest.ensures _ c.in_ok-end.ensures.there.absorbed ∙ fingerprint_is (folder_in c.in_ok-snapshot.snapshot) ∙ ap fingerprint c.in_ok-snapshot.ensures

pub returns-clause-digest : goal.returns-clause-digest
returns-clause-digest c =
    let bytes = c.args.bytes.now in
    let whole = taken_on bytes c.in_ok-end.end.taken (length bytes) c.in_ok-end.ensures.there.within ∙ take_all (length bytes) bytes (omega arith) in
    c.digest-2.ensures _ (c.absorb.ensures _ c.in_ok-end.ensures.there.beside) ∙ ap md5 (simp append-nil whole)

pub loop-place-init : goal.loop-place-init
loop-place-init c = record {
  at = record {
    absorbed = subst (HasAbsorbed c.new.result) (sym (no_bytes (folder_in c.in_ok-snapshot.snapshot))) c.new.ensures;
    within = omega arith;
    beside = c.new-2.ensures;
  };
  are_checkpoints = c.none-checkpoints.ensures (folder_in c.in_ok-snapshot.snapshot);
  some = inl refl;
  behind = λ no. absurd (omega (arith, no));
}

-- if the split isn't before the one at a name, it isn't the beginning
one_before : (split : Split) (name : List ℕ) (n : ℕ) → comes_before split name ≡ false → (split ≡ Beginning) ⊎ (0 < n) → 0 < n
one_before split name n behind either = grind (arith, false≢true, behind)

pub loop-place-preserved : goal.loop-place-preserved
loop-place-preserved c =
    let so_far = c.loop-place.invariant in
    elim c.if-comes_before.branch [
      | then-comes_before+in_ok-progress+in_ok-mark w ↦
          let at = w.in_ok-progress.ensures.there in
          let some = w.in_ok-mark.ensures.some in
          rw (w.split-is, w.progress-is, w.checkpoints-is)
          (record { at = at; are_checkpoints = w.in_ok-mark.ensures.checkpoints (folder_in c.in_ok-snapshot.snapshot) so_far.are_checkpoints at.absorbed; some = inr some; behind = λ _. some })
      | else-comes_before w ↦
          let one = one_before c.loop-place.split _ _ (sym c.comes_before.ensures.which ∙ w.if-comes_before.false) so_far.some in
          rw (w.split-is, w.progress-is, w.checkpoints-is) (record { at = so_far.at; are_checkpoints = so_far.are_checkpoints; some = so_far.some; behind = λ _. one })
    ]
