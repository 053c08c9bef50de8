use Rattle.par2_journal.proofs.Names.{inr, refl, ◌≡◌, ◌-◌, ◌&&◌, true, false, Bool, List, Some, Ok, Err, length, drop, sym, ap, ◌∙◌, arith, drop-map, ⊎_map, Change, effects, is_valid, leads_through, change_of, changes_in, halfway_of, journal_of, session_at, answer, halfway_is}
use Rattle.par2_spec.specs.Opening as defined
use Rattle.par2_journal.proofs.taking_back.open_halfway.Goals.{After-take_back}
use Rattle.par2_journal.proofs.taking_back.open_halfway.Goals as goal

-- ---- the changes that lead back, and the fingerprints that are expected along them

abbrev way : After-take_back → List Change
way c = changes_in c.split_at_mut-way.result.1.now

cut : (c : After-take_back) → way c ≡ drop (length c.args.part.back - length c.in-Ok.found.0.items) c.args.part.back
cut c =
    let n = c.len.result - c.len-2.result in
    let mid : n ≡ length c.args.part.back - length c.in-Ok.found.0.items = omega (arith, c.len.ensures, c.len-2.ensures) in
    ap changes_in c.split_at_mut-way.ensures.back ∙ sym (drop-map change_of n c.as_mut_slice.result.now) ∙ ap (drop n) c.as_mut_slice.ensures.value ∙ ap (λ m. drop m c.args.part.back) mid

-- what the journal opens as by the test of the way, with the fingerprints as they are borrowed
opens : (c : After-take_back) (b : Bool) → (leads_through c.args.folder.files (way c) c.deref.result.now && is_valid (session_at (effects c.args.folder.files (way c)) c.args.journal.cursor c.args.journal.entries.items)) ≡ b
    → defined.opened_by_part c.args.folder.files (journal_of c.args.journal) (halfway_of (Some c.args.part)) ≡ answer c.args.folder.files (journal_of c.args.journal) b (way c)
opens c b test =
    let back = c.in-Ok.ensures.wanted in
    halfway_is c.args.folder.files (journal_of c.args.journal) (record { fingerprints = c.args.part.fingerprints.items; back = c.args.part.back }) (way c) c.in-Ok.found.0.items back.place back.list (cut c) b
    (ap (λ w. leads_through c.args.folder.files (way c) w && is_valid (session_at (effects c.args.folder.files (way c)) c.args.journal.cursor c.args.journal.entries.items)) (sym c.deref.ensures.value) ∙ test)

-- ---- the goals

pub returns-in-Err : goal.returns-in-Err
returns-in-Err c = record {
  opened = tt;
  refused = λ _. ⊎_map (λ memory. memory)
      (λ p. ap Err p.0 ∙ sym (ap (defined.opened_if_found c.args.folder.files (journal_of c.args.journal) (record { fingerprints = c.args.part.fingerprints.items; back = c.args.part.back })) p.1)) c.in-Err.ensures.refused;
  reported = inr (inr tt);
  files = refl;
}

pub returns-in-Ok-take_back : goal.returns-in-Ok-take_back
returns-in-Ok-take_back c =
    let here = (goal.at.returns-in-Ok-take_back c).After-take_back in
    let found = c.in-Ok-take_back.ensures in
    let back = c.in-Ok.ensures.back ∙ sym (cut here) in
    record {
      opened = (tt, (λ i. Ok (defined.Halfway (found.session i) (back i))) ∙ sym (opens here true found.passed));
      refused = tt;
      reported = tt;
      files = tt;
    }

pub returns : goal.returns
returns c =
    let here = (goal.at.returns c).After-take_back in
    let refused = c.in-Err-take_back.ensures in
    record {
      opened = tt;
      refused = λ _. ⊎_map (λ memory. memory) (λ p. ap Err p.0 ∙ sym (opens here false p.1)) refused.refused;
      reported = inr (inr tt);
      files = refused.files;
    }
