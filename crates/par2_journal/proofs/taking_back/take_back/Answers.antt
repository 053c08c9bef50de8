use Rattle.par2_journal.proofs.Names.{◌≡◌, ◌&&◌, true, false, ap, subst, ◌∙◌, and_from, and_right, ⊎_map, FolderState, is_valid, changes_in, go_through, effects, session_at, takes_roomier, same_files_after}
use Rattle.par2_journal.proofs.taking_back.take_back.Goals as goal

pub apply_all-requires : goal.apply_all-requires
apply_all-requires c =
    takes_roomier c.go_back.new.folder c.in-Err-session_from.after (changes_in c.go_back.new.way) c.in-Ok.ensures.went.taken c.in-Err-session_from.ensures.answer.files c.in-Err-session_from.ensures.vacant

pub returns-in-Ok-session_from : goal.returns-in-Ok-session_from
returns-in-Ok-session_from c =
    let found = c.in-Ok-session_from.ensures.answer in
    let valid = subst (λ f. is_valid (session_at f c.args.cursor c.args.entries.items) ≡ true) c.in-Ok.ensures.went.files found.passed in
    record {
      passed = and_from _ _ c.in-Ok.ensures.leads valid;
      session = found.session ∙ ap (λ f. session_at f c.args.cursor c.args.entries.items) c.in-Ok.ensures.went.files;
      refused = tt;
      files = tt;
    }

pub returns-in-Err : goal.returns-in-Err
returns-in-Err c =
    let before = session_at (effects c.args.folder.files (changes_in c.args.way.now)) c.args.cursor c.args.entries.items in
    record {
      passed = tt;
      session = tt;
      refused = ⊎_map (λ memory. memory) (λ p. (p.0, ap (λ b. b && is_valid before) p.1)) c.in-Err.ensures.refused;
      files = c.in-Err.ensures.files;
    }

pub returns-in-Err-session_from : goal.returns-in-Err-session_from
returns-in-Err-session_from c =
    let leads = go_through c.args.folder.files c.args.way.now c.args.wanted.now in
    let before = session_at (effects c.args.folder.files (changes_in c.args.way.now)) c.args.cursor c.args.entries.items in
    let refused = c.in-Err-session_from.ensures.answer in
    record {
      passed = tt;
      session = tt;
      refused = ⊎_map (λ memory. memory) (λ p. (p.0, and_right leads (is_valid before) (subst (λ f. is_valid (session_at f c.args.cursor c.args.entries.items) ≡ false) c.in-Ok.ensures.went.files p.1)))
          refused.refused;
      files = ap (λ (s : FolderState). s.files) c.apply_all.ensures.folder
          ∙ same_files_after c.go_back.new.folder c.in-Err-session_from.after (changes_in c.go_back.new.way) refused.files
          ∙ c.in-Ok.ensures.went.leads;
    }
