use Rattle.par2_disk.proofs.Names.{◌∙◌, ap, bit_and, refl, apart_second, apart_within, limited, unlimited, within_on}
use Rattle.par2_disk.proofs.current.Modes.note_at.Goals as goal

pub returns-clause-within : goal.returns-clause-within
returns-clause-within c =
    within_on _ _ _ (limited _ _ _ _ c.unless_readable-allowed.ensures.closed c.unless_readable-allowed.ensures.open) (limited _ _ _ _ c.unless_readable-closed.ensures.closed c.unless_readable-closed.ensures.open)

pub returns-clause-beside : goal.returns-clause-beside
returns-clause-beside c _ =
    let first = c.unless_readable-closed.ensures in
    let second = c.unless_readable-allowed.ensures in
    record {
      owner = unlimited _ _ _ _ second.closed second.open 0o600 refl ∙ unlimited _ _ _ _ first.closed first.open 0o600 refl;
      no_group = λ none. apart_within _ _ _ (limited _ _ _ _ second.closed second.open) (rw (first.closed none) (apart_second c.args.self.now.allowed _ 0o070 refl));
      no_others = λ none. rw (second.closed none) (apart_second c.unless_readable-closed.result _ 0o007 refl);
      group = λ can. unlimited _ _ _ _ second.closed second.open 0o070 refl ∙ ap (λ n. bit_and n 0o070) (first.open can);
      others = λ can. ap (λ n. bit_and n 0o007) (second.open can) ∙ unlimited _ _ _ _ first.closed first.open 0o007 refl;
    }
