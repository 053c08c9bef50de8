use Rattle.par2_journal_format.proofs.Common.{◌≡◌, Bool, true, false, Option, Some, refl, ap, ◌∙◌, cond, bytes_eq, has, unwrap_or, btree_map_updates_str}
use Rattle.par2_journal_format.proofs.walking.Names.set.Goals as goal

chosen : (b : Bool) (there : Bool) (others : Option Bool) (d : Bool) → unwrap_or (cond b (Some there) others) d ≡ cond b there (unwrap_or others d)
chosen true there others d = refl
chosen false there others d = refl

pub returns : goal.returns
returns c other =
    let names = c.args.self.now in
    ap (λ (o : Option Bool). unwrap_or o (has names.folder.now.files other)) (btree_map_updates_str c.args.name.now names.touched c.insert.new.self (Some c.args.there) c.in_ok-insert.ensures.updates other)
    ∙ chosen (bytes_eq c.args.name.now other) c.args.there _ _
