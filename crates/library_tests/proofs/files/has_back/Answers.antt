use Rattle.library_tests.proofs.Common.{change_of}
use Rattle.library_tests.proofs.ChangesBack.{back_taken}
use Rattle.library_tests.proofs.files.has_back.Goals as goal

pub has_along-requires : goal.has_along-requires
has_along-requires g c = rw (c.in_ok-apply.ensures.folder, c.in_ok-apply.ensures.inverse) (back_taken c.args.folder (change_of c.args.change) c.in_ok-apply.ensures.accepted)

pub has_from_checkpoints-requires : goal.has_from_checkpoints-requires
has_from_checkpoints-requires g c = rw (c.in_ok-apply.ensures.folder, c.in_ok-apply.ensures.inverse) (back_taken c.args.folder (change_of c.args.change) c.in_ok-apply.ensures.accepted)

pub has_from_mark-requires : goal.has_from_mark-requires
has_from_mark-requires g c = rw (c.in_ok-apply.ensures.folder, c.in_ok-apply.ensures.inverse) (back_taken c.args.folder (change_of c.args.change) c.in_ok-apply.ensures.accepted)
