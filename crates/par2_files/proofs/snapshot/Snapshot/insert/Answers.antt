use Rattle.par2_files.proofs.Names.{arith, refl, put_borrowed_at, put_borrowed_in_gap}
use Rattle.par2_files.proofs.snapshot.Snapshot.insert.Goals as goal

pub invariant_of-self : goal.invariant_of-self
invariant_of-self c = record { kept = (put_borrowed_at _ c.args.self.now.kept _ _ (c.args.name, c.args.bytes) _ refl c.in-Ok.ensures.found (c.as_str-bytes.ensures.name, c.as_slice-slice.ensures.fits)).kept }

pub invariant_of-self-in-Err : goal.invariant_of-self-in-Err
invariant_of-self-in-Err c =
    let made = put_borrowed_in_gap _ c.args.self.now.kept _ _ (c.args.name, c.args.bytes) _ refl c.in-Err.ensures.absent (c.as_str-bytes.ensures.name, c.as_slice-slice.ensures.fits) in
    record { kept = rw c.insert.ensures.items (grind (arith, made.kept, c.args.self.now.kept)) }

pub returns-in-Ok : goal.returns-in-Ok
returns-in-Ok c = (put_borrowed_at _ c.args.self.now.kept _ _ (c.args.name, c.args.bytes) _ refl c.in-Ok.ensures.found (c.as_str-bytes.ensures.name, c.as_slice-slice.ensures.fits)).folder

pub returns-in_ok-insert-in-Err : goal.returns-in_ok-insert-in-Err
returns-in_ok-insert-in-Err c =
    rw c.in_ok-insert-in-Err.ensures.items
    (put_borrowed_in_gap _ c.args.self.now.kept _ _ (c.args.name, c.args.bytes) _ refl c.in-Err.ensures.absent (c.as_str-bytes.ensures.name, c.as_slice-slice.ensures.fits)).folder
