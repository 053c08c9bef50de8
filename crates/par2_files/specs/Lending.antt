-- What a list of changes becomes once a mutable borrow of its changes ends.
use Rattle.std.specs.Prelude.{List, ◌++◌, length, map, take, drop}
use Rattle.par2_spec.specs.Prelude.{Lends, MutBor, Fml, Array}
use Rattle.par2_spec.specs.Changes as defined
use Rattle.par2_files.specs.Folders.{change_of}
use Rattle.par2_files.specs.declared.change.Change.{Change}
use Rattle.par2_files.specs.contracts.change.Change.{the_row as the_change}
use Rattle.par2_files.specs.contracts.change.Changes.{the_row}

-- the new changes, cut or filled up with old ones to the number of the old
abbrev pub with_changes : List defined.Change → List defined.Change → List defined.Change
with_changes old new = take (length old) (new ++ drop (length new) old)

-- once the borrow r ends, the list has the changes that r had last
abbrev pub LendsChanges : MutBor (List defined.Change) → MutBor (List Change) → Fml
LendsChanges changes r =
    Lends the_row (Array the_change 0) changes r (λ last. with_changes changes.now (map change_of last))
