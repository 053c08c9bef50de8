use Rattle.par2_journal_format.proofs.Names.{effect, bytes_of, on_ok_weaker, names_in, put_in, taken_out}
use Rattle.std.specs.FinMap as map_of
use Rattle.par2_journal_format.proofs.walking.Names.take.Goals as goal

pub returns-in-Write : goal.returns-in-Write
unfolding effect
returns-in-Write c files are = rw c.in-Write.is (on_ok_weaker c.set.result (put_in files (names_in c.args.self.now) (names_in c.set.new.self) c.in-Write.name are c.in-Write.field-1) c.set.ensures)

pub returns-in-Replace : goal.returns-in-Replace
unfolding effect
returns-in-Replace c files are =
    rw c.in-Replace.is (on_ok_weaker c.set-in-Replace.result (put_in files (names_in c.args.self.now) (names_in c.set-in-Replace.new.self) c.in-Replace.name are c.in-Replace.field-1) c.set-in-Replace.ensures)

pub returns-in_ok-set-in-Rename : goal.returns-in_ok-set-in-Rename
unfolding effect
returns-in_ok-set-in-Rename c files are =
    let from = c.in-Rename.from in
    let out = taken_out files (names_in c.args.self.now) (names_in c.set-in-Rename.new.self) from are c.in_ok-set-in-Rename.ensures in
    rw c.in-Rename.is (on_ok_weaker c.set-in-Rename-2.result (put_in (map_of.remove files from) (names_in c.set-in-Rename.new.self) (names_in c.set-in-Rename-2.new.self) c.in-Rename.to out (bytes_of files from)) c.set-in-Rename-2.ensures)

pub returns-in-Remove : goal.returns-in-Remove
unfolding effect
returns-in-Remove c files are =
    rw c.in-Remove.is (on_ok_weaker c.set-in-Remove.result (taken_out files (names_in c.args.self.now) (names_in c.set-in-Remove.new.self) c.in-Remove.name are) c.set-in-Remove.ensures)
