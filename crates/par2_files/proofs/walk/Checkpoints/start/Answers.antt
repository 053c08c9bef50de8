use Rattle.par2_files.proofs.Names.{◌≡◌, IsTrue, get_or, refl, rules, subst, sym, HasAbsorbed, bytes_where, is_below, ℕ, List, Midstate, sets_out, sets_out_first}
use Rattle.par2_files.proofs.walk.Checkpoints.start.Goals as goal

pub loop-name-init : goal.loop-name-init
loop-name-init c = record {
  behind = λ i none lt. refl;
  states = λ folder are. sets_out_first folder c.args.changes.now c.new.result c.new.ensures;
}

pub loop-name-preserved : goal.loop-name-preserved
loop-name-preserved c =
    let behind : IsTrue c.are_behind.result = search rules in
    record {
      behind = c.are_behind.ensures.behind behind;
      states = λ folder are.
          let checkpoint = c.loop-name-item.result in
          let is : checkpoint ≡ get_or c.args.self.now.list.items c.loop-name.name-index checkpoint = rw c.deref-name-items.ensures.value at c.loop-name-item.is in
          let lt = rw c.deref-name-items.ensures.value at c.loop-name-test.true in
          sets_out _ folder c.args.changes.now checkpoint.1 (c.are_behind.ensures.behind behind)
          (subst (λ (k : List ℕ × Midstate). HasAbsorbed k.1 (bytes_where (is_below k.0) folder)) (sym is) (are c.loop-name.name-index checkpoint lt));
    }
