use Rattle.par2_tool.proofs.Names.{◌≡◌, ◌+◌, ◌≤◌, length, IsTrue, map, take, are_applicable, change_of, with_all_changes, IsDurable}
use Rattle.par2_tool.proofs.performing.write_down.Given as goal

abbrev pub invariant-loop-change : goal.invariant-loop-change
invariant-loop-change g l = record {
  honest : g.S.Store.honest l.initial.store → g.S.Store.honest l.store;
  made : g.S.Store.honest l.initial.store → g.S.Store.contents l.store ≡ with_all_changes (g.S.Store.contents l.initial.store) (map change_of (take l.change-index l.changes));
  durable : g.S.Store.honest l.initial.store → IsDurable (g.S.Store.crash_states l.initial.store) (g.S.Store.contents l.initial.store) → IsDurable (g.S.Store.crash_states l.store) (g.S.Store.contents l.store);
  later : g.S.Store.failures l.initial.store ≤ g.S.Store.failures l.store;
  steady : g.S.Store.failures l.store ≡ g.S.Store.failures l.initial.store;
  possible : g.S.Store.honest l.initial.store → IsTrue (are_applicable (g.S.Store.contents l.initial.store).files (map change_of l.changes)) → g.S.Store.impossible l.store ≡ g.S.Store.impossible l.initial.store;
  counted : g.S.Store.writing_calls l.store ≡ g.S.Store.writing_calls l.initial.store + l.change-index;
  within : l.change-index ≤ length l.changes;
}
