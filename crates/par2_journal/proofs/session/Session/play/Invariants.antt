use Rattle.par2_journal.proofs.Common.{ℕ, ◌+◌, ◌≤◌, drop, map, History, Execution, session_of_kept, history_of, action_of}
use Rattle.par2_journal.proofs.session.Session.play.Given as goal

-- a run of the actions that are left is a run of all
abbrev pub invariant-loop-action : goal.invariant-loop-action
invariant-loop-action l =
    record {
      counted : l.accepted ≤ l.action-index;
      run : (k : ℕ) (end : History) → Execution (history_of (session_of_kept l.self)) (drop l.action-index (map action_of l.actions)) k end → Execution (history_of (session_of_kept l.fn.self)) (map action_of l.actions) (l.accepted + k) end;
    }
