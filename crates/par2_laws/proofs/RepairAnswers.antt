-- Consequences of the result of a repair for the folder, in a session and without one.
use Rattle.par2_laws.proofs.Common.{◌≡◌, ℕ, List, ◌∷◌, Bool, Ok, arith, Option, None, Result, Err, IsTrue, OnOk, IfOk, Some, ◌⊎◌, Repair, Command, Action, Do, Folder, refusal, after, History, folders, in_front, unless_refused, history_after, Fault, IfErr, is_valid, Memory, LeadsToAfterRequested, Session, session_after, changes_requested, history_of}
pub use Rattle.par2_spec.specs.Prelude.{AnswersRepair, IsRepaired, folder_left}

-- the law that a session follows its history
abbrev pub GoesAlong : Type 0
GoesAlong =
    (s t : Session) (action : Action) → IsTrue (is_valid s) → LeadsToAfterRequested s.folder action → session_after s action ≡ Ok t
    → history_after (history_of s) action ≡ Ok (history_of t)

module _ (s t : Session) (base : List ℕ) (extras : List (List ℕ)) (purge : Bool) where
  abbrev command : Command
  command = Repair base extras purge

  pub is_repaired : session_after s (Do command) ≡ Ok t → LeadsToAfterRequested s.folder (Do command) → IsRepaired s.folder t.folder command
  is_repaired step leads = unfold session_after changes_requested in grind arith

  pub answered : {A E : Type 0} (r : Result A E) → OnOk r (session_after s (Do command) ≡ Ok t)
      → OnOk r (LeadsToAfterRequested s.folder (Do command)) → OnOk r (IsRepaired s.folder t.folder command)
  answered r step leads = grind (arith, is_repaired)

  -- the folder is in front of the older ones
  put_in_front : (h next : History) (refused : Option Fault) → unless_refused refused (in_front (after h.now command) h) ≡ Ok next → folders next ≡ next.now ∷ folders h
  put_in_front h next refused e = grind arith

  pub stands_in_front : {A E : Type 0} (r : Result A E) (law : GoesAlong) → IsTrue (is_valid s) → OnOk r (session_after s (Do command) ≡ Ok t)
      → OnOk r (LeadsToAfterRequested s.folder (Do command)) → OnOk r (folders (history_of t) ≡ t.folder ∷ folders (history_of s))
  unfolding history_after history_of
  stands_in_front (Ok a) law valid step leads = put_in_front (history_of s) (history_of t) (refusal s.folder command) (law s t (Do command) valid leads step)
  stands_in_front (Err e) law valid step leads = tt

-- two properties of an accepted repair
pub together : {A E : Type 0} (P Q : Type 0) (r : Result A E) → OnOk r P → OnOk r Q → OnOk r (P × Q)
together P Q r p q = grind arith

-- a call that succeeds and fails as the definitions say returns their result
pub answers : {A : Type 0} (folder : Folder) (base : List ℕ) (extras : List (List ℕ)) (purge : Bool) (left : A → Folder) (r : Result A Fault)
    → OnOk r (refusal folder (Repair base extras purge) ≡ None) → IfOk r (λ x. left x ≡ after folder (Repair base extras purge))
    → IfErr r (λ fault. (fault ≡ Memory) ⊎ (refusal folder (Repair base extras purge) ≡ Some fault)) → AnswersRepair folder base extras purge (folder_left left r)
answers folder base extras purge left (Ok x) accepted leads refused = record { left = record { accepted = accepted; left = leads }; refused = tt }
answers folder base extras purge left (Err fault) accepted leads refused = record { left = tt; refused = refused }

-- a session that ends with this new folder does so too
pub session_answers : {A : Type 0} (folder new : Folder) (base : List ℕ) (extras : List (List ℕ)) (purge : Bool) (r : Result A Fault)
    → OnOk r (IsRepaired folder new (Repair base extras purge))
    → IfErr r (λ fault. (fault ≡ Memory) ⊎ (refusal folder (Repair base extras purge) ≡ Some fault)) → AnswersRepair folder base extras purge (folder_left (λ _. new) r)
session_answers folder new base extras purge (Ok x) is refused = record { left = is; refused = tt }
session_answers folder new base extras purge (Err fault) is refused = record { left = tt; refused = refused }
