-- A session: a folder with the changes that undo and redo its commands.
use Rattle.std.specs.Prelude.{◌≡◌, ◌≤◌, ℕ, ◌+◌, ◌-◌, ◌&&◌, Bool, true, IsTrue, List, [], ◌∷◌, length, Option, Some, None, Result, Ok, Err}
use Rattle.par2_spec.specs.Folders.{Folder}
use Rattle.par2_spec.specs.Changes.{Change, effects, way_back, FolderState, takes_all, state_after_all}
use Rattle.par2_spec.specs.Commands.{Verify, Action, Do, Undo, Redo}
use Rattle.par2_spec.specs.Refusals.{refusal}
use Rattle.par2_spec.specs.Plans.{changes_of}
use Rattle.par2_spec.specs.History.{History, Refusal, Refused, NothingToUndo, NothingToRedo}
use Rattle.par2_spec.specs.declared.Fault.{Fault}

-- a session. An entry is the list of changes of one undo or one redo, and the nearest entry is first
pub record Session : Type 0 where
  pub folder : Folder
  pub undos : List (List Change)
  pub redos : List (List Change)

-- the folders to which the entries lead, one after the other
unfoldable pub folders_along : Folder → List (List Change) → List Folder
unfolding effects
folders_along folder [] = []
folders_along folder (entry ∷ entries) = effects folder entry ∷ folders_along (effects folder entry) entries

-- the history that a session represents
unfoldable pub history_of : Session → History
unfolding folders_along
history_of s = record { older = folders_along s.folder s.undos; now = s.folder; newer = folders_along s.folder s.redos }

-- ---- a session after an action

-- the first entry, or the fault if there is none
abbrev pub first_entry : {F : Type 0} → F → List (List Change) → Result (List Change) F
first_entry fault [] = Err fault
first_entry fault (entry ∷ entries) = Ok entry

-- the changes, unless the command is refused
abbrev pub changes_unless : Option Fault → List Change → Result (List Change) Refusal
changes_unless None changes = Ok changes
changes_unless (Some fault) changes = Err (Refused fault)

-- the changes that an action applies: those of a command, or the next entry of an undo or redo
unfoldable pub changes_requested : Session → Action → Result (List Change) Refusal
unfolding refusal changes_of
changes_requested s (Do command) = changes_unless (refusal s.folder command) (changes_of s.folder command)
changes_requested s Undo = first_entry NothingToUndo s.undos
changes_requested s Redo = first_entry NothingToRedo s.redos

-- the entries after the first
abbrev pub others : List (List Change) → List (List Change)
others [] = []
others (entry ∷ entries) = entries

-- the session after an action applied these changes. The way back of a command becomes an undo, and the way back of an
-- undo or redo goes to the other side. A verify leaves the session as it is
unfoldable pub session_with : Session → Action → List Change → Session
unfolding effects way_back
session_with s (Do (Verify base extras)) changes = s
session_with s (Do command) changes = record { folder = effects s.folder changes; undos = way_back s.folder changes ∷ s.undos; redos = [] }
session_with s Undo changes = record { folder = effects s.folder changes; undos = others s.undos; redos = way_back s.folder changes ∷ s.redos }
session_with s Redo changes = record { folder = effects s.folder changes; undos = way_back s.folder changes ∷ s.undos; redos = others s.redos }

-- the session after the changes, or why the action is refused
abbrev pub session_unless : Session → Action → Result (List Change) Refusal → Result Session Refusal
session_unless s action (Ok changes) = Ok (session_with s action changes)
session_unless s action (Err refusal) = Err refusal

-- the session after an action, or why the action is refused
unfoldable pub session_after : Session → Action → Result Session Refusal
unfolding changes_requested session_with
session_after s action = session_unless s action (changes_requested s action)

-- ---- a session in memory

-- a session with the vacant places of its folder, and with how many more entries it can have without taking memory
pub record KeptSession : Type 0 where
  pub folder : FolderState
  pub undos : List (List Change)
  pub redos : List (List Change)
  pub room : ℕ

-- the session without its capacity
abbrev pub session_of_kept : KeptSession → Session
session_of_kept s = record { folder = s.folder.files; undos = s.undos; redos = s.redos }

-- whether the entries can be applied one after the other within the vacant places
unfoldable pub walks : FolderState → List (List Change) → Bool
unfolding takes_all state_after_all
walks folder [] = true
walks folder (entry ∷ entries) = takes_all folder entry && walks (state_after_all folder entry) entries

-- all undos and all redos can be applied within the vacant places
pub record CanWalk (s : KeptSession) : Type 0 where
  pub back : IsTrue (walks s.folder s.undos)
  pub forth : IsTrue (walks s.folder s.redos)

-- files and history are as before, and capacity did not shrink
pub record OnlyGrew (old new : KeptSession) : Type 0 where
  pub files : new.folder.files ≡ old.folder.files
  pub undos : new.undos ≡ old.undos
  pub redos : new.redos ≡ old.redos
  pub vacant : old.folder.vacant ≤ new.folder.vacant
  pub room : old.room ≤ new.room

-- the session after a command: the dropped redos free their places, and the new undo takes one
unfoldable pub kept_done : KeptSession → List Change → KeptSession
unfolding state_after_all way_back
kept_done s changes = record {
  folder = state_after_all s.folder changes;
  undos = way_back s.folder.files changes ∷ s.undos;
  redos = [];
  room = s.room + length s.redos - 1;
}

-- the session after an undo: the entry moves to the redos, so `room` stays
unfoldable pub kept_undone : KeptSession → List Change → KeptSession
unfolding state_after_all way_back
kept_undone s changes = record {
  folder = state_after_all s.folder changes;
  undos = others s.undos;
  redos = way_back s.folder.files changes ∷ s.redos;
  room = s.room;
}

-- the session after a redo: the entry moves to the undos, so `room` stays
unfoldable pub kept_redone : KeptSession → List Change → KeptSession
unfolding state_after_all way_back
kept_redone s changes = record {
  folder = state_after_all s.folder changes;
  undos = way_back s.folder.files changes ∷ s.undos;
  redos = others s.redos;
  room = s.room;
}
