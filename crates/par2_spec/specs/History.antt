-- The history of a session: its folders, and how each action changes them.
use Rattle.std.specs.Prelude.{◌≡◌, ℕ, suc, List, [], ◌∷◌, Option, Some, None, Result, Ok, Err, IsErr}
use Rattle.par2_spec.specs.Folders.{Folder}
use Rattle.par2_spec.specs.Commands.{Command, Create, Verify, Repair, Purge, Action, Do, Undo, Redo}
use Rattle.par2_spec.specs.Refusals.{refusal, after}
use Rattle.par2_spec.specs.declared.Fault.{Fault}

-- the folders that undos lead to, the current one, and those that redos lead to; the nearest first on either side
pub record History : Type 0 where
  pub older : List Folder
  pub now : Folder
  pub newer : List Folder

-- why an action is refused
pub data Refusal : Type 0 where
  Refused : Fault → Refusal
  NothingToUndo : Refusal
  NothingToRedo : Refusal

-- the history with a new current folder: the old one becomes the nearest older one, and nothing can be redone
abbrev pub in_front : Folder → History → History
in_front folder h = record { older = h.now ∷ h.older; now = folder; newer = [] }

-- the history after an accepted command; a verify changes nothing
abbrev pub after_command : Command → History → History
after_command (Create a) h = in_front (after h.now (Create a)) h
after_command (Verify base extras) h = h
after_command (Repair base extras purge) h = in_front (after h.now (Repair base extras purge)) h
after_command (Purge base) h = in_front (after h.now (Purge base)) h

-- the history, unless the command is refused
abbrev pub unless_refused : Option Fault → History → Result History Refusal
unless_refused None h = Ok h
unless_refused (Some fault) h = Err (Refused fault)

-- an undo goes back to the nearest older folder
abbrev pub after_undo : Folder → List Folder → List Folder → Result History Refusal
after_undo now [] newer = Err NothingToUndo
after_undo now (folder ∷ older) newer = Ok (record { older = older; now = folder; newer = now ∷ newer })

-- a redo goes on to the nearest newer folder
abbrev pub after_redo : List Folder → Folder → List Folder → Result History Refusal
after_redo older now [] = Err NothingToRedo
after_redo older now (folder ∷ newer) = Ok (record { older = now ∷ older; now = folder; newer = newer })

-- the history after an action, or why the action is refused
unfoldable pub history_after : History → Action → Result History Refusal
unfolding refusal after
history_after h (Do command) = unless_refused (refusal h.now command) (after_command command h)
history_after h Undo = after_undo h.now h.older h.newer
history_after h Redo = after_redo h.older h.now h.newer

-- a command may always be refused, because memory may run out; an undo or redo only if there is nothing to undo or redo
abbrev pub MayBeRefused : History → Action → Type 0
MayBeRefused h (Do command) = Unit {0}
MayBeRefused h Undo = IsErr (history_after h Undo)
MayBeRefused h Redo = IsErr (history_after h Redo)

-- the actions lead from one history to another. Each is accepted, or refused if it may be; n are accepted
pub data Execution : History → List Action → ℕ → History → Type 0 where
  Ended : {h : History} → Execution h [] 0 h
  Accepted : {h next end : History} {action : Action} {actions : List Action} {n : ℕ} → history_after h action ≡ Ok next → Execution next actions n end → Execution h (action ∷ actions) (suc n) end
  Passed : {h end : History} {action : Action} {actions : List Action} {n : ℕ} → MayBeRefused h action → Execution h actions n end → Execution h (action ∷ actions) n end

-- the current folder and the older ones, newest first
abbrev pub folders : History → List Folder
folders h = h.now ∷ h.older

-- a create, a repair or a purge
abbrev pub IsChanging : Action → Type 0
IsChanging (Do (Create a)) = Unit {0}
IsChanging (Do (Verify base extras)) = ⊥
IsChanging (Do (Repair base extras purge)) = Unit {0}
IsChanging (Do (Purge base)) = Unit {0}
IsChanging Undo = ⊥
IsChanging Redo = ⊥
