-- Undo and redo, prepared actions, and sessions by their fields.
use Rattle.std.specs.Prelude.{◌≡◌, ℕ, List, take, drop, reverse, IsTrue, ◌≢◌, ◌<◌, [], ◌∷◌, map, Ok, IfSome, ◌-◌, ◌≤◌, length, vec_len, vec_capacity, Option, Some, None, Vec}
use Rattle.par2_spec.specs.Prelude.{Change, takes_all, KeptSession, session_of_kept, session_after, changes_requested, kept_done, kept_undone, kept_redone, CanWalk, Action, Undo, Redo, Journal, Spells, settled_journal, halfway_where, step_of}
use Rattle.std.specs.declared.alloc.Global.{Global}
use Rattle.par2_spec.specs.declared.Version.TheVariants.{Two}
use Rattle.par2_journal.specs.declared.opening.Next.{Next}
use Rattle.par2_journal.specs.declared.commands.Kind.{Kind}
use Rattle.par2_journal.specs.declared.commands.Kind.TheVariants.{Changing, Moving}
use Rattle.par2_journal.specs.declared.commands.Prepared.{Prepared}
use Rattle.par2_files.specs.Checkpoints.{AreCheckpointsOf}
use Rattle.par2_journal.specs.declared.session.Session.TheInside.{Inside}
use Rattle.par2_journal_format.specs.Journals.{Begins}
use Rattle.par2_journal_format.specs.Walking.{prints_along}
use Rattle.par2_journal.specs.declared.commands.Journals.{Journals}
use Rattle.par2_journal.specs.declared.opening.Next.TheVariants as next

-- ---- undo and redo

-- the action
abbrev pub action_for : Next → Action
action_for next.Undo = Undo
action_for next.Redo = Redo

-- the one that takes the other back
abbrev pub opposite : Next → Next
opposite next.Undo = next.Redo
opposite next.Redo = next.Undo

-- the entries that undos or redos apply, the next one first
abbrev pub entries_for : Next → KeptSession → List (List Change)
entries_for next.Undo s = s.undos
entries_for next.Redo s = s.redos

-- the next of these entries, or no changes
abbrev pub next_of : List (List Change) → List Change
next_of [] = []
next_of (entry ∷ entries) = entry

-- the changes of the next undo or redo, or none
abbrev pub next_changes : Next → KeptSession → List Change
next_changes next s = next_of (entries_for next s)

-- the session after it
abbrev pub moved : Next → KeptSession → KeptSession
moved next.Undo s = kept_undone s (next_of s.undos)
moved next.Redo s = kept_redone s (next_of s.redos)

-- ---- prepared actions

-- the changes that committing applies
abbrev pub changes_by_kind : Kind → KeptSession → List Change
changes_by_kind (Changing changes) s = changes
changes_by_kind (Moving next) s = next_changes next s

-- an action of this kind can be committed: its changes apply and there is room for them, or there is an entry
abbrev pub CanBe : Kind → KeptSession → Type 0
CanBe (Changing changes) s = IsTrue (takes_all s.folder changes) × (0 < s.room)
CanBe (Moving next) s = entries_for next s ≢ []

-- a prepared action can be committed on this session
pub record Fits (prepared : Prepared) (s : KeptSession) : Type 0 where
  pub can : CanBe prepared.kind s
  pub steps : prepared.steps ≡ map step_of (changes_by_kind prepared.kind s)

-- its fingerprints are those along its changes to the session's folder
abbrev pub HasPrintsOf : KeptSession → Prepared → Type 0
HasPrintsOf s prepared = prepared.fingerprints.items ≡ prints_along s.folder.files (changes_by_kind prepared.kind s)

-- the session after committing an action of this kind: its changes are applied, and the history has moved on or back
abbrev pub after_commit : Kind → KeptSession → KeptSession
after_commit (Changing changes) s = kept_done s changes
after_commit (Moving next) s = moved next s

-- the settled journal of a session
abbrev pub kept_journal : KeptSession → Journal
kept_journal s = settled_journal Two (session_of_kept s)

-- an action is prepared so: it can be committed, it applies the requested changes, and it leads to the session after
-- the action
pub record IsReady (action : Action) (old : KeptSession) (prepared : Prepared) (new : KeptSession) : Type 0 where
  pub fits : Fits prepared new
  pub prints : HasPrintsOf new prepared
  pub requested : changes_requested (session_of_kept old) action ≡ Ok (changes_by_kind prepared.kind old)
  pub leads : session_after (session_of_kept old) action ≡ Ok (session_of_kept (after_commit prepared.kind new))

-- entries before the cursor are undos, the oldest first; the others are redos
abbrev pub kept_session : Inside → KeptSession
kept_session a = record {
  folder = a.folder;
  undos = reverse (take a.cursor a.entries.items);
  redos = drop a.cursor a.entries.items;
  room = vec_capacity a.entries - vec_len a.entries;
}

-- the cursor is in the list, all entries can be walked, the checkpoints are of this folder, and the fingerprints are
-- along the next undo or redo
pub record IsKeptSession (a : Inside) : Type 0 where
  pub within : a.cursor ≤ length a.entries.items
  pub walks : CanWalk (kept_session a)
  pub checkpoints : AreCheckpointsOf a.folder.files a.checkpoints
  pub along : IfSome a.along (λ found. found.1.items ≡ prints_along a.folder.files (next_changes found.0 (kept_session a)))

-- bytes that spell the journal, or neither bytes nor journal
abbrev pub SpellsWhere : Option (Vec ℕ Global) → Option Journal → Type 0
SpellsWhere None None = Unit {0}
SpellsWhere None (Some j) = ⊥
SpellsWhere (Some bytes) None = ⊥
SpellsWhere (Some bytes) (Some j) = Spells bytes.items j

-- the bytes spell both journals of an action of this kind on the session: the one while its changes are made, and the
-- one of the session afterwards
abbrev pub SpellsReady : Kind → KeptSession → Journals → Type 0
SpellsReady kind s journals =
    SpellsWhere journals.halfway (halfway_where Two (session_of_kept s) (changes_by_kind kind s))
    × Spells journals.after.items (kept_journal (after_commit kind s))

-- the halfway journal, if there are changes
abbrev pub halfway_with : Journal → List (List ℕ) → List Change → Option Journal
halfway_with j prints [] = None
halfway_with j prints (change ∷ back) = Some (record j { halfway = Some (record { fingerprints = prints; back = change ∷ back }) })

-- with these fingerprints and this way back, the bytes spell each halfway journal that the front begins
abbrev pub CompletesHalfway : List ℕ → List (List ℕ) → List Change → Journals → Type 0
CompletesHalfway front prints back journals = (j : Journal) → Begins front j → SpellsWhere journals.halfway (halfway_with j prints back)
