-- Statements of laws. The functions of src/*_laws.rt prove them.
use Rattle.std.specs.List.{AllByRecursion, Contains}
use Rattle.std.specs.Prelude.{◌≡◌, ◌≢◌, ℕ, false, List, map, IsTrue, ◌<◌, ◌^◌, Some, None, length, ◌%◌, ◌++◌, flat_map, ◌↔◌, Option, ◌≤◌, Ok, Err, take, drop, replicate}
use Rattle.par2_spec.specs.Changes.{Change, FolderState, inverse, way_back, change_refusal, state_after, takes_all, state_after_all, effects, are_applicable}
use Rattle.par2_spec.specs.Commands.{Command, Action, Do, Undo, Redo}
use Rattle.par2_spec.specs.Field.{mul}
use Rattle.par2_spec.specs.Folders.{File, Folder}
use Rattle.par2_spec.specs.History.{History, Refusal, history_after, Execution, IsChanging}
use Rattle.par2_spec.specs.History as history
use Rattle.par2_spec.specs.Journals.{Spells, Journal}
use Rattle.par2_spec.specs.Names.{is_name, IsLeastFree}
use Rattle.par2_spec.specs.Opening.{halfway_journal, is_valid, opened, Halfway, FingerprintsDiffer, kept_in, OpensAs}
use Rattle.par2_spec.specs.Packets.{Packet, IsPacket, packet, accepted}
use Rattle.par2_spec.specs.Plans.{LeadsToAfterRequested}
use Rattle.par2_spec.specs.Rank.{is_repairable, IsRepairable, kept, IsKept, agrees, Agrees, kept_slices, IsRebuilt, AreSurvivors, TwoAgree, AreBytes, AnotherAgrees}
use Rattle.par2_spec.specs.Repairs.{kept_recovery, rebuilt, files_of_slices, aside, AreFew, taken_for}
use Rattle.par2_spec.specs.Search.{lost, survivors, known, NoCollision}
use Rattle.par2_spec.specs.Sessions.{Session, history_of, session_with, session_after, KeptSession, session_of_kept, kept_done, kept_undone, kept_redone}
use Rattle.par2_spec.specs.Sets.{ParSet, all_pairs, IsSound, MadeFrom}
use Rattle.par2_spec.specs.Volumes.{all_slices}
use Rattle.par2_spec.specs.declared.Version.{Version}

-- each nonzero element has exactly one inverse
pub record HaveOneInverse : Type 0 where
  pub some : (a : ℕ) → a ≢ 0 → a < 2 ^ 16 → (b : ℕ) × ((b < 2 ^ 16) × (mul a b ≡ 1))
  pub one : (a b c : ℕ) → a < 2 ^ 16 → b < 2 ^ 16 → c < 2 ^ 16 → mul a b ≡ 1 → mul a c ≡ 1 → b ≡ c

-- written packets followed by any bytes are read as those packets, then as the packets of those bytes
abbrev pub PacketsAreRead : Type 0
PacketsAreRead =
    (packets : List Packet) (bytes : List ℕ) → AllByRecursion IsPacket packets
    → accepted (flat_map packet packets ++ bytes) ≡ packets ++ accepted bytes

-- the folder takes the inverse of this change, which restores files, vacant places and the change
pub record IsReversible (s : FolderState) (x : Change) : Type 0 where
  pub taken : change_refusal (state_after s x) (inverse s.files x) ≡ None
  pub state : state_after (state_after s x) (inverse s.files x) ≡ s
  pub change : inverse (state_after s x).files (inverse s.files x) ≡ x

-- the folder takes the way back of these changes, which restores files, vacant places and the changes
pub record AreReversible (s : FolderState) (xs : List Change) : Type 0 where
  pub taken : IsTrue (takes_all (state_after_all s xs) (way_back s.files xs))
  pub state : state_after_all (state_after_all s xs) (way_back s.files xs) ≡ s
  pub changes : way_back (state_after_all s xs).files (way_back s.files xs) ≡ xs

-- the Boolean tests are equivalent to the definitions in words; `agrees`, for lists of slices of s bytes
pub record TestsSayTheWords : Type 0 where
  pub repairable : (lost survivors : List ℕ) → IsTrue (is_repairable lost survivors) ↔ IsRepairable lost survivors
  pub kept : (lost survivors : List ℕ) (e : ℕ) → Contains (kept lost survivors) e ↔ (Contains survivors e × IsKept lost survivors e)
  pub agrees : (s : ℕ) (known : List (Option (List ℕ))) (recovered : List (ℕ × List ℕ)) (slices : List (List ℕ))
      → AllByRecursion (λ bytes. length bytes ≡ s) slices → AllByRecursion AreBytes slices
      → IsTrue (agrees s known recovered slices) ↔ Agrees s known recovered slices

-- if some list agrees with the known slices and the recovery slices of the kept exponents, the rebuilt one does. If
-- only one does, it is the rebuilt one
pub record RebuiltSlicesAgree : Type 0 where
  pub some : (set : ParSet) (known : List (Option (List ℕ))) (slices : List (List ℕ)) → let kept = kept_recovery set known in
      Agrees set.slice_size known kept slices → Agrees set.slice_size known kept (rebuilt set known)
  pub only : (set : ParSet) (known : List (Option (List ℕ))) (slices : List (List ℕ))
      → IsRebuilt set.slice_size known (kept_recovery set known) slices → rebuilt set known ≡ slices

-- if the lost slices are not determined, a list that agrees with everything that survives is not the only one
abbrev pub AnotherListAgrees : Type 0
AnotherListAgrees =
    (s : ℕ) (known : List (Option (List ℕ))) (recovery : List (ℕ × List ℕ)) (slices : List (List ℕ))
    → 2 ≤ s → (IsRepairable (lost known) (map (λ r. r.0) recovery) → ⊥)
    → Agrees s known recovery slices → AnotherAgrees s known recovery slices

-- if the lost slices are not determined, two lists agree with the known slices and the recovery slices of the kept
-- exponents
abbrev pub TwoListsAgree : Type 0
TwoListsAgree =
    (s m : ℕ) (known : List (Option (List ℕ))) (recovery : List (ℕ
    × List ℕ)) (bytes : ℕ → List ℕ) → AreSurvivors s m known recovery bytes
    → 2 ≤ s → (IsRepairable (lost known) (map (λ r. r.0) recovery) → ⊥)
    → TwoAgree s known (kept_slices (lost known) (map (λ r. r.0) recovery) recovery)

-- an aside has the least free number. It is a valid name if it is short enough, and two names have two asides
pub record AsidesAreFound : Type 0 where
  pub least : (folder : Folder) (set : ParSet) (name : List ℕ) → AreFew folder set → IsLeastFree (taken_for folder set) name (aside folder set name)
  pub name : (folder : Folder) (set : ParSet) (name : List ℕ) → AreFew folder set → IsTrue (is_name name)
      → length (aside folder set name) ≤ 255 → IsTrue (is_name (aside folder set name))
  pub own : (folder : Folder) (set : ParSet) (a b : List ℕ) → AreFew folder set → aside folder set a ≡ aside folder set b → a ≡ b

-- files that are cut out of slices have the lengths that the set describes, if the slices have its number and size
abbrev pub FilesHaveTheirSize : Type 0
FilesHaveTheirSize =
    (set : ParSet) (slices : List (List ℕ)) → IsSound set
    → length slices ≡ length (all_pairs set)
    → AllByRecursion (λ bytes. length bytes ≡ set.slice_size) slices
    → AllByRecursion (λ c. length c.1 ≡ c.0.length) (files_of_slices set slices)

-- if no checksum collides and the lost slices are determined, the rebuilt slices are those of the original files
abbrev pub TrueSlicesAreRebuilt : Type 0
TrueSlicesAreRebuilt =
    (folder : Folder) (base : List ℕ) (files : List File) (s : ℕ)
    (searched : List (List ℕ)) (m : MadeFrom folder base files s) → s % 2 ≡ 0
    → NoCollision folder searched s (all_slices s files)
    → AllByRecursion (λ file. AreBytes file.1) files
    → IsRepairable (lost (known folder m.set searched)) (survivors m.set)
    → rebuilt m.set (known folder m.set searched) ≡ all_slices s files

-- a session whose entries can be applied accepts and refuses what its history does, and stays such a session
pub record SessionsAreHistories : Type 0 where
  pub accepted : (s t : Session) (action : Action) → IsTrue (is_valid s) → LeadsToAfterRequested s.folder action
      → session_after s action ≡ Ok t → history_after (history_of s) action ≡ Ok (history_of t)
  pub refused : (s : Session) (action : Action) (reason : Refusal) → session_after s action ≡ Err reason → history_after (history_of s) action ≡ Err reason
  pub valid : (s t : Session) (action : Action) → IsTrue (is_valid s) → LeadsToAfterRequested s.folder action
      → session_after s action ≡ Ok t → IsTrue (is_valid t)

-- after n accepted creates, repairs and purges the history without its n newest folders is the one before, and n undos
-- lead back to it
pub record UndosLeadBack : Type 0 where
  pub folders : (start end : History) (actions : List Action) (n : ℕ) → Execution start actions n end
      → AllByRecursion IsChanging actions → drop n (history.folders end) ≡ history.folders start
  pub undos : (start end : History) (actions : List Action) (n : ℕ) → Execution start actions n end
      → AllByRecursion IsChanging actions → (back : History) × Execution end (replicate n Undo) n back × (history.folders back ≡ history.folders start)

-- a kept session, without its capacity, is the session after the same action
pub record KeptSessionsAreSessions : Type 0 where
  pub done : (s : KeptSession) (command : Command) (changes : List Change) → IsChanging (Do command)
      → session_of_kept (kept_done s changes) ≡ session_with (session_of_kept s) (Do command) changes
  pub undone : (s : KeptSession) (changes : List Change) → session_of_kept (kept_undone s changes) ≡ session_with (session_of_kept s) Undo changes
  pub redone : (s : KeptSession) (changes : List Change) → session_of_kept (kept_redone s changes) ≡ session_with (session_of_kept s) Redo changes

-- after any number of a command's changes, the bytes of its halfway journal open as the session from before them
abbrev pub HalfwayBytesOpenAsBefore : Type 0
HalfwayBytesOpenAsBefore =
    (v : Version) (s : Session) (changes : List Change) (j : ℕ) (bytes : List ℕ)
    → IsTrue (is_valid s) → IsTrue (are_applicable s.folder changes)
    → FingerprintsDiffer s.folder changes → j ≤ length changes
    → Spells bytes (halfway_journal v s changes) → OpensAs (effects s.folder (take j changes))
    (Some bytes) (Ok (record { session = kept_in v s; dropped = false }))

-- after any number of changes of its way back, the bytes of a halfway journal open as the same session
abbrev pub HalfwayBytesStillOpen : Type 0
HalfwayBytesStillOpen =
    (journal : Journal) (folder : Folder) (s : Session)
    (back : List Change) (i : ℕ) (bytes : List ℕ) → Spells bytes journal → opened folder journal
    ≡ Ok (Halfway s back) → FingerprintsDiffer folder back → i ≤ length back → OpensAs
    (effects folder (take i back)) (Some bytes) (Ok (record { session = s; dropped = false }))
