-- The session that a folder with a journal opens as.
use Rattle.std.specs.Prelude.{◌≡◌, ◌⊎◌, ℕ, ◌-◌, ◌&&◌, Bool, true, false, not, List, [], ◌∷◌, ◌++◌, length, take, drop, reverse, position, Option, Some, None, Result, Ok, Err, if◌then◌else◌, map}
use Rattle.std.specs.Str.{bytes_eq}
use Rattle.std.specs.List.{AllByRecursion}
use Rattle.par2_spec.specs.Folders.{Folder, fingerprint}
use Rattle.par2_spec.specs.Changes.{Change, effect, effects, is_applicable, are_applicable, way_back, folders_after}
use Rattle.par2_spec.specs.Commands.{Action}
use Rattle.par2_spec.specs.Sessions.{Session, session_with}
use Rattle.par2_spec.specs.Journals.{Journal, HalfwayPart, Spells}
use Rattle.par2_spec.specs.declared.JournalFault.{JournalFault}
use Rattle.par2_spec.specs.declared.JournalFault.TheVariants.{JournalInvalid, FolderChanged}
use Rattle.par2_spec.specs.declared.Version.{Version}
use Rattle.par2_spec.specs.declared.Version.TheVariants.{One, Two}

-- ---- the journals of a session

-- the settled journal of a session. Version 1 stores the undos only
unfoldable pub settled_journal : Version → Session → Journal
unfolding fingerprint
settled_journal One s = record { version = One; fingerprint = fingerprint s.folder; cursor = length s.undos; entries = reverse s.undos; halfway = None }
settled_journal Two s = record { version = Two; fingerprint = fingerprint s.folder; cursor = length s.undos; entries = reverse s.undos ++ s.redos; halfway = None }

-- the part of a session that a journal stores: version 1 has no place for redos
abbrev pub kept_in : Version → Session → Session
kept_in One s = record { folder = s.folder; undos = s.undos; redos = [] }
kept_in Two s = s

-- the halfway journal of a session that is about to make these changes, at least one: it adds the fingerprint after
-- each, and the way back
unfoldable pub halfway_journal : Version → Session → List Change → Journal
unfolding settled_journal way_back folders_after
halfway_journal v s changes = record (settled_journal v s) {
  halfway = Some (record { fingerprints = map fingerprint (folders_after s.folder changes); back = way_back s.folder changes });
}

-- the two journals of an action that applies these changes: the halfway one, if there is a change, and the settled one
-- of the session afterwards
pub record JournalPair : Type 0 where
  pub before : Option Journal
  pub after : Journal

-- the halfway journal, if there is a change
abbrev pub halfway_where : Version → Session → List Change → Option Journal
halfway_where v s [] = None
halfway_where v s (change ∷ changes) = Some (halfway_journal v s (change ∷ changes))

-- the journals of an action on a session
unfoldable pub journals_of : Version → Session → Action → List Change → JournalPair
unfolding halfway_journal settled_journal session_with
journals_of v s action changes = record {
  before = halfway_where v s changes;
  after = settled_journal v (session_with s action changes);
}

-- ---- opening

-- whether the entries can be applied one after the other
unfoldable pub leads : Folder → List (List Change) → Bool
unfolding are_applicable effects
leads folder [] = true
leads folder (entry ∷ entries) = are_applicable folder entry && leads (effects folder entry) entries

-- the session of a journal's entries, which apply to this folder
abbrev pub session_of : Folder → Journal → Session
session_of folder j = record { folder = folder; undos = reverse (take j.cursor j.entries); redos = drop j.cursor j.entries }

-- all undos apply in order, and all redos
abbrev pub is_valid : Session → Bool
is_valid s = leads s.folder s.undos && leads s.folder s.redos

-- whether the changes apply in order and lead through folders of these fingerprints
unfoldable pub leads_through : Folder → List Change → List (List ℕ) → Bool
unfolding is_applicable effect fingerprint
leads_through folder [] prints = true
leads_through folder (change ∷ changes) [] = false
leads_through folder (change ∷ changes) (print ∷ prints) =
    is_applicable folder change && bytes_eq (fingerprint (effect folder change)) print
    && leads_through (effect folder change) changes prints

-- an opened journal: a session; or the changes that take an unfinished command back, and the session afterwards
pub data Opened : Type 0 where
  Settled : Session → Opened
  Halfway : Session → List Change → Opened

-- the session that an opened journal leads to
abbrev pub session_of_opened : Opened → Session
session_of_opened (Settled s) = s
session_of_opened (Halfway s back) = s

-- the opening of a folder after the first k changes of a halfway command
unfoldable pub taken_back : Folder → Journal → HalfwayPart → ℕ → Result Opened JournalFault
unfolding leads_through effects leads
taken_back folder j h k =
    let back = drop (length h.back - k) h.back in
    let session = session_of (effects folder back) j in
    if leads_through folder back (reverse (take k (j.fingerprint ∷ h.fingerprints))) && is_valid session
    then Ok (Halfway session back)
    else Err JournalInvalid

-- the opening of a folder with a halfway journal, after as many changes as were found
abbrev pub opened_if_found : Folder → Journal → HalfwayPart → Option ℕ → Result Opened JournalFault
opened_if_found folder j h None = Err (FolderChanged true)
opened_if_found folder j h (Some k) = taken_back folder j h k

-- a settled journal needs the folder that it was made for. With a halfway journal, the first fingerprint that equals
-- the folder's says how many changes were made
abbrev pub opened_by_part : Folder → Journal → Option HalfwayPart → Result Opened JournalFault
opened_by_part folder j None =
    if not (bytes_eq (fingerprint folder) j.fingerprint) then Err (FolderChanged false)
    else if is_valid (session_of folder j) then Ok (Settled (session_of folder j))
    else Err JournalInvalid
opened_by_part folder j (Some h) =
    opened_if_found folder j h (position (bytes_eq (fingerprint folder)) (j.fingerprint ∷ h.fingerprints))

-- the result of opening a folder with this journal
unfoldable pub opened : Folder → Journal → Result Opened JournalFault
unfolding fingerprint taken_back leads
opened folder j = opened_by_part folder j j.halfway

-- the result of opening a folder with these bytes of a journal; bytes that are no journal are refused
unfoldable pub Opens : Folder → List ℕ → Result Opened JournalFault → Type 0
unfolding opened
Opens folder bytes answer =
    ((j : Journal) × Spells bytes j × (answer ≡ opened folder j))
    ⊎ (((j : Journal) → Spells bytes j → ⊥) × (answer ≡ Err JournalInvalid))

-- ---- opening a store

-- a session, and whether a history was dropped
pub record Started : Type 0 where
  pub session : Session
  pub dropped : Bool

-- a session without a history
abbrev pub new_session : Folder → Session
new_session folder = record { folder = folder; undos = []; redos = [] }

-- a settled journal of another folder is dropped, a halfway one is refused
abbrev pub started : Folder → Result Opened JournalFault → Result Started JournalFault
started folder (Ok o) = Ok (record { session = session_of_opened o; dropped = false })
started folder (Err (FolderChanged false)) = Ok (record { session = new_session folder; dropped = true })
started folder (Err fault) = Err fault

-- the result of opening a store with this folder and this journal, if any
unfoldable pub OpensAs : Folder → Option (List ℕ) → Result Started JournalFault → Type 0
unfolding Opens
OpensAs folder None answer = answer ≡ Ok (record { session = new_session folder; dropped = false })
OpensAs folder (Some bytes) answer = (o : Result Opened JournalFault) × Opens folder bytes o × (answer ≡ started folder o)

-- ---- the premise on fingerprints

-- among these folders, equal fingerprints mean equal folders
abbrev pub HaveDifferentFingerprints : List Folder → Type 0
HaveDifferentFingerprints folders =
    AllByRecursion (λ a. AllByRecursion (λ b. fingerprint a ≡ fingerprint b → a ≡ b) folders) folders

-- the different folders that these changes pass through have different fingerprints
abbrev pub FingerprintsDiffer : Folder → List Change → Type 0
FingerprintsDiffer folder changes = HaveDifferentFingerprints (folder ∷ folders_after folder changes)
