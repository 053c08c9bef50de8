-- Journals in the words of the definitions, what readers return, and what writers append.
use Rattle.std.specs.Prelude.{◌≡◌, ◌⊎◌, ◌<◌, ◌≤◌, ◌^◌, ◌↔◌, ℕ, zero, suc, ◌-◌, List, [], ◌∷◌, length, map, take, drop, Option, Some, None, Result, Ok, Err, nat_lt, nat_le, ◌==◌, ◌&&◌, if◌then◌else◌, ◌++◌, flat_map}
use Rattle.par2_spec.specs.Prelude.{Bor, w64, from_le_bytes, to_le_bytes, sum_by, bytes_eq, is_name, Change, Write, Replace, Rename, Remove, HalfwayPart, IsJournal, Journal, Spells, heading, cursor_bytes, entry_bytes, journal_bytes}
use Rattle.md5.specs.Md5.{md5}
use Rattle.par2_spec.specs.declared.JournalFault.{JournalFault}
use Rattle.par2_spec.specs.declared.JournalFault.TheVariants.{FolderChanged, JournalInvalid, Memory}
use Rattle.par2_spec.specs.declared.Version.{Version}
use Rattle.par2_spec.specs.declared.Version.TheVariants.{One, Two}
use Rattle.par2_files.specs.declared.change.Change as owned
use Rattle.par2_files.specs.Folders.{change_of}
use Rattle.par2_journal_format.specs.declared.journal.HalfwayPart as read_part
use Rattle.par2_journal_format.specs.declared.journal.Journal as read_journal
use Rattle.par2_journal_format.specs.declared.journal.HalfwayPartView.{HalfwayPartView}
use Rattle.par2_journal_format.specs.declared.journal.JournalView.{JournalView}
use Rattle.par2_journal_format.specs.declared.reading.Untested.{Untested}

-- a list of changes
abbrev pub changes_in : List owned.Change → List Change
changes_in changes = map change_of changes

-- a halfway part that was read
abbrev pub halfway_of : Option read_part.HalfwayPart → Option HalfwayPart
halfway_of None = None
halfway_of (Some h) = Some (record { fingerprints = h.fingerprints.items; back = h.back })

-- a journal that was read
abbrev pub journal_of : read_journal.Journal → Journal
journal_of j = record { version = j.version; fingerprint = j.fingerprint; cursor = j.cursor; entries = j.entries.items; halfway = halfway_of j.halfway }

-- a halfway part to write, if there is one
abbrev pub part_from : Option (Bor HalfwayPartView) → Option HalfwayPart
part_from None = None
part_from (Some h) = Some (record { fingerprints = h.now.fingerprints.now; back = h.now.back.now })

-- a settled journal to write, of version 2
abbrev pub journal_from : JournalView → Journal
journal_from parts =
    record { version = Two; fingerprint = parts.fingerprint; cursor = parts.cursor; entries = parts.entries.now ++ parts.newer.now; halfway = None }

-- ---- reading from left to right: a value and the bytes after it, or nothing

-- the next step, if this one gives a value
infixl 10 ◌>>=◌
abbrev pub ◌>>=◌ : {A B : Type 0} → Option A → (A → Option B) → Option B
(Some x) >>= f = f x
None >>= f = None

-- a reader's fault: JournalInvalid if the definition reads nothing, or Memory at any time
abbrev pub Fails : {Y : Type 0} → JournalFault → Option Y → Type 0
Fails Memory read = Unit {0}
Fails JournalInvalid read = read ≡ None
Fails (FolderChanged halfway) read = ⊥

-- a reader's result, seen by `view`, is what the definition reads, or such a fault
abbrev pub Gives : {X Y : Type 0} → (X → Y) → Result X JournalFault → Option Y → Type 0
Gives view (Ok x) read = read ≡ Some (view x)
Gives view (Err fault) read = Fails fault read

-- the first n bytes, and the bytes after them; nothing if there are fewer
unfoldable pub block_at : ℕ → List ℕ → Option (List ℕ × List ℕ)
block_at n bytes = if nat_lt (length bytes) n then None else Some (take n bytes, drop n bytes)

-- a number: eight bytes, little-endian
unfoldable pub number_at : List ℕ → Option (ℕ × List ℕ)
number_at bytes = if nat_lt (length bytes) 8 then None else Some (from_le_bytes w64 (take 8 bytes), drop 8 bytes)

-- a name: its length in one byte, then its bytes
unfoldable pub name_at : List ℕ → Option (List ℕ × List ℕ)
name_at [] = None
name_at (n ∷ bytes) = block_at n bytes >>= λ x. if is_name x.0 then Some x else None

-- a length, then as many bytes
unfoldable pub behind_length_at : List ℕ → Option (List ℕ × List ℕ)
behind_length_at bytes = number_at bytes >>= λ n. block_at n.0 n.1

-- a change of two values, one after the other
abbrev pub two_at : (one two : List ℕ → Option (List ℕ × List ℕ)) → (List ℕ → List ℕ → Change) → List ℕ → Option (Change × List ℕ)
two_at one two make bytes = one bytes >>= λ a. two a.1 >>= λ b. Some (make a.0 b.0, b.1)

-- a change: its kind in one byte, its name, and its content or its new name
unfoldable pub change_at : List ℕ → Option (Change × List ℕ)
change_at [] = None
change_at (zero ∷ bytes) = None
change_at (suc zero ∷ bytes) = two_at name_at behind_length_at Write bytes
change_at (suc (suc zero) ∷ bytes) = two_at name_at behind_length_at Replace bytes
change_at (suc (suc (suc zero)) ∷ bytes) = two_at name_at name_at Rename bytes
change_at (suc (suc (suc (suc zero))) ∷ bytes) = name_at bytes >>= λ name. Some (Remove name.0, name.1)
change_at (suc (suc (suc (suc (suc b)))) ∷ bytes) = None

-- n values one after the other
unfoldable pub many_at : {A : Type 0} → (List ℕ → Option (A × List ℕ)) → ℕ → List ℕ → Option (List A × List ℕ)
many_at one zero bytes = Some ([], bytes)
many_at one (suc n) bytes = one bytes >>= λ first. many_at one n first.1 >>= λ others. Some (first.0 ∷ others.0, others.1)

-- a count, then as many changes
unfoldable pub entry_at : List ℕ → Option (List Change × List ℕ)
entry_at bytes = number_at bytes >>= λ n. many_at change_at n.0 n.1

-- the halfway part: 0 if there is none, or 1, a count, and as many fingerprints and changes
unfoldable pub halfway_at : List ℕ → Option (Option HalfwayPart × List ℕ)
halfway_at [] = None
halfway_at (zero ∷ bytes) = Some (None, bytes)
halfway_at (suc zero ∷ bytes) = do
  n ← number_at bytes
  prints ← many_at (block_at 16) n.0 n.1
  back ← many_at change_at n.0 prints.1
  if nat_le 1 n.0 then Some (Some (record { fingerprints = prints.0; back = back.0 }), back.1) else None
halfway_at (suc (suc b) ∷ bytes) = None

-- the heading, which says the version
unfoldable pub heading_at : List ℕ → Option (Version × List ℕ)
heading_at bytes = do
  x ← block_at 8 bytes
  if bytes_eq x.0 (heading One) then Some (One, x.1) else if bytes_eq x.0 (heading Two) then Some (Two, x.1) else None

-- the cursor, which version 1 doesn't have
unfoldable pub cursor_at : Version → List ℕ → Option (ℕ × List ℕ)
cursor_at One bytes = Some (0, bytes)
cursor_at Two bytes = number_at bytes

-- the cursor of a journal with n entries: in version 1 all are undos, in version 2 it is c, which was read
abbrev pub cursor_in : Version → ℕ → ℕ → ℕ
cursor_in One c n = n
cursor_in Two c n = c

-- a journal without its digest: heading, fingerprint, cursor, entries after their number, halfway part, no more bytes
unfoldable pub parts_at : List ℕ → Option Journal
parts_at bytes = do
  version ← heading_at bytes
  print ← block_at 16 version.1
  cursor ← cursor_at version.0 print.1
  n ← number_at cursor.1
  entries ← many_at entry_at n.0 n.1
  halfway ← halfway_at entries.1
  if nat_le (cursor_in version.0 cursor.0 n.0) n.0 && length halfway.1 == 0
      then Some (record { version = version.0; fingerprint = print.0; cursor = cursor_in version.0 cursor.0 n.0; entries = entries.0; halfway = halfway.0 })
      else None

-- the bytes end with the digest of all bytes before it
pub record IsSealed (bytes : List ℕ) : Type 0 where
  pub long : 16 ≤ length bytes
  pub digest : drop (length bytes - 16) bytes ≡ md5 (take (length bytes - 16) bytes)

-- a usize counts the changes of all entries
abbrev pub AreCounted : List (List Change) → Type 0
AreCounted entries = sum_by length entries < 2 ^ 64

-- why bytes aren't decoded: they spell no journal, or memory ran out
abbrev pub IsRefusal : List ℕ → JournalFault → Type 0
IsRefusal bytes fault = (fault ≡ Memory) ⊎ ((fault ≡ JournalInvalid) × ((j : Journal) → ¬ (Spells bytes j)))

-- the parts read from these bytes before the digest is tested: they spell this journal only with the right digest
pub record IsUntested (bytes : List ℕ) (found : Untested) : Type 0 where
  pub journal : IsJournal (journal_of found.journal)
  pub counted : AreCounted found.journal.entries.items
  -- the digest is right if and only if the bytes end with their digest
  pub sealed : (found.digest.now ≡ md5 found.body.now) ↔ IsSealed bytes
  -- then the bytes spell this journal; otherwise they spell none
  pub right : IsSealed bytes → Spells bytes (journal_of found.journal)
  pub only : (j : Journal) → Spells bytes j → IsSealed bytes

-- ---- writing in two parts: up to the entries, and from the halfway part on

-- the bytes of a journal up to its entries
unfoldable pub front_bytes : Journal → List ℕ
front_bytes j =
    heading j.version ++ j.fingerprint ++ cursor_bytes j.version j.cursor ++ to_le_bytes w64 (length j.entries) ++ flat_map entry_bytes j.entries

-- these are the bytes of a journal up to its entries, and a journal with these parts can be spelled
pub record Begins (content : List ℕ) (j : Journal) : Type 0 where
  pub settled : IsJournal (record j { halfway = None })
  pub bytes : content ≡ front_bytes j

-- with this halfway part, the bytes are all but the digest of each journal that the front begins
abbrev pub Continues : List ℕ → Option HalfwayPart → List ℕ → Type 0
Continues front halfway bytes =
    (j : Journal) → Begins front j → IsJournal (record j { halfway = halfway }) × (bytes ≡ journal_bytes (record j { halfway = halfway }))

-- with this halfway part, the bytes spell each journal that the front begins
abbrev pub Finishes : List ℕ → Option HalfwayPart → List ℕ → Type 0
Finishes front halfway bytes = (j : Journal) → Begins front j → Spells bytes (record j { halfway = halfway })
