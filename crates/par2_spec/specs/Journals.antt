-- Journals: their parts and their format.
use Rattle.std.specs.Prelude.{◌≡◌, ◌<◌, ◌≤◌, ◌^◌, ℕ, List, [], ◌∷◌, ◌++◌, length, flat_map, Option, Some, None, IsTrue, IfSome, codes}
use Rattle.std.specs.Int.{w64, to_le_bytes}
use Rattle.std.specs.List.{concat, AllByRecursion}
use Rattle.md5.specs.Md5.{md5}
use Rattle.par2_spec.specs.Names.{is_name}
use Rattle.par2_spec.specs.Folders.{behind_length}
use Rattle.par2_spec.specs.Changes.{Change, Write, Replace, Rename, Remove}
use Rattle.par2_spec.specs.declared.Version.{Version}
use Rattle.par2_spec.specs.declared.Version.TheVariants.{One, Two}

-- a command that was stopped halfway: the fingerprint after each of its changes, and the way back
pub record HalfwayPart : Type 0 where
  pub fingerprints : List (List ℕ)
  pub back : List Change

-- a journal: the undos and redos of a folder, and the command that was stopped halfway, if any
pub record Journal : Type 0 where
  pub version : Version
  -- the fingerprint of the folder; in a halfway journal, of the folder before the command
  pub fingerprint : List ℕ
  -- how many of the entries are undos
  pub cursor : ℕ
  -- oldest first
  pub entries : List (List Change)
  pub halfway : Option HalfwayPart

-- ---- format

-- the first eight bytes, which name the version
abbrev pub heading : Version → List ℕ
heading One = codes "P2UNDO1\n"
heading Two = codes "P2UNDO2\n"

-- the cursor, which version 1 does not store
abbrev pub cursor_bytes : Version → ℕ → List ℕ
cursor_bytes One cursor = []
cursor_bytes Two cursor = to_le_bytes w64 cursor

-- a name, prefixed with its length in one byte
abbrev pub name_bytes : List ℕ → List ℕ
name_bytes name = length name ∷ name

-- a change: its kind, then its names and bytes
abbrev pub change_bytes : Change → List ℕ
change_bytes (Write name bytes) = 1 ∷ name_bytes name ++ behind_length bytes
change_bytes (Replace name bytes) = 2 ∷ name_bytes name ++ behind_length bytes
change_bytes (Rename from to) = 3 ∷ name_bytes from ++ name_bytes to
change_bytes (Remove name) = 4 ∷ name_bytes name

-- an entry: the number of its changes, then the changes
abbrev pub entry_bytes : List Change → List ℕ
entry_bytes changes = to_le_bytes w64 (length changes) ++ flat_map change_bytes changes

-- 0, or 1 and the halfway command: the number of its changes, the fingerprints, the way back
abbrev pub halfway_bytes : Option HalfwayPart → List ℕ
halfway_bytes None = 0 ∷ []
halfway_bytes (Some b) = 1 ∷ to_le_bytes w64 (length b.back) ++ concat b.fingerprints ++ flat_map change_bytes b.back

-- the bytes of a journal without its digest
unfoldable pub journal_bytes : Journal → List ℕ
journal_bytes j =
    heading j.version ++ j.fingerprint ++ cursor_bytes j.version j.cursor
    ++ to_le_bytes w64 (length j.entries) ++ flat_map entry_bytes j.entries ++ halfway_bytes j.halfway

-- the bytes of a journal, with their MD5 at the end
unfoldable pub spelling : Journal → List ℕ
unfolding journal_bytes
spelling j = journal_bytes j ++ md5 (journal_bytes j)

-- ---- journals that can be stored

-- the length fits in 64 bits
abbrev pub IsFileBytes : List ℕ → Type 0
IsFileBytes bytes = length bytes < 2 ^ 64

-- sixteen bytes, as many as an MD5 has
abbrev pub IsDigest : List ℕ → Type 0
IsDigest bytes = length bytes ≡ 16

-- a change of valid names, with bytes whose length fits
abbrev pub IsChange : Change → Type 0
IsChange (Write name bytes) = IsTrue (is_name name) × IsFileBytes bytes
IsChange (Replace name bytes) = IsTrue (is_name name) × IsFileBytes bytes
IsChange (Rename from to) = IsTrue (is_name from) × IsTrue (is_name to)
IsChange (Remove name) = IsTrue (is_name name)

-- an entry of such changes, whose number fits in 64 bits
abbrev pub IsEntry : List Change → Type 0
IsEntry changes = (length changes < 2 ^ 64) × AllByRecursion IsChange changes

-- a halfway command of at least one change, with a fingerprint for each
pub record IsHalfwayPart (b : HalfwayPart) : Type 0 where
  pub some : 1 ≤ length b.back
  pub each : length b.fingerprints ≡ length b.back
  pub fingerprints : AllByRecursion IsDigest b.fingerprints
  pub back : IsEntry b.back

-- in version 1 all entries are undos
abbrev pub IsCursor : Version → ℕ → ℕ → Type 0
IsCursor One cursor n = cursor ≡ n
IsCursor Two cursor n = cursor ≤ n

-- a journal that can be stored
pub record IsJournal (j : Journal) : Type 0 where
  pub fingerprint : IsDigest j.fingerprint
  pub cursor : IsCursor j.version j.cursor (length j.entries)
  pub count : length j.entries < 2 ^ 64
  pub entries : AllByRecursion IsEntry j.entries
  pub halfway : IfSome j.halfway IsHalfwayPart

-- the bytes are those of the journal
abbrev pub Spells : List ℕ → Journal → Type 0
Spells bytes j = IsJournal j × (bytes ≡ spelling j)
