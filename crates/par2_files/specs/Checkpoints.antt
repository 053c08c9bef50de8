-- Splits among names, the groups of consecutive folders that are equal up to a split, the MD5 states that absorb their
-- fingerprints' messages, and checkpoints: such states, each at a name.
use Rattle.std.specs.Prelude.{◌≡◌, ◌<◌, ◌≤◌, ℕ, Bool, true, false, cond, List, [], ◌∷◌, ◌++◌, length, flat_map, map, take}
use Rattle.std.specs.FinMap as map_of
use Rattle.par2_spec.specs.Prelude.{All, is_lt, ord_min, Folder, File, behind_length, Change, Write, Replace, Rename, Remove, effect}
use Rattle.par2_md5_lanes.specs.Messages.{HasAbsorbed, message_of}
use Rattle.par2_md5_lanes.specs.declared.midstate.Midstate.{Midstate}
use Rattle.par2_md5_lanes.specs.declared.tasks.Pending.{Pending}
use Rattle.par2_files.specs.Folders.{file_at, file_of, folder_of, name_cmp}
use Rattle.par2_files.specs.declared.snapshot.Split.{Split}
use Rattle.par2_files.specs.declared.snapshot.Split.TheVariants.{Beginning, At, End}
use Rattle.par2_files.specs.declared.snapshot.Snapshot.{Snapshot}
use Rattle.par2_files.specs.declared.snapshot.Absorbing.{Absorbing}
use Rattle.par2_files.specs.declared.walk.Checkpoints.{Checkpoints}
use Rattle.par2_files.specs.declared.walk.Progress.{Progress}

-- the snapshot's files, in order
abbrev pub files_in : Snapshot → List File
files_in snapshot = map file_of snapshot.files.items

-- the snapshot as a folder
abbrev pub folder_in : Snapshot → Folder
folder_in snapshot = folder_of (files_in snapshot)

-- whether the other name is less than the name
abbrev pub is_below : List ℕ → List ℕ → Bool
is_below name other = is_lt (name_cmp other name)

-- whether a name is before the split
abbrev pub is_before : Split → List ℕ → Bool
is_before Beginning name = false
is_before (At next) name = is_below next.now name
is_before End name = true

-- whether the split is before the one at the name
abbrev pub comes_before : Split → List ℕ → Bool
comes_before Beginning name = true
comes_before (At before) name = is_below name before.now
comes_before End name = false

-- split `to` isn't before split `from`: each name before `from` is before `to` too
abbrev pub IsFurther : Split → Split → Type 0
IsFurther from to = (name : List ℕ) → is_before from name ≡ true → is_before to name ≡ true

-- exactly the first `count` of the files have names that pass the test
pub record IsFront (test : List ℕ → Bool) (files : List File) (count : ℕ) : Type 0 where
  pub within : count ≤ length files
  pub before : (j : ℕ) → j < count → test (file_at files j).0 ≡ true
  pub behind : (j : ℕ) → count ≤ j → j < length files → test (file_at files j).0 ≡ false

-- the least name that a change touches
abbrev pub first_name : Change → List ℕ
first_name (Write name bytes) = name
first_name (Replace name bytes) = name
first_name (Rename from to) = ord_min name_cmp from to
first_name (Remove name) = name

-- whether the change touches a name before the split
abbrev pub touches : Split → Change → Bool
touches split change = is_before split (first_name change)

-- the message that a fingerprint hashes for these files: each name and each file's bytes, preceded by their length
abbrev pub fingerprint_input : List File → List ℕ
fingerprint_input files = flat_map (λ file. behind_length file.0 ++ behind_length file.1) files

-- the fingerprint's message for the files whose names pass the test
abbrev pub bytes_where : (List ℕ → Bool) → Folder → List ℕ
bytes_where test folder = fingerprint_input (map_of.entries (map_of.retain_keys folder test))

-- the fingerprint's message for the files before the split
abbrev pub bytes_before : Split → Folder → List ℕ
bytes_before split = bytes_where (is_before split)

-- the messages of the groups that begin after the changes
unfoldable pub later_buffers : Split → Folder → List Change → List (List ℕ)
later_buffers split folder [] = []
later_buffers split folder (change ∷ changes) =
    cond (touches split change) (bytes_before split (effect folder change) ∷ []) [] ++ later_buffers split (effect folder change) changes

-- the messages of all groups at a split: that of the folder itself, then one for each change that touches a name before it
abbrev pub group_buffers : Split → Folder → List Change → List (List ℕ)
group_buffers split folder changes = bytes_before split folder ∷ later_buffers split folder changes

-- once it has absorbed its parts, the pending state has absorbed exactly these bytes
abbrev pub AbsorbsTo : Pending → List ℕ → Type 0
AbsorbsTo pending bytes = (m : List ℕ) × (HasAbsorbed pending.state m × (m ++ message_of pending.parts.items ≡ bytes))

-- a state for each message: the finished states have absorbed the first ones, the pending states will absorb the others
abbrev pub ReachEach : List Midstate → List Pending → List (List ℕ) → Type 0
ReachEach (state ∷ states) pendings (bytes ∷ buffers) = HasAbsorbed state bytes × ReachEach states pendings buffers
ReachEach (state ∷ states) pendings [] = ⊥
ReachEach [] (pending ∷ pendings) (bytes ∷ buffers) = AbsorbsTo pending bytes × ReachEach [] pendings buffers
ReachEach [] (pending ∷ pendings) [] = ⊥
ReachEach [] [] (bytes ∷ buffers) = ⊥
ReachEach [] [] [] = Unit {0}

-- each state has absorbed its message
abbrev pub HaveAbsorbed : List Midstate → List (List ℕ) → Type 0
HaveAbsorbed states buffers = ReachEach states [] buffers

-- state k, finished ones first, has absorbed message k or will
abbrev pub AreTo : Absorbing → List (List ℕ) → Type 0
AreTo absorbing buffers = ReachEach absorbing.states.items absorbing.pendings.items buffers

-- each checkpoint's state has absorbed the message of this folder's fingerprint up to its name
abbrev pub AreCheckpointsOf : Folder → Checkpoints → Type 0
AreCheckpointsOf folder checkpoints = All (λ checkpoint. HasAbsorbed checkpoint.1 (bytes_where (is_below checkpoint.0) folder)) checkpoints.list.items

-- unless the folder is empty, there is at least one checkpoint
abbrev pub HasCheckpoint : Folder → Checkpoints → Type 0
HasCheckpoint folder checkpoints = 0 < length (map_of.entries folder) → 0 < length checkpoints.list.items

-- the files before the split are absorbed, and so are the first `taken` bytes of the buffer
pub record IsAt (split : Split) (folder : Folder) (bytes : List ℕ) (progress : Progress) : Type 0 where
  pub absorbed : HasAbsorbed progress.folder (bytes_before split folder)
  pub within : progress.taken ≤ length bytes
  pub beside : HasAbsorbed progress.bytes (take progress.taken bytes)
