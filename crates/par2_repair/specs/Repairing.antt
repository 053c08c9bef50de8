-- The files that a repair restores, and why it refuses to.
use Rattle.std.specs.Prelude.{ℕ, not, List, length, map, filter, Option, ◌≡◌, ◌++◌, Bool, filter_map, Some, None, option_map, unwrap_or, Ok, if◌then◌else◌, IsTrue}
use Rattle.par2_spec.specs.Prelude.{AllByRecursion, BTreeMap, BTreeSet, contains, slice_cmp, nat_cmp, fault_where, is_among, is_repairable, rank, entries, known, rebuilt_targets, lost, survivors, ParSet, IsSound, Target, Change, Write, Rename, Remove, Replace, are_applicable, effects, Folder, has, repair_changes, repair_removals, changes_of, AreFewFor, set_in, refusal, after, Repair}
use Rattle.std.specs.BTreeMap.{get}
use Rattle.par2_spec.specs.declared.Fault.{Fault}
use Rattle.par2_spec.specs.declared.Fault.TheVariants.{NotRepairable, RepairFailed}
use Rattle.md5.specs.Md5.{md5}
use Rattle.par2_solve.specs.Rebuilding.{known_of, recovered_of}
use Rattle.par2_solve.specs.declared.rebuild_slices.Survivors.{Survivors}
use Rattle.par2_repair.specs.declared.repair.Draft.{Draft}
use Rattle.par2_spec.specs.Search as search

-- why the lost slices can't be rebuilt, if they can't: their rank is too low
abbrev pub undetermined_fault : Folder → ParSet → List (List ℕ) → Option Fault
undetermined_fault folder set searched =
    let missing = lost (known folder set searched) in
    fault_where (not (is_repairable missing (survivors set))) (NotRepairable (length missing) (rank missing (survivors set)))

-- these are the survivors of a sound set: its slice size, the slices that are found in these files, and its recovery
-- slices
pub record AreSurvivorsOf (folder : Folder) (set : ParSet) (searched : List (List ℕ)) (survivors : Survivors) : Type 0 where
  pub sound : IsSound set
  pub size : survivors.slice ≡ set.slice_size
  pub known : known_of survivors.slice survivors.known.items ≡ known folder set searched
  pub recovery : recovered_of survivors.recovery.items ≡ entries set.recovery

-- a target's bytes have the length and the MD5 that it describes
pub record IsAsDescribed (c : Target × List ℕ) : Type 0 where
  pub length : length c.1 ≡ c.0.length
  pub md5 : md5 c.1 ≡ c.0.md5

-- each file that a repair writes from slices has the length and the MD5 that its target describes
abbrev pub WritesAsDescribed : Folder → List ℕ → List (List ℕ) → Type 0
WritesAsDescribed folder base extras =
    (set : ParSet) → set_in folder base extras ≡ Ok set → AllByRecursion IsAsDescribed (rebuilt_targets folder set (search.candidates folder set extras))

-- the name of a file once files are put aside: its aside, if it has one, and otherwise its own name
abbrev pub place_in : BTreeMap (List ℕ) (List ℕ) → List ℕ → List ℕ
place_in asides name = unwrap_or (get (slice_cmp nat_cmp) asides name) name

-- a map has these asides, each by the name before it
abbrev pub HasAsides : List (List ℕ) → List (List ℕ) → BTreeMap (List ℕ) (List ℕ) → Type 0
HasAsides names asides map_of =
    (aside : List ℕ → List ℕ) → asides ≡ map aside names
    → (name : List ℕ) → place_in map_of name ≡ (if is_among names name then aside name else name)

-- files are put aside
abbrev pub renamed : BTreeMap (List ℕ) (List ℕ) → List (List ℕ) → List Change
renamed asides names = map (λ name. Rename name (place_in asides name)) names

-- each match is renamed to the name of its target, from the name that it has by then
abbrev pub matches_taken : BTreeMap (List ℕ) (List ℕ) → List (Target × Option (List ℕ)) → List Change
matches_taken asides ms = filter_map (λ m. option_map (λ name. Rename (place_in asides name) m.0.name) m.1) ms

-- targets are written
abbrev pub writes : List (Target × List ℕ) → List Change
writes targets = map (λ c. Write c.0.name c.1) targets

-- the files of these names that aren't matches are removed under the names that they have by then
abbrev pub removed : BTreeMap (List ℕ) (List ℕ) → BTreeSet (List ℕ) → List (List ℕ) → List Change
removed asides matching names =
    map (λ name. Remove (place_in asides name)) (filter (λ name. not (contains (slice_cmp nat_cmp) matching name)) names)

-- the names of those targets that are in the folder
abbrev pub names_there : Folder → List (Target × Option (List ℕ)) → List (List ℕ)
names_there folder incomplete = map (λ m. m.0.name) (filter (λ m. has folder m.0.name) incomplete)

-- the changes of a repair, which may purge
abbrev pub repair_by : Bool → Folder → ParSet → List (List ℕ) → List Change
repair_by purge folder set searched =
    if purge then repair_changes folder set searched ++ repair_removals folder set searched else repair_changes folder set searched

-- The bytes that changes write.

-- the bytes that a change writes, if it writes any
abbrev pub bytes_written : Change → Option (List ℕ)
bytes_written (Write name bytes) = Some bytes
bytes_written (Replace name bytes) = Some bytes
bytes_written (Rename from to) = None
bytes_written (Remove name) = None

-- the bytes of the files that changes write, in order
abbrev pub buffers_written : List Change → List (List ℕ)
buffers_written changes = filter_map bytes_written changes

-- Drafts: repairs whose written files aren't checked yet.

-- the written files have the MD5s that the draft has for them
abbrev pub HasItsMd5s : Draft → Type 0
HasItsMd5s draft = map md5 (buffers_written draft.changes) ≡ draft.md5s.items

-- the draft of a repair of the set of a base: its changes are right, and whether its MD5s are decides the refusal
pub record IsDraft (folder : Folder) (base : List ℕ) (extras : List (List ℕ)) (purge : Bool) (draft : Draft) : Type 0 where
  -- its changes are those of the definitions, apply in order and lead to their folder, even if an MD5 is wrong
  pub changes : draft.changes ≡ changes_of folder (Repair base extras purge)
  pub applies : IsTrue (are_applicable folder draft.changes)
  pub leads : effects folder draft.changes ≡ after folder (Repair base extras purge)
  -- the folder has few enough names to number the asides
  pub few : AreFewFor folder (Repair base extras purge)
  -- if no MD5 is wrong, the repair isn't refused, and its files are written as described
  pub accepted : HasItsMd5s draft → refusal folder (Repair base extras purge) ≡ None
  pub written : HasItsMd5s draft → WritesAsDescribed folder base extras
  -- if one is, that is why the repair is refused
  pub failed : ¬ (HasItsMd5s draft) → refusal folder (Repair base extras purge) ≡ Some RepairFailed
