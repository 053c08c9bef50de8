-- The changes of a command, in the order in which they are made.
use Rattle.std.specs.Prelude.{ℕ, not, List, [], ◌++◌, map, filter, filter_map, option_map, if◌then◌else◌, ◌≡◌, Ok, IsTrue, None}
use Rattle.par2_spec.specs.Names.{is_among}
use Rattle.par2_spec.specs.Folders.{Folder, has}
use Rattle.par2_spec.specs.Changes.{Change, Write, Replace, Rename, Remove, are_applicable, effects}
use Rattle.par2_spec.specs.Sets.{ParSet, set_of}
use Rattle.par2_spec.specs.Search.{matches, candidates, matching}
use Rattle.par2_spec.specs.Repairs.{aside, put_aside, rebuilt_targets, par_files, AreFew}
use Rattle.par2_spec.specs.Commands.{CreateArgs, Command, Create, Verify, Repair, Purge, outputs_of, Action, Do, Undo, Redo}
use Rattle.par2_spec.specs.Refusals.{set_in, by_set, after, refusal}

-- a create writes its outputs in order, and replaces those that exist
abbrev pub create_changes : Folder → CreateArgs → List Change
create_changes folder a =
    map (λ file. if has folder file.0 then Replace file.0 file.1 else Write file.0 file.1) (outputs_of folder a)

-- the name of a match after the existing incomplete targets are put aside
abbrev pub now_at : Folder → ParSet → List ℕ → List ℕ
now_at folder set name = if is_among (put_aside folder set) name then aside folder set name else name

-- a repair puts the existing incomplete targets aside, renames the matches to their targets, and writes the other
-- targets
unfoldable pub repair_changes : Folder → ParSet → List (List ℕ) → List Change
unfolding aside matches rebuilt_targets
repair_changes folder set searched =
    map (λ name. Rename name (aside folder set name)) (put_aside folder set)
    ++ filter_map (λ m. option_map (λ name. Rename (now_at folder set name) m.0.name) m.1) (matches folder set searched)
    ++ map (λ c. Write c.0.name c.1) (rebuilt_targets folder set searched)

-- a repair that purges then removes the asides that are left, and the PAR2 files
unfoldable pub repair_removals : Folder → ParSet → List (List ℕ) → List Change
unfolding aside matches
repair_removals folder set searched =
    map (λ name. Remove (aside folder set name)) (filter (λ name. not (is_among (matching folder set searched) name)) (put_aside folder set))
    ++ map Remove (filter (λ name. not (is_among (matching folder set searched) name)) (par_files folder set))

-- a purge removes the PAR2 files
abbrev pub purge_changes : Folder → ParSet → List Change
purge_changes folder set = map Remove (par_files folder set)

-- the changes of an accepted command
unfoldable pub changes_of : Folder → Command → List Change
unfolding set_in repair_changes repair_removals
changes_of folder (Create a) = create_changes folder a
changes_of folder (Verify base extras) = []
changes_of folder (Repair base extras purge) =
    by_set [] (λ set.
    let searched = candidates folder set extras in
    if purge then repair_changes folder set searched ++ repair_removals folder set searched
    else repair_changes folder set searched)
    (set_in folder base extras)
changes_of folder (Purge base) = by_set [] (purge_changes folder) (set_in folder base [])

-- the numbers of the asides of a repair fit in 64 bits
abbrev pub AreFewFor : Folder → Command → Type 0
AreFewFor folder (Create a) = Unit {0}
AreFewFor folder (Verify base extras) = Unit {0}
AreFewFor folder (Repair base extras purge) = (set : ParSet) → set_of folder base ≡ Ok set → AreFew folder set
AreFewFor folder (Purge base) = Unit {0}

-- the changes of a command apply in order and lead to its folder
abbrev pub LeadsToAfter : Folder → Command → Type 0
LeadsToAfter folder command = IsTrue (are_applicable folder (changes_of folder command)) × (effects folder (changes_of folder command) ≡ after folder command)

-- an accepted command leads to its folder; an undo or redo has no plan
abbrev pub LeadsToAfterRequested : Folder → Action → Type 0
LeadsToAfterRequested folder (Do command) = refusal folder command ≡ None → LeadsToAfter folder command
LeadsToAfterRequested folder Undo = Unit {0}
LeadsToAfterRequested folder Redo = Unit {0}
