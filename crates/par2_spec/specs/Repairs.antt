-- The folder after a repair and after a purge: rules of this program.
use Rattle.std.specs.Prelude.{ℕ, ◌+◌, ◌&&◌, Bool, IsTrue, not, List, [], ◌∷◌, ◌++◌, length, take, drop, map, filter, filter_map, find, zip, Option, is_none, unwrap_or, option_map, ◌^◌, ◌<◌, ◌≡◌, IsFalse, Some, None}
use Rattle.std.specs.FinMap as map_of
use Rattle.std.specs.List.{list_all, list_any, range_with_len, concat, AllByRecursion}
use Rattle.std.specs.Str.{bytes_eq}
use Rattle.par2_spec.specs.Lists.{all_lists, all_buffers}
use Rattle.par2_spec.specs.Rank.{agrees, kept_slices}
use Rattle.par2_spec.specs.Names.{is_among, numbered, is_par_name}
use Rattle.par2_spec.specs.Packets.{accepted}
use Rattle.par2_spec.specs.Folders.{Folder, File, has, bytes_of, names, laid_over, without}
use Rattle.par2_spec.specs.Sets.{ParSet, Target, target_names}
use Rattle.par2_spec.specs.Search.{incomplete, matches, known, lost, survivors, matching, incomplete_names}
use Rattle.std.specs.Option.{ForSome}

-- the recovery slices of the kept exponents, if these slices are known
abbrev pub kept_recovery : ParSet → List (Option (List ℕ)) → List (ℕ × List ℕ)
kept_recovery set known = kept_slices (lost known) (survivors set) (map_of.entries set.recovery)

-- the list of slices that agrees with the known ones and the recovery slices of the kept exponents
unfoldable pub rebuilt : ParSet → List (Option (List ℕ)) → List (List ℕ)
unfolding agrees
rebuilt set known =
    unwrap_or (find (agrees set.slice_size known (kept_recovery set known)) (all_lists (all_buffers set.slice_size) (length known))) []

-- the items, cut into lists of these lengths in order
abbrev pub cut_into : {A : Type 0} → List ℕ → List A → List (List A)
cut_into [] items = []
cut_into (n ∷ counts) items = take n items ∷ cut_into counts (drop n items)

-- the targets with their bytes, cut out of a list of all slices
abbrev pub files_of_slices : ParSet → List (List ℕ) → List (Target × List ℕ)
files_of_slices set slices =
    map (λ z. (z.0, take z.0.length (concat z.1))) (zip set.targets (cut_into (map (λ t. length t.pairs) set.targets) slices))

-- the names that an aside must not have: those of the folder and of the targets
abbrev pub taken_for : Folder → ParSet → List (List ℕ)
taken_for folder set = names folder ++ target_names set

-- the names of `taken_for` are few enough that the number of an aside fits in 64 bits
abbrev pub AreFew : Folder → ParSet → Type 0
AreFew folder set = length (taken_for folder set) + 1 < 2 ^ 64

-- the aside of a name: the name with the least number from 1 on that is neither in the folder nor a target's
unfoldable pub aside : Folder → ParSet → List ℕ → List ℕ
aside folder set name =
    let taken = names folder ++ map (λ t. t.name) set.targets in
    unwrap_or (find (λ other. not (is_among taken other)) (map (numbered name) (range_with_len 1 (length taken + 1)))) []

-- the incomplete targets that have a match, with the bytes of the match
abbrev pub matched_files : Folder → List (Target × Option (List ℕ)) → List File
matched_files folder ms = filter_map (λ m. option_map (λ name. (m.0.name, bytes_of folder name)) m.1) ms

-- the names of the incomplete targets that have no match
abbrev pub names_without_match : List (Target × Option (List ℕ)) → List (List ℕ)
names_without_match ms = map (λ m. m.0.name) (filter (λ m. is_none m.1) ms)

-- the targets that a repair writes from slices, with their bytes
unfoldable pub rebuilt_targets : Folder → ParSet → List (List ℕ) → List (Target × List ℕ)
unfolding matches known rebuilt
rebuilt_targets folder set searched =
    filter (λ c. is_among (names_without_match (matches folder set searched)) c.0.name) (files_of_slices set (rebuilt set (known folder set searched)))

-- the incomplete targets that exist, whose files are put aside
abbrev pub put_aside : Folder → ParSet → List (List ℕ)
put_aside folder set = filter (has folder) (map (λ t. t.name) (incomplete folder set))

-- the files put aside that are no match, under their asides
abbrev pub aside_files : Folder → ParSet → List (List ℕ) → List File
aside_files folder set match_names =
    map (λ name. (aside folder set name, bytes_of folder name))
    (filter (λ name. not (is_among match_names name)) (put_aside folder set))

-- the folder after a repair: without the incomplete targets and the matches, then with the asides and the repaired
-- targets
unfoldable pub after_repair : Folder → ParSet → List (List ℕ) → Folder
unfolding matches rebuilt_targets aside laid_over
after_repair folder set searched =
    let ms = matches folder set searched in
    let match_names = filter_map (λ m. m.1) ms in
    laid_over (matched_files folder ms ++ map (λ c. (c.0.name, c.1)) (rebuilt_targets folder set searched))
    (laid_over (aside_files folder set match_names) (without (map (λ m. m.0.name) ms ++ match_names) folder))

-- a PAR2 file of the set: its name ends in `.par2` and is no target's, and its accepted packets, at least one, are all
-- of the set
abbrev pub is_par_file : Folder → ParSet → List ℕ → Bool
is_par_file folder set name =
    let packets = accepted (bytes_of folder name) in
    is_par_name name && not (is_among (map (λ t. t.name) set.targets) name)
    && list_any (λ p. bytes_eq p.set_id set.id) packets && list_all (λ p. bytes_eq p.set_id set.id) packets

-- the PAR2 files of a set, in the order of their names
abbrev pub par_files : Folder → ParSet → List (List ℕ)
par_files folder set = filter (is_par_file folder set) (names folder)

-- the folder after a repair that also removes the asides and the PAR2 files
abbrev pub after_repair_and_purge : Folder → ParSet → List (List ℕ) → Folder
after_repair_and_purge folder set searched =
    without (map (aside folder set) (put_aside folder set) ++ par_files folder set) (after_repair folder set searched)

-- the folder after a purge: without the PAR2 files
abbrev pub after_purge : Folder → ParSet → Folder
after_purge folder set = without (par_files folder set) folder

-- the folder after a repair, file by file
pub record HoldsRepaired (folder : Folder) (set : ParSet) (searched : List (List ℕ)) (after : Folder) : Type 0 where
  -- each matched target has the bytes of its match
  pub matched_ones : AllByRecursion (λ m. ForSome m.1 (λ name. map_of.get after m.0.name ≡ Some (bytes_of folder name))) (matches folder set searched)
  -- each other incomplete target has its rebuilt bytes
  pub written_ones : AllByRecursion (λ c. map_of.get after c.0.name ≡ Some c.1) (rebuilt_targets folder set searched)
  -- each file put aside that is no match is under its aside
  pub asides : (name : List ℕ) → IsTrue (is_among (put_aside folder set) name) → IsFalse (is_among (matching folder set searched) name) → map_of.get after (aside folder set name) ≡ Some (bytes_of folder name)
  -- a file put aside that is a match is not under its aside
  pub taken_asides : (name : List ℕ) → IsTrue (is_among (put_aside folder set) name)
      → IsTrue (is_among (matching folder set searched) name)
      → map_of.get after (aside folder set name) ≡ None
  -- a match is not under its old name, unless an incomplete target has that name
  pub moved_away : (name : List ℕ) → IsTrue (is_among (matching folder set searched) name) → IsFalse (is_among (incomplete_names folder set) name) → map_of.get after name ≡ None
  -- each other file is as it was
  pub others : (name : List ℕ) → IsFalse (is_among (incomplete_names folder set) name) → IsFalse (is_among (matching folder set searched) name)
      → IsFalse (is_among (map (aside folder set) (put_aside folder set)) name) → map_of.get after name ≡ map_of.get folder name
