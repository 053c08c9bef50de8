-- The targets and slices of a set that the searched files contain: rules of this program.
use Rattle.std.specs.Prelude.{◌≡◌, ℕ, ◌==◌, ◌&&◌, Bool, not, List, [], ◌∷◌, ◌++◌, length, map, filter, find, zip, Option, is_none, option_to_list, option_and_then, filter_map}
use Rattle.std.specs.FinMap as map_of
use Rattle.std.specs.List.{list_all, enumerate_from, AllByRecursion}
use Rattle.std.specs.Str.{bytes_eq}
use Rattle.par2_spec.specs.Checksums.{pair_of}
use Rattle.par2_spec.specs.Slices.{slices}
use Rattle.par2_spec.specs.Windows.{windows, is_match}
use Rattle.par2_spec.specs.Names.{is_among, distinct}
use Rattle.par2_spec.specs.Folders.{Folder, has, bytes_of}
use Rattle.par2_spec.specs.Sets.{ParSet, Target, all_pairs}
pub use Rattle.par2_spec.specs.Windows.{Matches, found}

-- the names that are searched: the targets that exist, then the extra files, each once
abbrev pub candidates : Folder → ParSet → List (List ℕ) → List (List ℕ)
candidates folder set extras = distinct (filter (has folder) (map (λ t. t.name) set.targets) ++ extras)

-- the bytes have the length and the checksums of the target
abbrev pub is_intact : ℕ → Target → List ℕ → Bool
is_intact s t bytes = length bytes == t.length && list_all (λ z. is_match z.0 z.1) (zip t.pairs (slices s bytes))

-- the file of the target's name is absent or not intact
abbrev pub is_incomplete : Folder → ParSet → Target → Bool
is_incomplete folder set t = not (has folder t.name && is_intact set.slice_size t (bytes_of folder t.name))

-- the incomplete targets, in target order
abbrev pub incomplete : Folder → ParSet → List Target
incomplete folder set = filter (is_incomplete folder set) set.targets

-- the names of the incomplete targets
abbrev pub incomplete_names : Folder → ParSet → List (List ℕ)
incomplete_names folder set = map (λ t. t.name) (incomplete folder set)

-- the names of the intact targets
abbrev pub intact_names : Folder → ParSet → List (List ℕ)
intact_names folder set = map (λ t. t.name) (filter (λ t. not (is_incomplete folder set t)) set.targets)

-- for each target the first of the names that is intact for it; a name is used only once
abbrev pub matched : Folder → ℕ → List (List ℕ) → List Target → List (Option (List ℕ))
matched folder s free [] = []
matched folder s free (t ∷ ts) =
    let first = find (λ name. is_intact s t (bytes_of folder name)) free in
    first ∷ matched folder s (filter (λ name. not (is_among (option_to_list first) name)) free) ts

-- each incomplete target with its match, if it has one
unfoldable pub matches : Folder → ParSet → List (List ℕ) → List (Target × Option (List ℕ))
matches folder set searched =
    zip (incomplete folder set)
    (matched folder set.slice_size (filter (λ name. not (is_among (intact_names folder set) name)) searched) (incomplete folder set))

-- the names of the matches
abbrev pub matching : Folder → ParSet → List (List ℕ) → List (List ℕ)
matching folder set searched = filter_map (λ m. m.1) (matches folder set searched)

-- the slices of a set, each if it is found in the files of these names
unfoldable pub known : Folder → ParSet → List (List ℕ) → List (Option (List ℕ))
known folder set searched = map (found set.slice_size (map (bytes_of folder) searched)) (all_pairs set)

-- the numbers of the lost slices: those that are not found
abbrev pub lost : List (Option (List ℕ)) → List ℕ
lost slices = map (λ z. z.0) (filter (λ z. is_none z.1) (enumerate_from 0 slices))

-- the exponents of the surviving recovery slices, in increasing order
abbrev pub survivors : ParSet → List ℕ
survivors set = map_of.keys set.recovery

-- the match of the target of this name, if it has one
abbrev pub match_of : List (Target × Option (List ℕ)) → List ℕ → Option (List ℕ)
match_of ms name = option_and_then (λ m. m.1) (find (λ m. bytes_eq m.0.name name) ms)

-- no checksum collides: a window of a searched file with the checksums of one of these slices is that slice
abbrev pub NoCollision : Folder → List (List ℕ) → ℕ → List (List ℕ) → Type 0
NoCollision folder searched s slices =
    AllByRecursion (λ slice. AllByRecursion (λ name. AllByRecursion (λ w. Matches (pair_of slice) w → w ≡ slice) (windows s (bytes_of folder name))) searched) slices
