-- Reports, target by target.
use Rattle.par2_spec.proofs.Common.{arith, ◌≡◌, ℕ, List, [], ◌∷◌, length, map, refl, false, flat_map, zip, Option, Ok, AllByRecursion, map-append, length-map, map-map, drop-append_seam, take-append_seam, Pair, Folder, bytes_of, ParSet, Target, set_of, is_incomplete, candidates, known, cut_into, report_of_target, report_of, found}
use Rattle.par2_spec.proofs.Basics.{intact_found, sound_of, size_positive, sized_from_counted, present_searched}
use Rattle.par2_spec.proofs.SearchLaws.{IsFound}

abbrev with_slices : Target → List (Option (List ℕ)) → Target × List (Option (List ℕ))
with_slices t slices = (t, slices)

-- the slices of all targets, cut into those of each
cut_pairs : (f : Pair → Option (List ℕ)) (ts : List Target)
    → zip ts (cut_into (map (λ t. length t.pairs) ts) (map f (flat_map (λ t. t.pairs) ts))) ≡ map (λ t. with_slices t (map f t.pairs)) ts
cut_pairs f [] = refl
cut_pairs f (t ∷ ts) = grind (arith, map-append, length-map, take-append_seam, drop-append_seam, cut_pairs f ts)

-- the slices of a target, each if it is found
abbrev pub found_of : Folder → ParSet → List (List ℕ) → Target → List (Option (List ℕ))
found_of folder set searched t = map (found set.slice_size (map (bytes_of folder) searched)) t.pairs

-- the report of a set has the report of each target from its own slices
pub by_target : (folder : Folder) (set : ParSet) (searched : List (List ℕ))
    → (report_of folder set searched).targets ≡ map (λ t. report_of_target folder set searched (t, found_of folder set searched t)) set.targets
by_target folder set searched = unfold report_of known in grind (arith, cut_pairs, map-map)

-- each slice of an intact target is found
pub intact_are_found : (folder : Folder) (base : List ℕ) (set : ParSet) (extras : List (List ℕ)) → set_of folder base ≡ Ok set
    → AllByRecursion (λ t. is_incomplete folder set t ≡ false → IsFound folder set.slice_size (candidates folder set extras) t) set.targets
intact_are_found folder base set extras h =
    let sound = sound_of folder base set h in
    intact_found folder set (candidates folder set extras) set.targets (size_positive set.slice_size sound.size) (sized_from_counted set.slice_size set.targets sound.pairs) (present_searched folder set extras)
