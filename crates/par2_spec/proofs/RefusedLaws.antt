-- If a repair is refused as not repairable, other slices also agree.
use Rattle.par2_spec.proofs.Common.{◌≡◌, ℕ, ◌≤◌, List, [], ◌∷◌, subst, true, Bool, arith, Some, Ok, both_ways, not-true, NameTooLong, NotRepairable, RepairFailed, first_fault, fault_where, Folder, all_slices, IsRepairable, ParSet, set_of, is_slice_size, candidates, known, lost, survivors, Repair, repair_refusal, refusal, File, MadeFrom, NoCollision, AllByRecursion, AreBytes, AnotherAgrees}
use Rattle.std.specs.FinMap as map_of
use Rattle.par2_spec.proofs.Basics.{sound_of, size_parts, repairable-iff}
use Rattle.par2_spec.proofs.ExistLaws.{another_agrees}
use Rattle.par2_spec.proofs.FilesLaws.{true_slices_agree}
use Rattle.par2_spec.proofs.AcceptedCommands.{missing, in_full, in_part}

-- only the first cause returns this fault
pub first_cause : (b c d : Bool) (l n m r : ℕ) → first_fault (fault_where b (NotRepairable l n) ∷ fault_where c NameTooLong ∷ fault_where d RepairFailed ∷ []) ≡ Some (NotRepairable m r) → b ≡ true
first_cause b c d l n m r e = grind arith

unrepairable : (folder : Folder) (set : ParSet) (searched : List (List ℕ)) (m r : ℕ) → repair_refusal folder set searched ≡ Some (NotRepairable m r) → IsRepairable (lost (known folder set searched)) (survivors set) → ⊥
unrepairable folder set searched m r e repairable = unfold repair_refusal in grind (arith, both_ways, not-true, first_cause, repairable-iff)

-- a repair over a set that is read is refused for the set's cause or for a missing file
refused_by_set : (folder : Folder) (base : List ℕ) (extras : List (List ℕ)) (purge : Bool) (set : ParSet) (m r : ℕ) → set_of folder base ≡ Ok set → refusal folder (Repair base extras purge) ≡ Some (NotRepairable m r)
    → repair_refusal folder set (candidates folder set extras) ≡ Some (NotRepairable m r)
refused_by_set folder base extras purge set m r reads e = unfold refusal in grind (arith, missing, in_full, in_part)

pub size_two : (s : ℕ) → is_slice_size s ≡ true → 2 ≤ s
size_two s h = let least : 4 ≤ s = (size_parts s h).1 in omega (arith, least)

-- slices other than the files' also agree with everything that is found
pub another_choice :
    (folder : Folder) (base : List ℕ) (extras : List (List ℕ)) (purge : Bool)
    (files : List File) (s missing rank : ℕ) (m : MadeFrom folder base files s)
    → let searched = candidates folder m.set extras in let slices = all_slices s files in
    NoCollision folder searched s slices → AllByRecursion (λ file. AreBytes file.1) files
    → refusal folder (Repair base extras purge) ≡ Some (NotRepairable missing rank)
    → AnotherAgrees s (known folder m.set searched) (map_of.entries m.set.recovery) slices
another_choice folder base extras purge files s m r made reported bytes refused =
    let searched = candidates folder made.set extras in
    another_agrees s (known folder made.set searched) (map_of.entries made.set.recovery) (all_slices s files)
    (size_two s (subst (λ n. is_slice_size n ≡ true) made.slice_size (sound_of folder base made.set made.reads).size))
    (unrepairable folder made.set searched m r (refused_by_set folder base extras purge made.set m r made.reads refused))
    (true_slices_agree folder base files s searched made reported bytes)
