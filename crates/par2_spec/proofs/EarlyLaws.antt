-- An early refusal of a command is its refusal.
use Rattle.par2_spec.proofs.Common.{◌≡◌, ℕ, List, [], ◌∷◌, ◌++◌, length, refl, ap, ◌∙◌, not, ◌&&◌, Option, Some, None, Err, ◌==◌, Fault, BadSliceSize, BadCount, BadBase, NoInput, first_fault, fault_where, fault_of, then_fault, is_name, is_par_name, Folder, is_slice_size, ParSet, candidates, CreateArgs, Command, Create, Verify, Repair, Purge, are_counts, bad_name, absent_file, repair_refusal, purge_refusal, head_fault, create_refusal, set_in, refusal, early_refusal}

-- the first fault of all tests is that of the first part or else that of the rest
pub first-append : {F : Type 0} (xs ys : List (Option F)) → first_fault (xs ++ ys) ≡ first_fault (first_fault xs ∷ ys)
first-append (None ∷ xs) ys = first-append xs ys
first-append xs ys = refl

-- the first fault of the first part is the first of all
first_before : {F : Type 0} (xs ys : List (Option F)) (fault : F) → first_fault xs ≡ Some fault → first_fault (xs ++ ys) ≡ Some fault
first_before xs ys fault h = first-append xs ys ∙ ap (λ f. first_fault (f ∷ ys)) h

create_refused : (folder : Folder) (a : CreateArgs) (fault : Fault) → first_fault (head_fault a ∷ bad_name a.inputs ∷ []) ≡ Some fault → create_refusal folder a ≡ Some fault
create_refused folder a fault h = unfold head_fault create_refusal in
    let heads =
    fault_where (not (is_slice_size a.slice)) BadSliceSize
    ∷ fault_where (not (are_counts a.first a.count)) BadCount
    ∷ fault_where (not (is_name a.base && is_par_name a.base)) BadBase
    ∷ fault_where (length a.inputs == 0) NoInput
    ∷ [] in
    first_before (heads ++ bad_name a.inputs ∷ []) _ fault (first-append heads (bad_name a.inputs ∷ []) ∙ h)

unread : (folder : Folder) (base : List ℕ) (extras : List (List ℕ)) (fault : Fault) → absent_file folder base extras ≡ Some fault → set_in folder base extras ≡ Err fault
unread folder base extras fault h = unfold set_in in rw h refl

pub refused_early : (folder : Folder) (command : Command) (fault : Fault) → early_refusal folder command ≡ Some fault → refusal folder command ≡ Some fault
unfolding early_refusal refusal
refused_early folder (Create a) fault h = create_refused folder a fault h
refused_early folder (Verify base extras) fault h = ap fault_of (unread folder base extras fault h)
refused_early folder (Repair base extras purge) fault h =
    ap (λ r. then_fault r (λ (set : ParSet). repair_refusal folder set (candidates folder set extras))) (unread folder base extras fault h)
refused_early folder (Purge base) fault h = ap (λ r. then_fault r (purge_refusal folder)) (unread folder base [] fault h)
