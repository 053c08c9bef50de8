-- The set that a repair reads, and the files that it was made from.
use Rattle.par2_laws.proofs.Common.{ℕ, ◌<◌, ◌%◌, List, Bool, true, false, ◌≡◌, ◌⊎◌, inl, inr, sym, ◌∙◌, refl, arith, Ok, Err, None, Some, list_all, both_ways, and_parts, by_either, NoSuchFile, NotRepairable, RepairFailed, Folder, File, ParSet, has, set_of, set_in, candidates, known, lost, survivors, IsRepairable, Repair, refusal, repair_refusal, after, rebuilt_targets, IsTrueTo, made_size, purged_files, repaired_files, right_digests, present_searched, after_repair, after_repair_and_purge, [], ◌∷◌, not, not-true, Option, bytes_eq, md5, Fault, NameTooLong, first_fault, fault_where, is_repairable, rank, Target, repairable-iff, may_refuse, zero, suc, length, map, subst, drop, ap, cond, ◌&&◌, unwrap_or, flat_map, nat_lt, ◌==◌, if◌then◌else◌, AllByRecursion, range_with_len, Pair, AreBytes, get-entries, nat_cmp, slice_cmp, windows, bytes_of, packets_with, recovery_of, other_par_names, found_one, found_at_key, all-flat_map, all-filter_map, all-map, accepted, Packet, RecoveryBody, accepted_after, read_recovery, all-filter, all-entries, all_weaker, HoldsBytes, size_even, sound_of, all-each, all-take, all-drop, all-both, T-parts, begins_with_packet, claimed_length, first_packet, AreSurvivors, IsSound, window, is_match, found, ◌-◌, T, is_sorted, entries_sorted, eq_by_cmp, is_lt, is_eq, ForSome, below_all, nat_cmp_total, read_by, tied_itself, missing, in_full, in_part, set_in_reads, another_choice, first_cause, size_two, Fits, targets_fit, HasFiles, OthersAgree, RefusedRepairLeavesTwoLists, length-window, bytes-window, two_agree}
use Rattle.std.specs.FinMap.{find}
use Rattle.std.specs.FinMap as map_of

-- the refusal: whether the set is repairable, an aside is too long, and the MD5s are right
abbrev answer : (repairable long right : Bool) (missing rank : ℕ) → Option Fault
answer repairable long right missing rank =
    first_fault (
    fault_where (not repairable) (NotRepairable missing rank)
    ∷ fault_where long NameTooLong
    ∷ fault_where (not right) RepairFailed
    ∷ [])

by_few : (repairable long right : Bool) (m r : ℕ) (fault : Fault) → (fault ≡ RepairFailed → ⊥) → answer repairable long right m r ≡ Some fault → may_refuse fault ≡ true
by_few true false false m r fault never e = absurd (never (cc))
by_few repairable long right m r fault never e = cc

-- a file that is written has its MD5
abbrev pub has_digest : Target × List ℕ → Bool
has_digest c = bytes_eq (md5 c.1) c.0.md5

module _ (folder : Folder) (set : ParSet) (searched : List (List ℕ)) where
  abbrev lost_slices : List ℕ
  lost_slices = lost (known folder set searched)

  abbrev repairable : Bool
  repairable = is_repairable lost_slices (survivors set)

  abbrev all_right : Bool
  all_right = list_all has_digest (rebuilt_targets folder set searched)

  determined : (repairable ≡ true) → IsRepairable lost_slices (survivors set)
  determined = (repairable-iff lost_slices (survivors set)).0

  pub accepted_by : repair_refusal folder set searched ≡ None → IsRepairable lost_slices (survivors set)
  accepted_by e = unfold repair_refusal in grind (arith, determined)

  pub failed_by : repair_refusal folder set searched ≡ Some RepairFailed → IsRepairable lost_slices (survivors set) × (all_right ≡ false)
  failed_by e = unfold repair_refusal in grind (arith, determined)

  undetermined : (m r : ℕ) → repair_refusal folder set searched ≡ Some (NotRepairable m r) → repairable ≡ false
  undetermined m r e = unfold repair_refusal in grind (arith, not-true, first_cause)

  pub unrepairable_by : (m r : ℕ) → repair_refusal folder set searched ≡ Some (NotRepairable m r) → IsRepairable lost_slices (survivors set) → ⊥
  unrepairable_by m r e determined = both_ways repairable (undetermined m r e) ((repairable-iff lost_slices (survivors set)).1 determined)

  pub refused_by : (fault : Fault) → (fault ≡ RepairFailed → ⊥) → repair_refusal folder set searched ≡ Some fault → may_refuse fault ≡ true
  refused_by fault never e = unfold repair_refusal in by_few repairable _ all_right _ _ fault never e

-- ---- the set that is read

-- a set that is read is that of the base, in a folder with these files
pub read_of : (folder : Folder) (base : List ℕ) (extras : List (List ℕ)) (set : ParSet) → set_in folder base extras ≡ Ok set → (set_of folder base ≡ Ok set) × (list_all (has folder) extras ≡ true)
read_of folder base extras set read = let r = set_in_reads folder base extras set read in (r.0, (and_parts (has folder base) (list_all (has folder) extras) r.1).1)

read_or_absent : (folder : Folder) (base : List ℕ) (extras : List (List ℕ)) (set : ParSet) → set_of folder base ≡ Ok set → (set_in folder base extras ≡ Ok set) ⊎ ((place : ℕ) × (set_in folder base extras ≡ Err (NoSuchFile place)))
read_or_absent folder base extras set reads = grind (arith, missing, in_full, in_part)

-- the set of the base is read, and a repair is refused for its cause, or a file doesn't exist
pub reading : (folder : Folder) (base : List ℕ) (extras : List (List ℕ)) (purge : Bool) (set : ParSet) → set_of folder base ≡ Ok set
    → ((set_in folder base extras ≡ Ok set) × (refusal folder (Repair base extras purge) ≡ repair_refusal folder set (candidates folder set extras)))
    ⊎ ((place : ℕ) × (refusal folder (Repair base extras purge) ≡ Some (NoSuchFile place)))
unfolding refusal
reading folder base extras purge set reads = by_either (read_or_absent folder base extras set reads) (λ read. inl (read, rw read refl)) (λ absent. inr (absent.0, rw absent.1 refl))

-- ---- a set that was made from known files

module _ (folder : Folder) (base : List ℕ) (extras : List (List ℕ)) (files : List File) (s : ℕ) (original : IsTrueTo folder base extras files s) where
  abbrev set : ParSet
  set = original.made.set

  abbrev searched : List (List ℕ)
  searched = candidates folder set extras

  abbrev IsDetermined : Type 0
  IsDetermined = IsRepairable (lost (known folder set searched)) (survivors set)

  abbrev IsThere : Type 0
  IsThere = list_all (has folder) extras ≡ true

  size : (0 < s) × (s % 2 ≡ 0)
  size = made_size folder base files s original.made

  fits : IsThere → Fits folder set searched
  fits there = targets_fit folder base set extras original.made.reads there

  repaired : IsThere → IsDetermined → HasFiles files (after_repair folder set searched)
  repaired there determined = repaired_files folder base files s searched original.made (fits there) (present_searched folder set extras) size.0 size.1 original.no_collision original.bytes determined

  purged : IsThere → IsDetermined → HasFiles files (after_repair_and_purge folder set searched)
  purged there determined = purged_files folder base files s searched original.made (fits there) (repaired there determined)

  right : IsThere → IsDetermined → list_all has_digest (rebuilt_targets folder set searched) ≡ true
  right there determined = right_digests folder base files s searched original.made (fits there) size.0 size.1 original.no_collision original.bytes determined

  left : (purge : Bool) → set_in folder base extras ≡ Ok set → IsDetermined → HasFiles files (after folder (Repair base extras purge))
  unfolding after
  left true read determined = rw read (purged (read_of folder base extras set read).1 determined)
  left false read determined = rw read (repaired (read_of folder base extras set read).1 determined)

  pub leaves_files : (purge : Bool) → refusal folder (Repair base extras purge) ≡ None → HasFiles files (after folder (Repair base extras purge))
  leaves_files purge accepted =
      grind (arith, reading folder base extras purge set original.made.reads, left purge, accepted_by folder set searched, accepted)

  pub never_fails : (purge : Bool) → refusal folder (Repair base extras purge) ≡ Some RepairFailed → ⊥
  never_fails purge refused =
      grind (arith, reading folder base extras purge set original.made.reads, failed_by folder set searched, right, read_of folder base extras set, refused)

  pub has_choice : (purge : Bool) (m r : ℕ) → refusal folder (Repair base extras purge) ≡ Some (NotRepairable m r) → OthersAgree folder base extras files s original
  has_choice purge m r refused = another_choice folder base extras purge files s m r original.made original.no_collision original.bytes refused

-- What survives of a set is bytes of its folder's files, so the laws of such bytes hold of it.

-- the recovery slice of an exponent, empty if none survives
abbrev recovery_slice : ParSet → ℕ → List ℕ
recovery_slice set e = unwrap_or (map_of.get set.recovery e) []

-- ---- in a folder whose files hold bytes, found slices are buffers of bytes

-- a buffer of s bytes
abbrev pub IsSliceBytes : ℕ → List ℕ → Type 0
IsSliceBytes s bytes = (length bytes ≡ s) × AreBytes bytes

pub bytes_of_file : (folder : Folder) (name : List ℕ) → HoldsBytes folder → AreBytes (bytes_of folder name)
bytes_of_file folder name h = subst (λ o. AreBytes (unwrap_or o [])) (sym (get-entries folder name)) (found_at_key AreBytes (slice_cmp nat_cmp) name [] (map_of.entries folder) h tt)

-- ---- windows

windows_are : (s : ℕ) (content : List ℕ) → AreBytes content → AllByRecursion (IsSliceBytes s) (windows s content)
windows_are s content bytes = all-each (IsSliceBytes s) (window s content) (λ o. (length-window s content o, bytes-window s content o bytes)) (range_with_len 0 (length content))

found_is : (folder : Folder) (searched : List (List ℕ)) (s : ℕ) → HoldsBytes folder → (pair : Pair) → ForSome (found s (map (bytes_of folder) searched) pair) (IsSliceBytes s)
found_is folder searched s held pair =
    let buffers = map (bytes_of folder) searched in
    let each = all-each (λ bytes. AllByRecursion (IsSliceBytes s) (windows s bytes)) (bytes_of folder) (λ name. windows_are s (bytes_of folder name) (bytes_of_file folder name held)) searched in
    λ slice is. (found_one (IsSliceBytes s) (is_match pair) (flat_map (windows s) buffers) (all-flat_map (λ bytes. AllByRecursion (IsSliceBytes s) (windows s bytes)) (IsSliceBytes s) (windows s) (λ bytes all. all) buffers each) slice is).0

-- each known slice is a buffer of the slice size
pub known_are : (folder : Folder) (set : ParSet) (searched : List (List ℕ)) → HoldsBytes folder → AllByRecursion (λ slice. ForSome slice (IsSliceBytes set.slice_size)) (known folder set searched)
known_are folder set searched held = unfold known in search (arith, all-each, found_is)

-- ---- packets

abbrev HasBytes : Packet → Type 0
HasBytes p = AreBytes p.body

first_has : (content : List ℕ) → AreBytes content → HasBytes (first_packet content)
first_has content bytes = unfold first_packet in all-take (λ b. b < 256) _ (drop 64 content) (all-drop (λ b. b < 256) 64 content bytes)

packets_have : (n : ℕ) (content : List ℕ) → AreBytes content → AllByRecursion HasBytes (accepted_after n content)
unfolding accepted_after
packets_have n [] bytes = tt
packets_have (suc n) (b ∷ content) bytes = packets_have n content bytes.1
packets_have zero (b ∷ content) bytes =
    step (begins_with_packet (b ∷ content)) (first_packet (b ∷ content)) (first_has (b ∷ content) bytes) (packets_have (claimed_length (b ∷ content) - 1) content bytes.1) (packets_have zero content bytes.1)
  where
    step : (begins : Bool) (p : Packet) → HasBytes p → AllByRecursion HasBytes (accepted_after (claimed_length (b ∷ content) - 1) content) → AllByRecursion HasBytes (accepted_after zero content)
        → AllByRecursion HasBytes (if begins then p ∷ accepted_after (claimed_length (b ∷ content) - 1) content else accepted_after zero content)
    step begins p is behind next = grind arith

said_has : (p : Packet) → HasBytes p → ForSome (read_recovery p.kind p.body) (λ r. AreBytes r.bytes)
said_has p bytes = unfold read_recovery in grind (arith, unwrap_or, all-drop)

-- ---- the map of recovery slices

abbrev IsOfBytes : ℕ × List ℕ → Type 0
IsOfBytes e = AreBytes e.1

recovery_has : (packets : List Packet) (s : ℕ) → AllByRecursion HasBytes packets → AllByRecursion IsOfBytes (map_of.entries (recovery_of packets s))
recovery_has packets s h =
    let said = all-filter_map HasBytes (λ (r : RecoveryBody). AreBytes r.bytes) (λ p. read_recovery p.kind p.body) said_has packets h in
    let chosen = all-filter (λ (r : RecoveryBody). AreBytes r.bytes) (λ r. nat_lt r.exponent 65536 && length r.bytes == s) _ said in
    all-entries IsOfBytes _ (all-map (λ (r : RecoveryBody). AreBytes r.bytes) IsOfBytes (λ r. (r.exponent, r.bytes)) (λ r k. k) _ chosen)

-- the map has each of its entries at the entry's key
other_key : (k n : ℕ) → T (is_lt (nat_cmp k n)) → eq_by_cmp nat_cmp n k ≡ false
other_key k n less = grind arith

behind_first : (k : ℕ) (v : List ℕ) (ds es : List (ℕ × List ℕ)) → T (below_all nat_cmp k ds) → AllByRecursion (λ d. find nat_cmp d.0 es ≡ Some d.1) ds → AllByRecursion (λ d. find nat_cmp d.0 ((k, v) ∷ es) ≡ Some d.1) ds
behind_first k v [] es less h = tt
behind_first k v (d ∷ ds) es less h =
    let first = T-parts (is_lt (nat_cmp k d.0)) (below_all nat_cmp k ds) less in
    (ap (λ b. cond b (Some v) (find nat_cmp d.0 es)) (other_key k d.0 first.0) ∙ h.0, behind_first k v ds es first.1 h.1)

own_values : (es : List (ℕ × List ℕ)) → T (is_sorted nat_cmp es) → AllByRecursion (λ e. find nat_cmp e.0 es ≡ Some e.1) es
own_values [] sorted = tt
own_values (e ∷ es) sorted =
    let rest = T-parts (below_all nat_cmp e.0 es) (is_sorted nat_cmp es) sorted in (
      ap (λ o. cond (is_eq o) (Some e.1) (find nat_cmp e.0 es)) (tied_itself nat_cmp_total e.0),
      behind_first e.0 e.1 es es rest.0 (own_values es rest.1),
    )

pub each_has_its_own : (set : ParSet) → AllByRecursion (λ r. map_of.get set.recovery r.0 ≡ Some r.1) (map_of.entries set.recovery)
each_has_its_own set = search (arith, all_weaker, get-entries, own_values, entries_sorted)

-- the recovery slices of a set that is read are bytes, if the folder's files are
pub recovery_of_bytes : (folder : Folder) (base : List ℕ) (set : ParSet) → HoldsBytes folder → set_of folder base ≡ Ok set → AllByRecursion (λ e. AreBytes e.1) (map_of.entries set.recovery)
recovery_of_bytes folder base set held reads = unfold set_of in
    let names = base ∷ other_par_names folder base in
    let buffers = map (bytes_of folder) names in
    let read = read_by (bytes_of folder base) (map (bytes_of folder) (other_par_names folder base)) set reads in
    let in_buffers = all-each (λ bytes. AllByRecursion HasBytes (accepted bytes)) (bytes_of folder) (λ name. packets_have 0 (bytes_of folder name) (bytes_of_file folder name held)) names in
    let in_packets = all-flat_map (λ bytes. AllByRecursion HasBytes (accepted bytes)) HasBytes accepted (λ bytes all. all) buffers in_buffers in
    let kept = all-filter HasBytes (λ p. bytes_eq p.set_id read.id) (flat_map accepted buffers) in_packets in
    subst (λ s. AllByRecursion IsOfBytes (map_of.entries s.recovery)) read.made (recovery_has (packets_with read.id (flat_map accepted buffers)) read.main.slice_size kept)

-- ---- in a folder whose files hold bytes, the survivors of a sound set are buffers of the slice size

pub survivors_are : (folder : Folder) (base : List ℕ) (set : ParSet) (searched : List (List ℕ)) → IsSound set → HoldsBytes folder → set_of folder base ≡ Ok set
    → AreSurvivors set.slice_size 65536 (known folder set searched) (map_of.entries set.recovery) (recovery_slice set)
survivors_are folder base set searched sound held reads =
    let found = known_are folder set searched held in record {
      even = size_even set.slice_size sound.size;
      known_sizes = all_weaker _ _ (λ slice are y is. (are y is).0) (known folder set searched) found;
      known_bytes = all_weaker _ _ (λ slice are y is. (are y is).1) (known folder set searched) found;
      bytes = λ e. subst (λ o. AreBytes (unwrap_or o [])) (sym (get-entries set.recovery e)) (found_at_key AreBytes nat_cmp e [] (map_of.entries set.recovery) (recovery_of_bytes folder base set held reads) tt);
      each = all-both _ _ _ (λ r size own. (size.0, size.1, ap (λ o. unwrap_or o []) own)) (map_of.entries set.recovery) sound.recovery (each_has_its_own set);
    }

-- if a repair is refused as not repairable, two lists of slices agree with what survives
pub two_lists : RefusedRepairLeavesTwoLists
two_lists folder base extras purge set missing rank held read refused =
    let searched = candidates folder set extras in
    let reads = (read_of folder base extras set read).0 in
    let sound = sound_of folder base set reads in
    let cause = by_either (reading folder base extras purge set reads) (λ same. sym same.1 ∙ refused) (λ absent. let clash = sym absent.1 ∙ refused in absurd (cc)) in
    two_agree set.slice_size 65536 (known folder set searched) (map_of.entries set.recovery) (recovery_slice set)
    (survivors_are folder base set searched sound held reads)
    (size_two set.slice_size sound.size)
    (unrepairable_by folder set searched missing rank cause)
