-- How a set is read: a set's parts as values, maps that keep the first value of each key, the steps with their faults.
use Rattle.std.specs.Prelude.{ℕ, ◌&&◌, nat_lt, List, length, map, Option, refl, ◌≡◌, ◌⊎◌, Bool, ◌∷◌, filter, flat_map, Result, Ok, Err, ok_or}
use Rattle.par2_spec.specs.Prelude.{Coded, code_by, coded×, coded_ℕ, coded_list, Bor, FinMap, from_sorted, nat_cmp, eq_by_cmp, ordering_then, Pair, Packet, accepted, ◌>>=◌, ParSet, Target, IsSound, description_of, unless, is_slice_size, main_of, all_some, packets_with, are_in_profile, target_of, recovery_of, other_par_names, IsStrictlyIncreasing, BTreeMap, slice_cmp, lookup, list_all, list_any, bytes_eq, Folder, bytes_of, names, is_par_name, is_among, BTreeSet, contains, fault_where, aside}
use Rattle.std.specs.FinMap as map_of
use Rattle.std.specs.BTreeMap.{get}
use Rattle.std.specs.declared.cmp.Ordering.{Ordering}
use Rattle.par2_spec.specs.declared.Fault.{Fault}
use Rattle.par2_spec.specs.declared.Fault.TheVariants.{NoMain, BadSet, NoDescription, NoChecksums, Memory, NameTooLong}

-- exponents with their recovery slices, as values
abbrev pub set_recovery : List (ℕ × Bor (List ℕ)) → List (ℕ × List ℕ)
set_recovery recovery = map (λ r. (r.0, r.1.now)) recovery

-- the exponents alone
abbrev pub set_exponents : List (ℕ × Bor (List ℕ)) → List ℕ
set_exponents recovery = map (λ r. r.0) (set_recovery recovery)

-- the set with these parts
abbrev pub set_view : List ℕ → ℕ → List Target → List (ℕ × Bor (List ℕ)) → ParSet
set_view id slice_size targets recovery =
    record { id = id; slice_size = slice_size; targets = targets; recovery = from_sorted (set_recovery recovery) }

-- the parts of a set that was read: the exponents increase strictly, and the set is sound as `IsSound` says
pub record IsReadSet (id : List ℕ) (slice_size : ℕ) (targets : List Target) (recovery : List (ℕ × Bor (List ℕ))) : Type 0 where
  pub rising : IsStrictlyIncreasing (set_exponents recovery)
  pub sound : IsSound (set_view id slice_size targets recovery)

-- a target, by its fields
abbrev pub target_code : Coded Target
target_code =
    code_by (List ℕ × (ℕ × (List ℕ × List Pair)))
    (coded× (coded_list coded_ℕ) (coded× coded_ℕ (coded× (coded_list coded_ℕ) (coded_list (coded× (coded_list coded_ℕ) coded_ℕ)))))
    (λ t. (t.name, (t.length, (t.md5, t.pairs))))
    (λ p. record { name = p.0; length = p.1.0; md5 = p.1.1.0; pairs = p.1.1.1 })
    (λ _. refl)

-- a set, by its fields
abbrev pub set_code : Coded ParSet
set_code =
    code_by (List ℕ × (ℕ × (List Target × FinMap nat_cmp (List ℕ))))
    (coded× (coded_list coded_ℕ) (coded× coded_ℕ (coded× (coded_list target_code) (map_of.code coded_ℕ (coded_list coded_ℕ)))))
    (λ s. (s.id, (s.slice_size, (s.targets, s.recovery))))
    (λ p. record { id = p.0; slice_size = p.1.0; targets = p.1.1.0; recovery = p.1.1.1 })
    (λ _. refl)

-- the order of bytes with numbers: of File IDs with numbers of slices, and of checksums of slices
abbrev pub count_cmp : List ℕ × ℕ → List ℕ × ℕ → Ordering
count_cmp a b = ordering_then (slice_cmp nat_cmp a.0 b.0) (nat_cmp a.1 b.1)

-- the map has the first value of each key of the entries, and no other keys
abbrev pub HasFirsts : {K X : Type 0} → (K → K → Ordering) → List (K × X) → BTreeMap K X → Type 0
HasFirsts {K} R entries firsts = (key : K) → get R firsts key ≡ lookup (eq_by_cmp R key) entries

-- a call returns the value of its step, or the step's fault, or that memory ran out
abbrev pub Returns : {X Y : Type 0} → (X → Y) → Result X Fault → Result Y Fault → Type 0
Returns view (Ok x) step = step ≡ Ok (view x)
Returns view (Err fault) step = (fault ≡ Memory) ⊎ (step ≡ Err fault)

-- the packets of a set in the base and in every other `.par2` file
abbrev pub set_packets : Folder → List ℕ → List ℕ → List Packet
set_packets folder base id = packets_with id (flat_map accepted (bytes_of folder base ∷ map (bytes_of folder) (other_par_names folder base)))

-- there are packets, and all are of the set with this identifier
abbrev pub are_own : List ℕ → List Packet → Bool
are_own id packets = list_any (λ p. bytes_eq p.set_id id) packets && list_all (λ p. bytes_eq p.set_id id) packets

-- the names of the `.par2` files that have packets of the set alone, in order
abbrev pub own_files : Folder → List ℕ → List (List ℕ)
own_files folder id = filter (λ name. are_own id (accepted (bytes_of folder name))) (filter is_par_name (names folder))

-- the set of these packets, which have its identifier, or the fault of the first step that fails
abbrev pub set_from_packets : List ℕ → List Packet → Result ParSet Fault
set_from_packets id packets = do
  main ← ok_or (main_of id packets) NoMain
  right_size ← unless (is_slice_size main.slice_size) BadSet
  described ← ok_or (all_some (map (description_of packets) main.ids)) NoDescription
  in_profile ← unless (are_in_profile main.slice_size described) BadSet
  targets ← ok_or (all_some (map (target_of packets main.slice_size) described)) NoChecksums
  Ok (record { id = id; slice_size = main.slice_size; targets = targets; recovery = recovery_of packets main.slice_size })

-- the refusal if the aside of one of these names is longer than a name may be
abbrev pub long_aside : Folder → ParSet → List (List ℕ) → Option Fault
long_aside folder set names = fault_where (list_any (λ name. nat_lt 255 (length (aside folder set name))) names) NameTooLong

-- the tree, which owns its names, has exactly these names
abbrev pub HoldsOwned : BTreeSet (List ℕ) → List (List ℕ) → Type 0
HoldsOwned tree names = (name : List ℕ) → contains (slice_cmp nat_cmp) tree name ≡ is_among names name
