-- The packets that are read from a volume are those that were written.
use Rattle.par2_laws.proofs.Common.{◌≡◌, ℕ, ◌^◌, ◌<◌, ◌≤◌, true, false, List, [], ◌∷◌, length, map, sym, ◌∙◌, subst, arith, zero, suc, ◌+◌, min, ◌&&◌, ◌++◌, refl, append-nil, IsTrue, IsPermutation, sum_by, ◌==◌, flat_map, nat_le, AllByRecursion, list_any, range_with_len, Contains, bytes_eq, not-true, leb-true, and_parts, length-map, sum_by-cons, IsPermutation-map, sum_by-IsPermutation, length_permutation, length-md5, pair_of, slice_count, slice_at, slices, is_name, AreBytes, File, IsFileRecord, id_of, FileRecord, all_slices, in_id_order, volumes_before, volume_size, volume_numbers, recovery_packets, packet_of, main_id, main_bytes, desc_bytes, ifsc_bytes, creator_bytes, record_of, volumes, index_packets, AreDescribed, AreInputs, IsVolume, all-map, all-append, of_contained, all_weaker, moved-all, same_either_way, size_parts, flat_map-append, common_steps, Kind, Main, FileDesc, Ifsc, Creator, Packet, packet, accepted, index_reads, recovery_slices_read, length-range_with_len, IsDistinct-IsPermutation, all-each, all-both, tests_of, none_short}
use Rattle.par2_laws.proofs.SetsOfFiles.{Says, all_contained, pairs_are}

-- ---- files in another order

pub moved : (s : ℕ) (files others : List File) → IsPermutation files others → AreInputs s files → AreInputs s others
moved s files others m is = record {
  slice_size = is.slice_size;
  few = subst (λ n. n < 2 ^ 32) (sym (length_permutation files others m)) is.few;
  sizes = moved-all (λ file. length file.1 < 2 ^ 64) files others m is.sizes;
  bytes = moved-all (λ file. AreBytes file.1) files others m is.bytes;
  names = moved-all (λ file. IsTrue (is_name file.0)) files others m is.names;
  names_once = IsDistinct-IsPermutation bytes_eq same_either_way (map (λ file. file.0) files) (map (λ file. file.0) others) (IsPermutation-map (λ file. file.0) files others m) is.names_once;
  ids_once = IsDistinct-IsPermutation bytes_eq same_either_way (map id_of files) (map id_of others) (IsPermutation-map id_of files others m) is.ids_once;
  slices = subst (λ n. n ≤ 32768) (sym (sum_by-IsPermutation (λ file. slice_count s (length file.1)) files others m)) is.slices;
}

-- ---- the records of files

-- a name is short and has no NUL byte
name_parts : (name : List ℕ) → is_name name ≡ true → (length name ≤ 255) × (list_any (λ b. b == 0) name ≡ false)
name_parts name h = grind (arith, (tests_of name h), leb-true, not-true)

-- each part of a sum is at most the sum
each_below : {A : Type 0} (f : A → ℕ) (xs : List A) (n : ℕ) → sum_by f xs ≤ n → AllByRecursion (λ x. f x ≤ n) xs
each_below f [] n h = tt
each_below f (x ∷ xs) n h = let e = sum_by-cons f x xs in (omega (arith, e, h), each_below f xs n (omega (arith, e, h)))

-- one file that a create accepts
abbrev IsInput : ℕ → File → Type 0
IsInput s file = ((length file.1 < 2 ^ 64) × AreBytes file.1) × (IsTrue (is_name file.0) × (slice_count s (length file.1) ≤ 32768))

inputs_are : (s : ℕ) (files : List File) → AreInputs s files → AllByRecursion (IsInput s) files
inputs_are s files is =
    all-both _ _ (IsInput s) (λ file h k. (h, k)) files (all-both _ _ (λ file. (length file.1 < 2 ^ 64) × AreBytes file.1) (λ file h k. (h, k)) files is.sizes is.bytes)
    (all-both _ _ (λ file. IsTrue (is_name file.0) × (slice_count s (length file.1) ≤ 32768)) (λ file h k. (h, k)) files is.names (each_below (λ file. slice_count s (length file.1)) files 32768 is.slices))

-- there are as many checksums as slices
pub pairs_count : (s : ℕ) (bytes : List ℕ) → length (map pair_of (slices s bytes)) ≡ slice_count s (length bytes)
pairs_count s bytes = length-map (slices s bytes) pair_of ∙ length-map (range_with_len 0 (slice_count s (length bytes))) (slice_at s bytes) ∙ length-range_with_len 0 (slice_count s (length bytes))

record_fits : (s : ℕ) (file : File) → IsInput s file → IsFileRecord (record_of s file)
record_fits s file is = unfold record_of in grind (arith, (name_parts file.0 is.1.0), (pairs_count s file.1), length-md5, pairs_are)

pub records_fit : (s : ℕ) (files : List File) → AreInputs s files → AllByRecursion IsFileRecord (map (record_of s) files)
records_fit s files is = all-map (IsInput s) IsFileRecord (record_of s) (record_fits s) files (inputs_are s files is)

pub described : (s : ℕ) (files : List File) → AreInputs s files → AreDescribed s files
described s files is =
    record {
      slice_size = omega (arith, (size_parts s is.slice_size).2);
      few = is.few;
      sizes = is.sizes;
      bytes = is.bytes;
      names = all_weaker (λ file. IsTrue (is_name file.0)) (λ file. list_any (λ b. b == 0) file.0 ≡ false) (λ file h. (name_parts file.0 h).1) files is.names;
      ids_once = is.ids_once;
    }

-- the index packets of files in this order
abbrev pub index_of : ℕ → List File → List Packet
index_of s files = index_packets s (map (record_of s) files)

-- n recovery packets of files in this order, from exponent e on
abbrev pub slices_of : ℕ → List File → ℕ → ℕ → List Packet
slices_of s files e n = recovery_packets s (main_id s (map (record_of s) files)) (all_slices s files) e n

-- the packets that a volume of files in this order is read as
pub record IsReadAs (s : ℕ) (files : List File) (bytes : List ℕ) : Type 0 where
  pub first : ℕ
  pub count : ℕ
  pub low : (k : ℕ) → k < count → first + k < 65536
  pub packets : accepted bytes ≡ index_of s files ++ slices_of s files first count

-- ---- written packets are read back

module _ (s : ℕ) (files : List File) (is : AreInputs s files) where
  empty_read : accepted [] ≡ []
  empty_read = none_short [] (omega arith)

  few_records : length (map (record_of s) files) < 2 ^ 32
  few_records = subst (λ n. n < 2 ^ 32) (sym (length-map files (record_of s))) is.few

  index_read : accepted (flat_map packet (index_of s files)) ≡ index_of s files ++ slices_of s files 0 0
  index_read = grind (arith, common_steps, append-nil, index_reads, few_records, records_fit, empty_read)

  slices_read : (e n : ℕ) → accepted (flat_map packet (slices_of s files e n)) ≡ slices_of s files e n
  slices_read e n = grind (arith, (size_parts s is.slice_size), (append-nil (flat_map packet (slices_of s files e n))), recovery_slices_read, length-md5, empty_read, (append-nil (slices_of s files e n)))

  volume_read : (f c i : ℕ) → f + c ≤ 65536 → IsReadAs s files (flat_map packet (index_of s files ++ slices_of s files (f + volumes_before i) (volume_size c i)))
  volume_read f c i small = grind (arith, flat_map-append, index_reads, few_records, records_fit, slices_read, min)

-- each volume of the files is read as its packets
pub volumes_read : (s : ℕ) (files : List File) → AreInputs s (in_id_order files) → (bytes : List ℕ) → IsVolume s files bytes → IsReadAs s (in_id_order files) bytes
volumes_read s files is bytes v = unfold volumes in
    let small = (leb-true (v.1 + v.2) 65536 (and_parts (nat_le v.2 65536 && nat_le v.1 65535) (nat_le (v.1 + v.2) 65536) v.3).1) in
    let first : IsReadAs s (in_id_order files) (flat_map packet (index_of s (in_id_order files))) =
    record { first = 0; count = 0; low = λ k l. absurd (omega (arith, l)); packets = index_read s (in_id_order files) is } in
    of_contained (IsReadAs s (in_id_order files)) (map (λ file. file.1) (volumes v.0 s v.1 v.2 files)) bytes
    (first, all-map (λ (file : File). IsReadAs s (in_id_order files) file.1) _ (λ file. file.1) (λ file h. h) _ (all-each _ _ (λ i. volume_read s (in_id_order files) is v.1 v.2 i small) (volume_numbers v.2))) v.4

-- ---- the contents of the packets

module _ (s : ℕ) (files : List File) where
  abbrev id : List ℕ
  id = main_id s (map (record_of s) files)

  -- a packet of the set with the body of one of the files' packets
  abbrev pub IsOurs : Packet → Type 0
  IsOurs p = (p.set_id ≡ id) × Says s files p.kind p.body

  -- packets of this kind for each file
  abbrev of_each : Kind → (FileRecord → List ℕ) → List File → List Packet
  of_each kind body some = map (λ file. packet_of id kind (body file)) (map (record_of s) some)

  each_ours : (kind : Kind) (body : FileRecord → List ℕ) → ((file : File) → Contains files file → Says s files kind (body (record_of s file))) → AllByRecursion IsOurs (of_each kind body files)
  each_ours kind body says = all-map (λ file. Says s files kind (body file)) IsOurs (λ file. packet_of id kind (body file)) (λ file h. (refl, h)) (map (record_of s) files) (all-map _ _ (record_of s) says files (all_contained files))

  index_ours : AllByRecursion IsOurs (index_of s files)
  index_ours = unfold index_packets in
      let main = packet_of id Main (main_bytes s (map (record_of s) files)) in
      let descs = of_each FileDesc desc_bytes files in
      let ifscs = of_each Ifsc ifsc_bytes files in
      all-append IsOurs ((main ∷ descs) ++ ifscs) (packet_of id Creator creator_bytes ∷ [])
      (all-append IsOurs (main ∷ descs) ifscs
      ((refl, refl), each_ours FileDesc desc_bytes (λ file i. (file, i, refl)))
      (each_ours Ifsc ifsc_bytes (λ file i. (file, i, refl))))
      ((refl, tt), tt)

  slices_ours : (e n : ℕ) → ((k : ℕ) → k < n → e + k < 65536) → AllByRecursion IsOurs (slices_of s files e n)
  slices_ours e zero low = tt
  slices_ours e (suc n) low =
      let here : e < 65536 = (let h = low 0 (omega arith) in omega (arith, h)) in
      ((refl, (e, here, refl)), slices_ours (e + 1) n (λ k l. let h = low (suc k) (omega (arith, l)) in omega (arith, h)))

  pub volume_ours : (bytes : List ℕ) → IsReadAs s files bytes → AllByRecursion IsOurs (accepted bytes)
  volume_ours bytes r = grind (arith, all-append, index_ours, slices_ours)
