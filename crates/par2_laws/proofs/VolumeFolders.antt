-- A folder of volumes has the set that was made from their files.
use Rattle.par2_laws.proofs.Common.{◌≡◌, ℕ, suc, ◌<◌, Bool, true, false, cond, ◌&&◌, List, [], ◌∷◌, ◌++◌, length, map, Option, Some, None, refl, sym, ap, ◌∙◌, subst, inl, inr, arith, ◌⊎◌, append_assoc, Ok, ◌==◌, filter, filter_map, find, slice_get, option_map, flat_map, sum_by, AllByRecursion, Contains, slice_index_or, bytes_eq, false≢true, and_from, eq-eqb, le-leb, length-map, Contains-append_left, Contains-append_right, same_Some, map-map, Kind, Main, FileDesc, Ifsc, Creator, slice_count, File, Folder, bytes_of, Packet, IfscBody, read_desc, read_ifsc, accepted, DescBody, FileRecord, id_of, packet_of, main_id, main_bytes, desc_bytes, ifsc_bytes, creator_bytes, in_id_order, record_of, index_packets, packets_with, main_of, description_of, pairs_of, target_of, target_of_file, all_some, ParSet, MadeFrom, are_in_profile, other_par_names, read_set, set_of, AreDescribed, all_weaker, test_from_all, itself, distinct_same, distinct_from_std, contained_first, contained_later, of_contained, all-map, target_with, set_with, sum_by-cons, is_name, AreInputs, IsVolume, set_id_of, IsOfOthers, HoldsVolumes, moved-ordered, by_either, common_steps}
use Rattle.par2_laws.proofs.SetsOfFiles.{all_contained, IsDescribed, each_described, main_of_files, desc_of_file, ifsc_of_file, main_written, desc_written, ifsc_written, AllSay, contained_cases, by_ids, description_is, pairs_are_its, target_is, SaysIfOurs, folder_says, made_if_said}
use Rattle.par2_laws.proofs.VolumePackets.{pairs_count, index_of, moved, described, slices_of, IsReadAs, volumes_read, IsOurs, volume_ours}

-- ---- one item of a list

index_map : {A B : Type 0} (g : A → B) (xs : List A) (k : ℕ) (x : A) → slice_index_or (map g xs) k (g x) ≡ g (slice_index_or xs k x)
index_map g (y ∷ xs) (suc k) x = index_map g xs k x
index_map g xs k x = refl

contained_map : {A B : Type 0} (g : A → B) (xs : List A) (x : A) → Contains xs x → Contains (map g xs) (g x)
contained_map g xs x i = (i.0, subst (λ n. i.0 < n) (sym (length-map xs g)) i.1, index_map g xs i.0 x ∙ ap g i.2)

contained_filter : {A : Type 0} (test : A → Bool) (xs : List A) (x : A) → Contains xs x → test x ≡ true → Contains (filter test xs) x
contained_filter test [] x i t = absurd (omega (arith, i.1))
contained_filter {A = A} test (y ∷ xs) x i t = by_either (contained_cases y xs x i)
    (λ first. subst (λ b. Contains (cond b (y ∷ filter test xs) (filter test xs)) x) (sym (ap test first ∙ t)) (subst (Contains (y ∷ filter test xs)) first (contained_first y (filter test xs))))
    (λ later. more (test y) (contained_filter test xs x later t))
  where
    more : (b : Bool) → Contains (filter test xs) x → Contains (cond b (y ∷ filter test xs) (filter test xs)) x
    more true k = contained_later y (filter test xs) x k
    more false k = k

-- ---- searches that succeed

none_pass : {A : Type 0} (test : A → Bool) (xs : List A) → find test xs ≡ None → AllByRecursion (λ y. test y ≡ false) xs
none_pass test [] e = tt
none_pass {A = A} test (x ∷ xs) e = grind (arith, false≢true, none_pass test xs)

read_from : {A B : Type 0} (read : A → Option B) (P : B → Type 0) (xs : List A) → AllByRecursion P (filter_map read xs) → AllByRecursion (λ x. (y : B) → read x ≡ Some y → P y) xs
read_from read P [] h = tt
read_from {B = B} read P (x ∷ xs) h = grind (arith, false≢true, same_Some, read_from read P xs)

some_found : {A B : Type 0} (read : A → Option B) (test : B → Bool) (xs : List A) (x : A) (y : B) → Contains xs x → read x ≡ Some y → test y ≡ true → (z : B) × (find test (filter_map read xs) ≡ Some z)
some_found {B = B} read test xs x y i e t = step (find test (filter_map read xs)) refl
  where
    step : (o : Option B) → find test (filter_map read xs) ≡ o → (z : B) × (find test (filter_map read xs) ≡ Some z)
    step (Some z) f = (z, f)
    step None f = absurd (false≢true (sym (of_contained (λ w. (v : B) → read w ≡ Some v → test v ≡ false) xs x (read_from read (λ v. test v ≡ false) xs (none_pass test (filter_map read xs) f)) i y e) ∙ t))

-- if all items are there, `all_some` returns them
all_are : {A B : Type 0} (g : A → Option B) (f : A → B) (xs : List A) → AllByRecursion (λ x. g x ≡ Some (f x)) xs → all_some (map g xs) ≡ Some (map f xs)
all_are g f [] h = refl
all_are g f (x ∷ xs) h = grind (arith, all_are g f xs h.1)

-- ---- the packets of an index

module _ (s : ℕ) (files : List File) (d : AreDescribed s files) (tail : List Packet) where
  abbrev id : List ℕ
  id = main_id s (map (record_of s) files)

  -- the packets of the set, those of the index first
  abbrev pub packets : List Packet
  packets = packets_with id (index_of s files ++ tail)

  pub main_there : main_of id packets ≡ Some (main_of_files s files)
  main_there = unfold index_packets in grind (arith, main_of_files, itself, main_written)

  of_index : (p : Packet) → Contains (index_of s files) p → p.set_id ≡ id → Contains packets p
  of_index p i own = grind (arith, common_steps, contained_filter, index_of, itself)

  abbrev of_each : Kind → (FileRecord → List ℕ) → List Packet
  of_each kind body = map (λ file. packet_of id kind (body file)) (map (record_of s) files)

  among_each : (kind : Kind) (body : FileRecord → List ℕ) (file : File) → Contains files file → Contains (of_each kind body) (packet_of id kind (body (record_of s file)))
  among_each kind body file i = contained_map (λ (r : FileRecord). packet_of id kind (body r)) (map (record_of s) files) (record_of s file) (contained_map (record_of s) files file i)

  -- the packets of the files are among them
  is_there : (p : Packet) → Contains (of_each FileDesc desc_bytes) p ⊎ Contains (of_each Ifsc ifsc_bytes) p → p.set_id ≡ id → Contains packets p
  is_there p i own = unfold index_packets in
      let main = packet_of id Main (main_bytes s (map (record_of s) files)) in
      let descs = main ∷ of_each FileDesc desc_bytes in
      let ifscs = of_each Ifsc ifsc_bytes in
      of_index p (Contains-append_left (descs ++ ifscs) (packet_of id Creator creator_bytes ∷ []) p (by_either i
      (λ desc. Contains-append_left descs ifscs p (contained_later main (of_each FileDesc desc_bytes) p desc))
      (λ ifsc. Contains-append_right descs ifscs p ifsc))) own

  is_described : (file : File) → Contains files file → IsDescribed file
  is_described file i = of_contained IsDescribed files file (each_described s files d) i

  -- if all packets have bodies of the files' packets, each part is found
  module _ (say : AllSay s files packets) where
    description_found : (file : File) → Contains files file → description_of packets (id_of file) ≡ Some (desc_of_file s file)
    description_found file i = unfold desc_of_file record_of in
        let found = some_found (λ (p : Packet). read_desc p.kind p.body) (λ x. bytes_eq x.id (id_of file)) packets (packet_of id FileDesc (desc_bytes (record_of s file))) (desc_of_file s file)
        (is_there _ (inl (among_each FileDesc desc_bytes file i)) refl) (desc_written s file (is_described file i)) (itself (id_of file)) in
        found.1 ∙ ap (λ x. Some x) (description_is s files d packets say file i found.0 found.1)

    pairs_found : (file : File) → Contains files file → pairs_of packets (id_of file) (slice_count s (length file.1)) ≡ Some (record_of s file).pairs
    pairs_found file i = unfold ifsc_of_file record_of in
        let n = slice_count s (length file.1) in
        let found = some_found (λ (p : Packet). read_ifsc p.kind p.body) (λ x. bytes_eq x.id (id_of file) && length x.pairs == n) packets (packet_of id Ifsc (ifsc_bytes (record_of s file))) (ifsc_of_file s file)
        (is_there _ (inr (among_each Ifsc ifsc_bytes file i)) refl) (ifsc_written s file (is_described file i)) (and_from _ _ (itself (id_of file)) (eq-eqb _ n (pairs_count s file.1))) in
        let these = ap (option_map (λ (c : IfscBody). c.pairs)) found.1 in
        these ∙ ap (λ ps. Some ps) (pairs_are_its s files d packets say file i n found.0.pairs these)

    target_found : (file : File) → Contains files file → target_of packets s (desc_of_file s file) ≡ Some (target_of_file s file)
    target_found file i = unfold desc_of_file record_of in grind (arith, common_steps, target_with, desc_of_file, target_is, pairs_found)

    pub descriptions_found : all_some (map (description_of packets) (main_of_files s files).ids) ≡ Some (map (desc_of_file s) files)
    descriptions_found =
        ap all_some (by_ids (description_of packets) s files)
        ∙ all_are (λ file. description_of packets (id_of file)) (desc_of_file s) files
        (all_weaker (Contains files) (λ file. description_of packets (id_of file) ≡ Some (desc_of_file s file)) description_found files (all_contained files))

    pub targets_found : all_some (map (target_of packets s) (map (desc_of_file s) files)) ≡ Some (map (target_of_file s) files)
    targets_found =
        ap all_some (map-map (target_of packets s) (desc_of_file s) files)
        ∙ all_are (λ file. target_of packets s (desc_of_file s file)) (target_of_file s) files
        (all_weaker (Contains files) (λ file. target_of packets s (desc_of_file s file) ≡ Some (target_of_file s file)) target_found files (all_contained files))

-- ---- the descriptions are in the profile

are_names : (s : ℕ) (files : List File) → AllByRecursion (λ file. is_name file.0 ≡ true) files → AllByRecursion (λ (x : DescBody). is_name x.name ≡ true) (map (desc_of_file s) files)
are_names s files h = unfold desc_of_file record_of in all-map (λ file. is_name file.0 ≡ true) (λ (x : DescBody). is_name x.name ≡ true) (desc_of_file s) (λ file k. k) files h

count_described : (s : ℕ) (files : List File) → sum_by (λ (x : DescBody). slice_count s x.length) (map (desc_of_file s) files) ≡ sum_by (λ file. slice_count s (length file.1)) files
unfolding desc_of_file record_of
count_described s [] = refl
count_described s (file ∷ files) = search (arith, sum_by-cons, desc_of_file, count_described s files)

in_profile : (s : ℕ) (files : List File) → AreInputs s files → are_in_profile s (map (desc_of_file s) files) ≡ true
in_profile s files is = unfold desc_of_file record_of in grind (arith, desc_of_file, distinct_same, distinct_from_std, length-map, and_from, le-leb, count_described, test_from_all, are_names, eq-eqb, map-map)

-- ---- the base is read

-- the set of files in this order, read from these packets
abbrev set_read : ℕ → List File → List Packet → ParSet
set_read s files packets = set_with (main_id s (map (record_of s) files)) packets s (map (target_of_file s) files)

base_reads : (s : ℕ) (files : List File) → AreInputs s files → (base : List ℕ) (others : List (List ℕ)) → IsReadAs s files base
    → AllSay s files (packets_with (main_id s (map (record_of s) files)) (flat_map accepted (base ∷ others)))
    → read_set base others ≡ Ok (set_read s files (packets_with (main_id s (map (record_of s) files)) (flat_map accepted (base ∷ others))))
base_reads s files is base others r say = unfold read_set index_packets main_of_files in
    let id = main_id s (map (record_of s) files) in
    let d = described s files is in
    let tail = slices_of s files r.first r.count ++ flat_map accepted others in
    let all = packets_with id (flat_map accepted (base ∷ others)) in
    let same : all ≡ packets_with id (index_of s files ++ tail) = grind (arith, r.packets, (append_assoc (index_of s files) (slices_of s files r.first r.count) (flat_map accepted others))) in
    let said = subst (AllSay s files) same say in
    let first : slice_get (accepted base) 0 ≡ Some (packet_of id Main (main_bytes s (map (record_of s) files))) = ap (λ ps. slice_get ps 0) r.packets in
    grind (arith, first, same, (main_there s files d tail), is.slice_size, (descriptions_found s files d tail said), (in_profile s files is), (targets_found s files d tail said))

-- ---- a folder of volumes

module _ (folder : Folder) (base : List ℕ) (s : ℕ) (files : List File) (is : AreInputs s files) (holds : HoldsVolumes folder base s files) where
  abbrev ordered : List File
  ordered = in_id_order files

  abbrev their_id : List ℕ
  their_id = set_id_of s files

  inputs : AreInputs s ordered
  inputs = moved s files ordered (moved-ordered files) is

  volume_says : (bytes : List ℕ) → IsVolume s files bytes → AllByRecursion (SaysIfOurs their_id s ordered) (accepted bytes)
  volume_says bytes v = all_weaker (IsOurs s ordered) (SaysIfOurs their_id s ordered) (λ p ours own. ours.1) (accepted bytes) (volume_ours s ordered bytes (volumes_read s files inputs bytes v))

  each_says : (bytes : List ℕ) → IsVolume s files bytes ⊎ IsOfOthers their_id bytes → AllByRecursion (SaysIfOurs their_id s ordered) (accepted bytes)
  each_says bytes (inl v) = volume_says bytes v
  each_says bytes (inr h) = grind (arith, all_weaker, false≢true, itself)

  all_say : AllByRecursion (λ name. AllByRecursion (SaysIfOurs their_id s ordered) (accepted (bytes_of folder name))) (base ∷ other_par_names folder base)
  all_say = grind (arith, volume_says, all_weaker, each_says)

  pub set_made : MadeFrom folder base ordered s
  set_made = unfold set_of in
      let buffers = map (bytes_of folder) (other_par_names folder base) in
      made_if_said folder base (set_read s ordered (packets_with their_id (flat_map accepted (bytes_of folder base ∷ buffers)))) s ordered
      (base_reads s ordered inputs (bytes_of folder base) buffers (volumes_read s files inputs (bytes_of folder base) holds.of_base) (folder_says folder base their_id s ordered all_say))
      (described s ordered inputs) all_say
