-- A set whose packets are those of known files was made from them.
use Rattle.par2_laws.proofs.Common.{by_test, ◌≡◌, ℕ, ◌<◌, ◌^◌, false, List, [], ◌∷◌, ◌++◌, length, map, Some, refl, sym, ap, ◌∙◌, subst, arith, true, Option, None, inl, inr, ◌⊎◌, ◌&&◌, Ok, IsTrue, ◌==◌, nat_lt, filter_map, find, slice_get, option_map, option_and_then, if◌then◌else◌, flat_map, AllByRecursion, Contains, list_any, range_with_len, IsDistinct, length-map, recursion_from_All, All-contains_itself, same_Some, none-some, length-md5, Kind, Main, FileDesc, Ifsc, Recovery, Creator, Other, AreBytes, File, Folder, bytes_of, Packet, MainBody, DescBody, IfscBody, RecoveryBody, accepted, read_main, read_desc, read_ifsc, read_recovery, FileRecord, all_slices, main_bytes, desc_bytes, ifsc_bytes, recovery_bytes, id_of, record_of, packets_of, AreDescribed, is_read, IsOf, AreAllOf, all-append, of_contained, all-map, all-filter_map, found_one, all_unmap, all-passing, all-flat_map-map, bytes_eq, false≢true, and_parts, eqb-true, map-map, md5, Pair, pair_of, slice_count, slice_at, slices, Target, all_some, main_of, description_of, pairs_of, target_of, recovery_of, target_of_file, ParSet, MadeFrom, packets_with, read_set, other_par_names, set_of, all_weaker, all-filter, mapped, target_with, no_slices, all-entries, read_by, same_name, itself, main_reads, ifsc_reads, desc_reads, by_either, common_steps, recovery, all-each, all-both, zero, suc, ◌+◌, ◌*◌, ◌/◌, ◌%◌, bit_xor, fold, crc_step, crc_steps, crc_byte, IsPair, crc32, xor_lt, bytes-slice_at}
use Rattle.std.specs.FinMap as map_of

steps_small : (n c : ℕ) → c < 2 ^ 32 → crc_steps n c < 2 ^ 32
steps_small zero c h = h
steps_small (suc n) c h = steps_small n (crc_step c) (xor_lt 32 (c / 2) (c % 2 * 0xEDB88320) (omega (arith, h)) (omega arith))

fold_small : (bytes : List ℕ) (c : ℕ) → AreBytes bytes → c < 2 ^ 32 → fold crc_byte c bytes < 2 ^ 32
fold_small [] c h low = low
fold_small (b ∷ bytes) c h low = fold_small bytes (crc_byte c b) h.1 (steps_small 8 (bit_xor c b) (xor_lt 32 c b low (omega (arith, h.0))))

pairs_at : (s : ℕ) (content : List ℕ) (a n : ℕ) → AreBytes content → AllByRecursion IsPair (map pair_of (map (slice_at s content) (range_with_len a n)))
unfolding crc32
pairs_at s content a zero h = tt
pairs_at s content a (suc n) h = grind (arith, common_steps, length-md5, bytes-slice_at, xor_lt, fold_small, pairs_at s content (a + 1) n h)

-- the checksums of a file's slices
pub pairs_are : (s : ℕ) (bytes : List ℕ) → AreBytes bytes → AllByRecursion IsPair (map pair_of (slices s bytes))
pairs_are s bytes h = pairs_at s bytes 0 (slice_count s (length bytes)) h

-- ---- properties of each item

pub all_contained : {A : Type 0} (xs : List A) → AllByRecursion (Contains xs) xs
all_contained xs = recursion_from_All (Contains xs) xs (All-contains_itself xs)

-- ---- the packets of files

-- the body is that of one of the files' packets
abbrev pub Says : ℕ → List File → Kind → List ℕ → Type 0
Says s files Main body = body ≡ main_bytes s (map (record_of s) files)
Says s files FileDesc body = (file : File) × Contains files file × (body ≡ desc_bytes (record_of s file))
Says s files Ifsc body = (file : File) × Contains files file × (body ≡ ifsc_bytes (record_of s file))
Says s files Recovery body = (e : ℕ) × (e < 65536) × (body ≡ recovery_bytes e (recovery s (all_slices s files) e))
Says s files Creator body = Unit {0}
Says s files (Other bytes) body = Unit {0}

all_say : (s : ℕ) (files : List File) (e : ℕ) → e < 65536 → AllByRecursion (λ z. Says s files z.0 z.1) (packets_of s files (e ∷ []))
unfolding packets_of
all_say s files e small =
    let P = (λ (z : Kind × List ℕ). Says s files z.0 z.1) in
    let descs = map (λ (file : FileRecord). let z : Kind × List ℕ = (FileDesc, desc_bytes file) in z) (map (record_of s) files) in
    let ifscs = map (λ (file : FileRecord). let z : Kind × List ℕ = (Ifsc, ifsc_bytes file) in z) (map (record_of s) files) in
    let main : Kind × List ℕ = (Main, main_bytes s (map (record_of s) files)) in
    all-append P ((main ∷ descs) ++ ifscs) ((Recovery, recovery_bytes e (recovery s (all_slices s files) e)) ∷ [])
    (all-append P (main ∷ descs) ifscs
    (refl, each FileDesc desc_bytes (λ file i. (file, i, refl)))
    (each Ifsc ifsc_bytes (λ file i. (file, i, refl))))
    ((e, small, refl), tt)
  where
    each : (kind : Kind) (body : FileRecord → List ℕ) → ((file : File) → Contains files file → Says s files kind (body (record_of s file)))
        → AllByRecursion (λ z. Says s files z.0 z.1) (map (λ file. let z : Kind × List ℕ = (kind, body file) in z) (map (record_of s) files))
    each kind body says = all-map (λ file. Says s files kind (body file)) _ (λ file. (kind, body file)) (λ file h. h) (map (record_of s) files) (all-map _ _ (record_of s) says files (all_contained files))

-- a packet of the files has the body of one of their packets
pub packet_says : (s : ℕ) (files : List File) (p : Packet) → (IsTrue (is_read p.kind) → IsOf s files p) → Says s files p.kind p.body
packet_says s files p h = grind (arith, common_steps, of_contained, all_say)

-- ---- the contents that are read

unfoldable pub main_of_files : ℕ → List File → MainBody
main_of_files s files = record { slice_size = s; ids = map (λ file. file.id) (map (record_of s) files) }

unfoldable pub desc_of_file : ℕ → File → DescBody
desc_of_file s file =
    let r : FileRecord = record_of s file in
    record { id = r.id; md5 = r.md5; md5_16k = r.md5_16k; length = r.length; name = r.name }

unfoldable pub ifsc_of_file : ℕ → File → IfscBody
ifsc_of_file s file = record { id = (record_of s file).id; pairs = (record_of s file).pairs }

-- ---- each part is read back

-- a file that packets can describe
pub record IsDescribed (file : File) : Type 0 where
  pub size : length file.1 < 2 ^ 64
  pub bytes : AreBytes file.1
  pub name : list_any (λ b. b == 0) file.0 ≡ false

pub each_described : (s : ℕ) (files : List File) → AreDescribed s files → AllByRecursion IsDescribed files
each_described s files d =
    all-both (λ file. (length file.1 < 2 ^ 64) × AreBytes file.1) _ IsDescribed (λ file h k. record { size = h.0; bytes = h.1; name = k }) files
    (all-both _ _ _ (λ file h k. (h, k)) files d.sizes d.bytes) d.names

ids_sixteen : (s : ℕ) (files : List File) → AllByRecursion (λ file. length file.id ≡ 16) (map (record_of s) files)
ids_sixteen s files = unfold record_of in all-each (λ file. length file.id ≡ 16) (record_of s) (λ file. length-md5 _) files

pub main_written : (s : ℕ) (files : List File) → AreDescribed s files → read_main Main (main_bytes s (map (record_of s) files)) ≡ Some (main_of_files s files)
main_written s files d = unfold main_of_files in grind (arith, main_reads, length-map, ids_sixteen)

pub desc_written : (s : ℕ) (file : File) → IsDescribed file → read_desc FileDesc (desc_bytes (record_of s file)) ≡ Some (desc_of_file s file)
desc_written s file d = unfold record_of desc_of_file in desc_reads (record_of s file) (length-md5 _) (length-md5 _) (length-md5 _) d.size d.name

pub ifsc_written : (s : ℕ) (file : File) → IsDescribed file → read_ifsc Ifsc (ifsc_bytes (record_of s file)) ≡ Some (ifsc_of_file s file)
ifsc_written s file d = unfold record_of ifsc_of_file in ifsc_reads (record_of s file) (length-md5 _) (pairs_are s file.1 d.bytes)

pub main_said : (s : ℕ) (files : List File) → AreDescribed s files → (kind : Kind) (body : List ℕ) → Says s files kind body
    → (m : MainBody) → read_main kind body ≡ Some m → m ≡ main_of_files s files
unfolding read_main
main_said s files d Main body says m h = sym (same_Some (main_of_files s files) m (sym (ap (read_main Main) says ∙ main_written s files d) ∙ h))
main_said s files d kind body says m h = absurd (none-some m h)

-- this is the value of one of the files
abbrev pub IsOfOne : {B : Type 0} → (File → B) → List File → B → Type 0
IsOfOne of files x = (file : File) × Contains files file × (x ≡ of file)

pub desc_said : (s : ℕ) (files : List File) → AreDescribed s files → (kind : Kind) (body : List ℕ) → Says s files kind body
    → (x : DescBody) → read_desc kind body ≡ Some x → IsOfOne (desc_of_file s) files x
unfolding read_desc
desc_said s files d FileDesc body says x h = (says.0, says.1, let written = desc_written s says.0 (of_contained IsDescribed files says.0 (each_described s files d) says.1) in grind (arith, written, says.2))
desc_said s files d kind body says x h = absurd (none-some x h)

pub ifsc_said : (s : ℕ) (files : List File) → AreDescribed s files → (kind : Kind) (body : List ℕ) → Says s files kind body
    → (x : IfscBody) → read_ifsc kind body ≡ Some x → IsOfOne (ifsc_of_file s) files x
unfolding read_ifsc
ifsc_said s files d Ifsc body says x h = (says.0, says.1, let written = ifsc_written s says.0 (of_contained IsDescribed files says.0 (each_described s files d) says.1) in grind (arith, written, says.2))
ifsc_said s files d kind body says x h = absurd (none-some x h)

-- the recovery slice is the one of the files
abbrev pub IsTrueSlice : ℕ → List File → RecoveryBody → Type 0
IsTrueSlice s files r = r.bytes ≡ recovery s (all_slices s files) r.exponent

pub recovery_said : (s : ℕ) (files : List File) → (kind : Kind) (body : List ℕ) → Says s files kind body
    → (r : RecoveryBody) → read_recovery kind body ≡ Some r → IsTrueSlice s files r
recovery_said s files kind body says r h = unfold read_recovery in grind arith

-- ---- lists

first_one : {A : Type 0} (P : A → Type 0) (xs : List A) → AllByRecursion P xs → (x : A) → slice_get xs 0 ≡ Some x → P x
first_one P [] h x e = absurd (none-some x e)
first_one P (y ∷ xs) h x e = subst P (same_Some y x e) h.0

-- if each item can only have one value, the items that are there have it
all_there : {A B : Type 0} (g : A → Option B) (f : A → B) (xs : List A) → AllByRecursion (λ x. (y : B) → g x ≡ Some y → y ≡ f x) xs → (ys : List B) → all_some (map g xs) ≡ Some ys → ys ≡ map f xs
all_there g f [] h ys e = sym (same_Some [] ys e)
all_there g f (x ∷ xs) h ys e = let here = h.0 in grind (arith, here, all_there g f xs h.1)

-- ---- one file for each File ID

pub contained_cases : {A : Type 0} (y : A) (xs : List A) (x : A) → Contains (y ∷ xs) x → (y ≡ x) ⊎ Contains xs x
contained_cases {A = A} y xs x i = grind arith

one_by_id : (files : List File) → IsDistinct bytes_eq (map id_of files) → (a b : File) → Contains files a → Contains files b → id_of a ≡ id_of b → a ≡ b
unfolding IsDistinct
one_by_id [] d a b i j e = absurd (omega (arith, i.1))
one_by_id (x ∷ files) d a b i j e =
    let apart : (c : File) → Contains files c → id_of x ≡ id_of c → ⊥ = (λ c k same.
    let other = of_contained (λ y. bytes_eq (id_of x) (id_of y) ≡ false) files c (all_unmap (λ n. bytes_eq (id_of x) n ≡ false) id_of files d.0) k in
    false≢true (sym other ∙ subst (λ n. bytes_eq (id_of x) n ≡ true) same (itself (id_of x)))) in
    elim (contained_cases x files a i) as (λ _. a ≡ b) [
      | inl first ↦ by_either (contained_cases x files b j) (λ too. sym first ∙ too) (λ later. absurd (apart b later (ap id_of first ∙ e)))
      | inr there ↦ by_either (contained_cases x files b j)
          (λ too. absurd (apart a there (ap id_of too ∙ sym e)))
          (λ later. one_by_id files d.1 a b there later e)
    ]

-- ---- steps of reading a set

-- looking up the File IDs of a Main is looking up those of the files
pub by_ids : {B : Type 0} (look : List ℕ → B) (s : ℕ) (files : List File) → map look (main_of_files s files).ids ≡ map (λ file. look (id_of file)) files
unfolding main_of_files record_of
by_ids look s [] = refl
by_ids look s (file ∷ files) = ap (λ os. look (id_of file) ∷ os) (by_ids look s files)

-- ---- packets with the bodies of the files' packets

-- each packet has such a body
abbrev pub AllSay : ℕ → List File → List Packet → Type 0
AllSay s files packets = AllByRecursion (λ p. Says s files p.kind p.body) packets

module _ (s : ℕ) (files : List File) (d : AreDescribed s files) (packets : List Packet) (say : AllSay s files packets) where
  -- the Main, if there is one
  pub main_is : (id : List ℕ) (m : MainBody) → main_of id packets ≡ Some m → m ≡ main_of_files s files
  main_is id m e =
      first_one (λ x. x ≡ main_of_files s files) (filter_map read packets)
      (all-filter_map (λ p. Says s files p.kind p.body) (λ x. x ≡ main_of_files s files) read each packets say) m e
    where
      read : Packet → Option MainBody
      read p = if bytes_eq (md5 p.body) id then read_main p.kind p.body else None

      each : (p : Packet) → Says s files p.kind p.body → (x : MainBody) → read p ≡ Some x → x ≡ main_of_files s files
      each p says x h = by_test (bytes_eq (md5 p.body) id) (λ e. main_said s files d p.kind p.body says x (rw e at h)) (λ e. absurd (none-some x (rw e at h)))

  -- the description of a file, if there is one
  pub description_is : (file : File) → Contains files file → (x : DescBody) → description_of packets (id_of file) ≡ Some x → x ≡ desc_of_file s file
  description_is file i x e = unfold desc_of_file record_of in
      let found = found_one (IsOfOne (desc_of_file s) files) (λ c. bytes_eq c.id (id_of file)) (filter_map (λ p. read_desc p.kind p.body) packets)
      (all-filter_map (λ p. Says s files p.kind p.body) (IsOfOne (desc_of_file s) files) (λ p. read_desc p.kind p.body) (λ p says. desc_said s files d p.kind p.body says) packets say) x e in
      found.0.2 ∙ ap (desc_of_file s) (one_by_id files d.ids_once found.0.0 file found.0.1 i (ap (λ c. c.id) (sym found.0.2) ∙ same_name x.id (id_of file) found.1))

  -- its checksums, if they are there
  pub pairs_are_its : (file : File) → Contains files file → (n : ℕ) (ps : List Pair) → pairs_of packets (id_of file) n ≡ Some ps → ps ≡ (record_of s file).pairs
  pairs_are_its file i n ps e = unfold ifsc_of_file record_of in
      let got = mapped (λ (c : IfscBody). c.pairs) (find (λ c. bytes_eq c.id (id_of file) && length c.pairs == n) (filter_map (λ p. read_ifsc p.kind p.body) packets)) ps e in
      let found = found_one (IsOfOne (ifsc_of_file s) files) (λ c. bytes_eq c.id (id_of file) && length c.pairs == n) (filter_map (λ p. read_ifsc p.kind p.body) packets)
      (all-filter_map (λ p. Says s files p.kind p.body) (IsOfOne (ifsc_of_file s) files) (λ p. read_ifsc p.kind p.body) (λ p says. ifsc_said s files d p.kind p.body says) packets say) got.0 got.1 in
      let named : id_of found.0.0 ≡ id_of file = ap (λ c. c.id) (sym found.0.2) ∙ same_name got.0.id (id_of file) (and_parts (bytes_eq got.0.id (id_of file)) (length got.0.pairs == n) found.1).0 in
      sym got.2 ∙ ap (λ c. c.pairs) (found.0.2 ∙ ap (ifsc_of_file s) (one_by_id files d.ids_once found.0.0 file found.0.1 i named))

  -- the target of a file
  pub target_is : (file : File) → Contains files file → (t : Target) → target_of packets s (desc_of_file s file) ≡ Some t → t ≡ target_of_file s file
  unfolding desc_of_file record_of
  target_is file i t e =
      let got = mapped (target_with (desc_of_file s file)) (if (length file.1) == 0 then Some [] else pairs_of packets (id_of file) (slice_count s (length file.1))) t e in
      sym got.2 ∙ ap (target_with (desc_of_file s file)) (its got.0 got.1)
    where
      its : (ps : List Pair) → (if length file.1 == 0 then Some [] else pairs_of packets (id_of file) (slice_count s (length file.1))) ≡ Some ps → ps ≡ (record_of s file).pairs
      its ps k = by_test (length file.1 == 0)
          (λ z. sym (same_Some [] ps (rw z at k)) ∙ sym (ap (λ n. map pair_of (map (slice_at s file.1) (range_with_len 0 n))) (ap (slice_count s) (eqb-true (length file.1) 0 z) ∙ no_slices s)))
          (λ z. pairs_are_its file i (slice_count s (length file.1)) ps (rw z at k))

  -- the descriptions of all files
  pub descriptions_are : (ds : List DescBody) → all_some (map (description_of packets) (main_of_files s files).ids) ≡ Some ds → ds ≡ map (desc_of_file s) files
  descriptions_are ds e =
      all_there (λ file. description_of packets (id_of file)) (desc_of_file s) files (all_weaker (Contains files) (λ file. (x : DescBody) → description_of packets (id_of file) ≡ Some x → x ≡ desc_of_file s file) description_is files (all_contained files)) ds
      (sym (ap all_some (by_ids (description_of packets) s files)) ∙ e)

  pub targets_are : (ts : List Target) → all_some (map (target_of packets s) (map (desc_of_file s) files)) ≡ Some ts → ts ≡ map (target_of_file s) files
  targets_are ts e =
      all_there (λ file. target_of packets s (desc_of_file s file)) (target_of_file s) files (all_weaker (Contains files) (λ file. (t : Target) → target_of packets s (desc_of_file s file) ≡ Some t → t ≡ target_of_file s file) target_is files (all_contained files)) ts
      (sym (ap all_some (map-map (target_of packets s) (desc_of_file s) files)) ∙ e)

  -- each recovery slice is the one of the files
  pub recovery_is : AllByRecursion (λ r. r.1 ≡ recovery s (all_slices s files) r.0) (map_of.entries (recovery_of packets s))
  recovery_is =
      all-entries (λ r. r.1 ≡ recovery s (all_slices s files) r.0) _
      (all-map (IsTrueSlice s files) (λ r. r.1 ≡ recovery s (all_slices s files) r.0) (λ r. (r.exponent, r.bytes)) (λ r h. h) _
      (all-filter (IsTrueSlice s files) (λ r. nat_lt r.exponent 65536 && length r.bytes == s) (filter_map (λ p. read_recovery p.kind p.body) packets)
      (all-filter_map (λ p. Says s files p.kind p.body) (IsTrueSlice s files) (λ p. read_recovery p.kind p.body) (λ p says. recovery_said s files p.kind p.body says) packets say)))

-- the remaining properties of a set that was made from these files
abbrev IsRunResult : ℕ → List File → ParSet → Type 0
IsRunResult s files set =
    (set.slice_size ≡ s) × (set.targets ≡ map (target_of_file s) files)
    × AllByRecursion (λ r. r.1 ≡ recovery s (all_slices s files) r.0) (map_of.entries set.recovery)

-- a set that can be read, if all packets with its Recovery Set ID have bodies of the files' packets
reported : (base : List ℕ) (others : List (List ℕ)) (set : ParSet) (s : ℕ) (files : List File) (d : AreDescribed s files)
    → AllSay s files (packets_with set.id (flat_map accepted (base ∷ others))) → read_set base others ≡ Ok set → IsRunResult s files set
reported base others set s files d say h = unfold main_of_files in
    let r = read_by base others set h in
    let packets = packets_with r.id (flat_map accepted (base ∷ others)) in
    let all : AllSay s files packets = subst (λ x. AllSay s files (packets_with x (flat_map accepted (base ∷ others)))) (ap (λ p. p.id) (sym r.made)) say in
    let same_main : r.main ≡ main_of_files s files = main_is s files d packets all r.id r.main r.main_there in
    let same_size : r.main.slice_size ≡ s = ap (λ m. m.slice_size) same_main in
    let same_ds : r.described ≡ map (desc_of_file s) files =
    descriptions_are s files d packets all r.described (ap (λ m. all_some (map (description_of packets) m.ids)) (sym same_main) ∙ r.described_there) in
    let same_ts : r.targets ≡ map (target_of_file s) files =
    targets_are s files d packets all r.targets
    (sym (ap (λ k. all_some (map (target_of packets k) r.described)) same_size ∙ ap (λ ds. all_some (map (target_of packets s) ds)) same_ds) ∙ r.targets_there) in
    subst (IsRunResult s files) r.made (
      same_size,
      same_ts,
      subst (λ k. AllByRecursion (λ e. e.1 ≡ recovery s (all_slices s files) e.0) (map_of.entries (recovery_of packets k))) (sym same_size) (recovery_is s files d packets all),
    )

-- ---- the packets of a folder

-- a packet with this Recovery Set ID has the body of one of the files' packets
abbrev pub SaysIfOurs : List ℕ → ℕ → List File → Packet → Type 0
SaysIfOurs id s files p = p.set_id ≡ id → Says s files p.kind p.body

kept : (id : List ℕ) (s : ℕ) (files : List File) (ps : List Packet) → AllByRecursion (SaysIfOurs id s files) ps → AllSay s files (packets_with id ps)
kept id s files ps h = all-passing (SaysIfOurs id s files) (λ p. Says s files p.kind p.body) (λ p. bytes_eq p.set_id id) (λ p says e. says (same_name p.set_id id e)) ps h

-- if this holds for the packets of each file, it holds for all together
pub folder_says : (folder : Folder) (base id : List ℕ) (s : ℕ) (files : List File)
    → AllByRecursion (λ name. AllByRecursion (SaysIfOurs id s files) (accepted (bytes_of folder name))) (base ∷ other_par_names folder base)
    → AllSay s files (packets_with id (flat_map accepted (bytes_of folder base ∷ map (bytes_of folder) (other_par_names folder base))))
folder_says folder base id s files h = kept id s files _ (all-flat_map-map (SaysIfOurs id s files) accepted (bytes_of folder) (base ∷ other_par_names folder base) h)

pub made_if_said : (folder : Folder) (base : List ℕ) (set : ParSet) (s : ℕ) (files : List File) → set_of folder base ≡ Ok set → AreDescribed s files
    → AllByRecursion (λ name. AllByRecursion (SaysIfOurs set.id s files) (accepted (bytes_of folder name))) (base ∷ other_par_names folder base) → MadeFrom folder base files s
made_if_said folder base set s files reads d all = unfold set_of in
    let is = reported (bytes_of folder base) (map (bytes_of folder) (other_par_names folder base)) set s files d (folder_says folder base set.id s files all) reads in
    record { set = set; reads = reads; slice_size = is.0; targets = is.1; recovered = is.2 }

pub made_from : (folder : Folder) (base : List ℕ) (set : ParSet) (s : ℕ) (files : List File) → set_of folder base ≡ Ok set → AreDescribed s files
    → AreAllOf folder base set.id s files → MadeFrom folder base files s
made_from folder base set s files reads d all = search (arith, made_if_said, all_weaker, packet_says)
