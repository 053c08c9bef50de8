-- The records of files, and their File IDs.
use Rattle.par2_inputs.proofs.Common.{◌≡◌, ℕ, List, length, map, sym, ap, ◌∙◌, subst, Some, None, ◌==◌, IsDistinct, bytes_eq, not_from_true, not_from_false, eqb-true, eq-eqb, false_from_ne_true, length-map, map-map, fault_where, distinct, File, id_of, record_of, DuplicateId, AreDistinct, distinct_from_std, std_from_distinct, distinct_same, distinct_by_length, file_record_of, ids_fault, AreRecords, ◌+◌, ◌<◌, refl, ap₂, [], ◌∷◌, ◌++◌, get_or, take, string_bytes, get_or-map, map_more, map-append, Folder, Input, in_id_order, input_file, files_of, FileRecord, IsPermutation, IsStrictlyIncreasing, md5, record_id_number, w128, from_le_bytes, rising_records, files_of_ordered}
use Rattle.par2_spec.specs.Volumes as volumes

-- the identifiers in the records are those of the files
pub ids_are : (s : ℕ) (files : List File) (records : List FileRecord) → AreRecords s files records → map (λ (file : FileRecord). file.id) records ≡ map id_of files
unfolding record_of
ids_are s files records are =
    sym (map-map (λ (file : volumes.FileRecord). file.id) file_record_of records) ∙ ap (map (λ (file : volumes.FileRecord). file.id)) are
    ∙ map-map (λ (file : volumes.FileRecord). file.id) (record_of s) files

module _ (s : ℕ) (files : List File) (records : List FileRecord) (are : AreRecords s files records) where
  pub ids_accepted : IsDistinct bytes_eq (map (λ (file : FileRecord). file.id) records) → ids_fault files ≡ None
  unfolding ids_fault
  ids_accepted h =
      let once : AreDistinct (map id_of files) = distinct_from_std (map id_of files) (subst (IsDistinct bytes_eq) (ids_are s files records are) h) in
      let size : length (distinct (map id_of files)) ≡ length files = ap length (distinct_same (map id_of files) once) ∙ length-map files id_of in
      ap (λ b. fault_where b DuplicateId) (not_from_true (length (distinct (map id_of files)) == length files) (eq-eqb (length (distinct (map id_of files))) (length files) size))

  pub ids_refused : (IsDistinct bytes_eq (map (λ (file : FileRecord). file.id) records) → ⊥) → ids_fault files ≡ Some DuplicateId
  unfolding ids_fault
  ids_refused h =
      ap (λ b. fault_where b DuplicateId) (not_from_false (length (distinct (map id_of files)) == length files) (false_from_ne_true (length (distinct (map id_of files)) == length files) (λ e.
      let size : length (distinct (map id_of files)) ≡ length (map id_of files) = eqb-true (length (distinct (map id_of files))) (length files) e ∙ sym (length-map files id_of) in
      h (subst (IsDistinct bytes_eq) (sym (ids_are s files records are)) (std_from_distinct (map id_of files) (distinct_by_length (map id_of files) size))))))

-- one more record, that of the next input
pub record_push : (s : ℕ) (inputs : List Input) (i : ℕ) (input : Input) (xs : List FileRecord) (x : FileRecord) → i < length inputs → input ≡ get_or inputs i input → AreRecords s (map input_file (take i inputs)) xs
    → file_record_of x ≡ record_of s (input_file input) → AreRecords s (map input_file (take (i + 1) inputs)) (xs ++ x ∷ [])
record_push s inputs i input xs x low at so_far is =
    map-append file_record_of xs (x ∷ []) ∙ ap₂ (λ rs r. rs ++ r ∷ []) so_far (is ∙ ap (λ (z : Input). record_of s (input_file z)) at)
    ∙ sym (ap (map (record_of s)) (map_more input_file inputs i input low) ∙ map-append (record_of s) (map input_file (take i inputs)) (input_file (get_or inputs i input) ∷ []))

-- the MD5 of an input
pub digest_at : (inputs : List Input) (md5s : List (List ℕ)) (i : ℕ) (d : List ℕ) (input : Input) → md5s ≡ map md5 (map (λ (input : Input). input.bytes.now) inputs) → i < length inputs → input ≡ get_or inputs i input
    → get_or md5s i d ≡ md5 input.bytes.now
digest_at inputs md5s i d input is low at =
    ap (λ (l : List (List ℕ)). get_or l i d) (is ∙ map-map md5 (λ (input : Input). input.bytes.now) inputs) ∙ get_or-map (λ (input : Input). md5 input.bytes.now) inputs i input d low
    ∙ ap (λ (z : Input). md5 z.bytes.now) (sym at)

-- records that rise by their File IDs are those of the files in order
pub in_order : (s : ℕ) (files : List File) (xs : List FileRecord) → IsPermutation (map (record_of s) files) (map file_record_of xs) → IsStrictlyIncreasing (map record_id_number xs)
    → map file_record_of xs ≡ map (record_of s) (in_id_order files)
in_order s files xs moved rising =
    rising_records s files (map file_record_of xs) moved
    (subst IsStrictlyIncreasing (sym (map-map (λ (file : volumes.FileRecord). from_le_bytes w128 file.id) file_record_of xs)) rising)

names_of_records : (s : ℕ) (files : List File) → map (λ (file : volumes.FileRecord). file.name) (map (record_of s) files) ≡ map (λ (file : File). file.0) files
unfolding record_of
names_of_records s [] = refl
names_of_records s (file ∷ files) = ap (λ names. file.0 ∷ names) (names_of_records s files)

-- and the files of the records' names are the files in order
pub files_of_records : (s : ℕ) (folder : Folder) (names : List (List ℕ)) (xs : List FileRecord) → map file_record_of xs ≡ map (record_of s) (in_id_order (files_of folder names))
    → files_of folder (map (λ (file : FileRecord). string_bytes file.name) xs) ≡ in_id_order (files_of folder names)
files_of_records s folder names xs e =
    ap (files_of folder) (sym (map-map (λ (file : volumes.FileRecord). file.name) file_record_of xs) ∙ ap (map (λ (file : volumes.FileRecord). file.name)) e ∙ names_of_records s (in_id_order (files_of folder names)))
    ∙ files_of_ordered folder names
