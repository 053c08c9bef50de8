-- Lists that a loop appends, and the bytes of an index.
use Rattle.par2_inputs.proofs.Common.{◌≡◌, ℕ, ◌+◌, ◌*◌, ◌≤◌, ◌<◌, ap₂, append_assoc, map-append, map-range_with_len_more, zero-add, range_with_len, padded, slice_at, buffers_of, Bor, List, [], ◌∷◌, ◌++◌, length, map, get_or, take, drop, sym, ap, ◌∙◌, take_all, take_more, flat_map_more, flat_map, append-nil, flat_map-append, flat_map-map, packet, packet_of, main_id, main_bytes, desc_bytes, ifsc_bytes, creator_bytes, index_packets, Main, FileDesc, Ifsc, Creator, file_record_of, FileRecord}

pub appended_next : {X A : Type 0} (f : X → List A) (xs : List X) (i : ℕ) (x : X) (old out new : List A) → i < length xs → x ≡ get_or xs i x → out ≡ old ++ flat_map f (take i xs) → new ≡ out ++ f x
    → new ≡ old ++ flat_map f (take (i + 1) xs)
appended_next f xs i x old out new low is so_far step =
    step ∙ ap (λ o. o ++ f x) so_far ∙ flat_map_more f old (take i xs) x
    ∙ ap (λ ys. old ++ flat_map f ys) (ap (λ y. take i xs ++ y ∷ []) is ∙ sym (take_more xs i x low))

pub appended_all : {X A : Type 0} (f : X → List A) (xs : List X) (i : ℕ) (old out : List A) → length xs ≤ i → out ≡ old ++ flat_map f (take i xs) → out ≡ old ++ flat_map f xs
appended_all f xs i old out done so_far = so_far ∙ ap (λ ys. old ++ flat_map f ys) (take_all i xs done)

-- the slices of files, and one more slice of the next file
pub slices_push : (s j : ℕ) (bytes : List ℕ) (xs : List (Bor (List ℕ))) (v : Bor (List ℕ)) (before : List (List ℕ)) → map (padded s) (buffers_of xs) ≡ before ++ map (slice_at s bytes) (range_with_len 0 j)
    → v.now ≡ take s (drop (j * s) bytes) → map (padded s) (buffers_of (xs ++ v ∷ [])) ≡ before ++ map (slice_at s bytes) (range_with_len 0 (j + 1))
slices_push s j bytes xs v before so_far is =
    ap (map (padded s)) (map-append (λ (x : Bor (List ℕ)). x.now) xs (v ∷ []))
    ∙ map-append (padded s) (buffers_of xs) (v.now ∷ []) ∙ ap₂ (λ a b. a ++ padded s b ∷ []) so_far is
    ∙ append_assoc before (map (slice_at s bytes) (range_with_len 0 j)) (slice_at s bytes j ∷ [])
    ∙ ap (λ xs. before ++ xs) (sym (map-range_with_len_more (slice_at s bytes) 0 j j (zero-add j)))

-- the bytes of a first packet, two packets for each item, and a last packet
in_order : {A B C : Type 0} (f : B → List ℕ) (first last : B) (g h : A → B) (v : C → A) (xs : List C)
    → flat_map f (first ∷ map g (map v xs) ++ map h (map v xs) ++ last ∷ [])
    ≡ f first ++ flat_map (λ x. f (g (v x))) xs ++ flat_map (λ x. f (h (v x))) xs ++ f last
in_order f first last g h v xs = simp (flat_map-append, flat_map-map, append-nil)

pub index_bytes : (s : ℕ) (files : List FileRecord)
    → let records = map file_record_of files in
    let of_set = packet_of (main_id s records) in
    flat_map packet (index_packets s records)
    ≡ packet (of_set Main (main_bytes s records))
    ++ flat_map (λ file. packet (of_set FileDesc (desc_bytes (file_record_of file)))) files
    ++ flat_map (λ file. packet (of_set Ifsc (ifsc_bytes (file_record_of file)))) files
    ++ packet (of_set Creator creator_bytes)
unfolding index_packets
index_bytes s files =
    let records = map file_record_of files in
    let of_set = packet_of (main_id s records) in
    in_order packet (of_set Main (main_bytes s records)) (of_set Creator creator_bytes) (λ file. of_set FileDesc (desc_bytes file)) (λ file. of_set Ifsc (ifsc_bytes file)) file_record_of files
