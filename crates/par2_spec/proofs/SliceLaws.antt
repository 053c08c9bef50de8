-- The slices of files, file by file.
use Rattle.par2_spec.proofs.Common.{ℕ, ◌+◌, ◌<◌, ◌≡◌, sym, ap, ap₂, ◌∙◌, List, [], ◌∷◌, ◌++◌, length, get_or, append_assoc, append-nil, take, take_more, slices, Folder, bytes_of, all_slices, files_of}

slices_of_more : (s : ℕ) (folder : Folder) (names : List (List ℕ)) (name : List ℕ) → all_slices s (files_of folder (names ++ name ∷ [])) ≡ all_slices s (files_of folder names) ++ slices s (bytes_of folder name)
slices_of_more s folder [] name = append-nil (slices s (bytes_of folder name))
slices_of_more s folder (n ∷ names) name =
    ap (λ xs. slices s (bytes_of folder n) ++ xs) (slices_of_more s folder names name)
    ∙ sym (append_assoc (slices s (bytes_of folder n)) (all_slices s (files_of folder names)) (slices s (bytes_of folder name)))

pub files_push : (s : ℕ) (folder : Folder) (names : List (List ℕ)) (i : ℕ) (old all : List (List ℕ)) (bytes : List ℕ) → i < length names → bytes ≡ bytes_of folder (get_or names i [])
    → old ≡ all_slices s (files_of folder (take i names)) → all ≡ old ++ slices s bytes → all ≡ all_slices s (files_of folder (take (i + 1) names))
files_push s folder names i old all bytes h is so_far e =
    e ∙ ap₂ (λ a b. a ++ slices s b) so_far is ∙ sym (slices_of_more s folder (take i names) (get_or names i [])) ∙ ap (λ xs. all_slices s (files_of folder xs)) (sym (take_more names i [] h))
