-- For the prover: one-to-one codes of the values of models, which contracts need to speak of them.
use Rattle.std.specs.Prelude.{◌≡◌, ℕ, zero, suc, List, []}
use Rattle.std.specs.Prelude.{refl}
use Rattle.std.specs.Coded.{Coded, code_by, coded×, coded_ℕ, coded_list}
use Rattle.std.specs.FinMap as map_of
use Rattle.par2_spec.specs.Folders.{Folder}
use Rattle.par2_spec.specs.Changes.{Change, Write, Replace, Rename, Remove, FolderState}
use Rattle.par2_spec.specs.Output.{Step, Writes, Replaces, Renames, Removes}
use Rattle.par2_spec.specs.Sessions.{KeptSession}

-- folders
abbrev pub folder_code : Coded Folder
folder_code = map_of.code (coded_list coded_ℕ) (coded_list coded_ℕ)

-- folders in memory
abbrev pub folder_state_code : Coded FolderState
folder_state_code =
    code_by (Folder × ℕ) (coded× folder_code coded_ℕ) (λ e. (e.files, e.vacant)) (λ p. record { files = p.0; vacant = p.1 }) (λ _. refl)

-- a change as its kind and its two lists of bytes
abbrev pub change_number : Change → ℕ × (List ℕ × List ℕ)
change_number (Write name bytes) = (0, (name, bytes))
change_number (Replace name bytes) = (1, (name, bytes))
change_number (Rename from to) = (2, (from, to))
change_number (Remove name) = (3, (name, []))

-- the change of this kind with these lists
abbrev pub numbered_change : ℕ → List ℕ → List ℕ → Change
numbered_change zero a b = Write a b
numbered_change (suc zero) a b = Replace a b
numbered_change (suc (suc zero)) a b = Rename a b
numbered_change (suc (suc (suc n))) a b = Remove a

-- `numbered_change` inverts `change_number`
pub change_number_back : (c : Change) → numbered_change (change_number c).0 (change_number c).1.0 (change_number c).1.1 ≡ c
change_number_back (Write name bytes) = refl
change_number_back (Replace name bytes) = refl
change_number_back (Rename from to) = refl
change_number_back (Remove name) = refl

-- changes
abbrev pub change_code : Coded Change
change_code =
    code_by (ℕ × (List ℕ × List ℕ)) (coded× coded_ℕ (coded× (coded_list coded_ℕ) (coded_list coded_ℕ))) change_number
    (λ p. numbered_change p.0 p.1.0 p.1.1) change_number_back

-- a step as its kind and its two names
abbrev pub step_number : Step → ℕ × (List ℕ × List ℕ)
step_number (Writes name) = (0, (name, []))
step_number (Replaces name) = (1, (name, []))
step_number (Renames from to) = (2, (from, to))
step_number (Removes name) = (3, (name, []))

-- the step of this kind with these names
abbrev pub numbered_step : ℕ → List ℕ → List ℕ → Step
numbered_step zero a b = Writes a
numbered_step (suc zero) a b = Replaces a
numbered_step (suc (suc zero)) a b = Renames a b
numbered_step (suc (suc (suc n))) a b = Removes a

-- `numbered_step` inverts `step_number`
pub step_number_back : (s : Step) → numbered_step (step_number s).0 (step_number s).1.0 (step_number s).1.1 ≡ s
step_number_back (Writes name) = refl
step_number_back (Replaces name) = refl
step_number_back (Renames from to) = refl
step_number_back (Removes name) = refl

-- steps
abbrev pub step_code : Coded Step
step_code =
    code_by (ℕ × (List ℕ × List ℕ)) (coded× coded_ℕ (coded× (coded_list coded_ℕ) (coded_list coded_ℕ))) step_number
    (λ p. numbered_step p.0 p.1.0 p.1.1) step_number_back

-- lists of entries
abbrev pub entries_code : Coded (List (List Change))
entries_code = coded_list (coded_list change_code)

-- sessions in memory
abbrev pub kept_session_code : Coded KeptSession
kept_session_code =
    code_by (FolderState × (List (List Change) × (List (List Change) × ℕ)))
    (coded× folder_state_code (coded× entries_code (coded× entries_code coded_ℕ)))
    (λ s. (s.folder, (s.undos, (s.redos, s.room)))) (λ p. record { folder = p.0; undos = p.1.0; redos = p.1.1.0; room = p.1.1.1 }) (λ _. refl)
