-- A history after an accepted undo.
use Rattle.par2_laws.proofs.Common.{◌≡◌, arith, ℕ, suc, List, ◌∷◌, drop, Ok, Folder, History, after_undo, folders}

-- an accepted undo leaves one folder fewer
pub one_fewer : (m : ℕ) (now : Folder) (older newer fs : List Folder) (next : History) → after_undo now older newer ≡ Ok next → drop (suc m) (now ∷ older) ≡ fs → drop m (folders next) ≡ fs
one_fewer m now older newer fs next step left = grind arith
