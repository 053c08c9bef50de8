-- A change that was made can be undone.
use Rattle.library_tests.proofs.Common.{◌≡◌, [], ◌∷◌, IsTrue, None, Change, FolderState, takes_all, state_after, change_refusal, inverse, inverse_taken, takes_both, takes_none}

pub back_taken : (state : FolderState) (change : Change) → change_refusal state change ≡ None → IsTrue (takes_all (state_after state change) (inverse state.files change ∷ []))
back_taken state change accepted = takes_both (state_after state change) (inverse state.files change) [] (inverse_taken state change accepted) (takes_none _)
