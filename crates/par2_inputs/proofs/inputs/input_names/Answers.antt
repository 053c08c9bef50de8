use Rattle.par2_inputs.proofs.Names.{◌≡◌, ◌∙◌, ℕ, List, [], ◌∷◌, Bool, true, false, not, map, refl, ap, rules, cond, string_bytes, Some, is_some, IfSome, filter_map, IfOk-weaker, cons_option, AllByRecursion, at_none, is_input_name, BadName, YieldsList-from_slice, items_from_collect, Option, None, YieldsList-at, YieldsList-from_filter_map}
use Rattle.par2_inputs.proofs.inputs.input_names.Goals as goal

-- the name that an argument is
abbrev name_in : List ℕ → Option (List ℕ)
name_in word = cond (is_input_name word) (Some word) None

given : (r : Option (List ℕ)) (word : List ℕ) → is_some r ≡ is_input_name word → IfSome r (λ name. name ≡ word) → r ≡ name_in word
given (Some name) word e h = ap Some h ∙ ap (λ b. cond b (Some word) None) e
given None word e h = ap (λ b. cond b (Some word) None) e

all_given : {X : Type 0} (v : X → List ℕ) (words : List X) → AllByRecursion (λ word. not (is_input_name word) ≡ false) (map v words) → filter_map (λ x. name_in (v x)) words ≡ map v words
all_given v [] h = refl
all_given v (x ∷ words) h = step (is_input_name (v x)) h.0 (all_given v words h.1)
  where
    step : (b : Bool) → not b ≡ false → filter_map (λ x. name_in (v x)) words ≡ map v words → cons_option (cond b (Some (v x)) None) (filter_map (λ x. name_in (v x)) words) ≡ v x ∷ map v words
    step true e rest = ap (λ names. v x ∷ names) rest
    step false e rest = absurd (let no : ⊥ = cc in no)

pub returns : goal.returns
returns c =
    IfOk-weaker c.collect.result _ _ (λ names e. e ∙ all_given string_bytes c.args.words.now (at_none 1 BadName (λ word. not (is_input_name word)) (map string_bytes c.args.words.now) c.requires))
    (items_from_collect _ c.collect.ensures.ran
    (YieldsList-from_filter_map _ (λ word. name_in (string_bytes word)) (YieldsList-at c.filter_map-names.ensures.source (YieldsList-from_slice c.args.words.now c.iter.ensures.rest)) c.filter_map-names.ensures.closure (λ x r q k. search (rules, given))))
