-- A command after an argument or a subcommand was added.
use Rattle.par2_arguments.proofs.Common.{arith, App, Rule, AddsArg, AddsSubcommand, with_rule, with_subcommand, Command, IsApp, ◌≡◌, ℕ, Bool, true, false, nat_lt, refl, List, [], ◌∷◌, map, Option, Some, None, Result, lt-ltb, ltb-true, codes, unwrap_or, option_map, list_all, Bor, bytes_eq, AllDigits, ParsesUnsigned, ReadsOne, Text, first_value, matched_of, one_text, raw_values, rows_of, flag_of, number, number_of, value_of, values_of, ◌∙◌, true≢false, ap, sym, subst, is_some, Box, find, HasMatchesOf, Row, Shape, app_of, built, fault_of, is_simple, is_simple_and_free, subcommand_name_of, subcommand_of, subcommand_rows, subcommand_rows_of, argument_words, entered, label_of, names_of, rows_at, meaning, clap_on_literals, par2_app, shape_of, start_app, digit_value, and_parts, box_value, none-some, recursion_from_All, AllPass-from_list_all, rule_of, Arg, Found, first_value-rows, one_text-rows, raw_values-rows, answers_to, stop_after, ArgMatches, SubCommand, out-ArgMatches, out-SubCommand, found_one}

-- the shape of a row of the table
abbrev pub shape_for : Bor Text × Bor (List Rattle.par2_arguments.specs.declared.definition.Argument.Argument) → Shape
shape_for row = shape_of row.0.now row.1.now

pub with_argument : (old new : Command) (a : Arg) (app : App) (rule : Rule) → AddsArg old a new → IsApp old app → rule_of a ≡ rule → a.global ≡ false → IsApp new (with_rule app rule)
with_argument old new a app rule adds is same local = grind arith

pub with_command : (old sub new : Command) (app other : App) → AddsSubcommand old sub new → IsApp old app → IsApp sub other → IsApp new (with_subcommand app other.top)
with_command old sub new app other adds is same = grind arith

-- What the getters return, by the rows of the matches.

pub bytes_read : (f : Found) (id : Text) (o : Option (Bor Text)) (d : Bor Text) → option_map (λ s. s.now) o ≡ first_value f id
    → d.now ≡ [] → (unwrap_or o d).now ≡ value_of id (rows_of f)
bytes_read f id o d got none = grind (arith, first_value-rows)

pub buffers_read : (f : Found) (id : Text) (o : Option (Bor (List (Bor Text)))) (d : Bor (List (Bor Text)))
    → option_map (λ s. map (λ v. v.now) s.now) o ≡ option_map raw_values (matched_of f id) → d.now ≡ []
    → map (λ v. v.now) (unwrap_or o d).now ≡ values_of id (rows_of f)
buffers_read f id o d got none = grind (arith, raw_values-rows)

pub flag_read : (f : Found) (id : Text) (o : Option (Bor Text)) (d : Bor Text) → option_map (λ s. s.now) o ≡ first_value f id
    → d.now ≡ [] → bytes_eq (unwrap_or o d).now (codes "true") ≡ flag_of id (rows_of f)
flag_read f id o d got none = grind (arith, first_value-rows)

-- ---- numbers

digits_pass : (ds : List ℕ) → AllDigits 10 ds → list_all (λ d. nat_lt (digit_value d) 10) ds ≡ true
digits_pass [] h = refl
digits_pass (d ∷ ds) h = rw (lt-ltb (digit_value d) 10 h.0) (digits_pass ds h.1)

digits_from : (ds : List ℕ) → list_all (λ d. nat_lt (digit_value d) 10) ds ≡ true → AllDigits 10 ds
digits_from [] e = tt
digits_from (d ∷ ds) e =
    let parts = and_parts _ _ e in
    (ltb-true _ _ parts.0, digits_from ds parts.1)

module _ {E : Type 0} (G : List ℕ → Result ℕ E → Type 0) (k : ℕ) (only : (u : List ℕ) (x : Result ℕ E) → G u x → ParsesUnsigned k 10 u x) where
  one_read : (t : Text) (r : Option ℕ) → ReadsOne G t r → unwrap_or r 0 ≡ number k t
  one_read t r h = grind (arith, lt-ltb, digits_pass, and_parts, ltb-true, digits_from)

  pub number_read : (f : Found) (id : Text) (r : Option ℕ) → (one_text f id ≡ None → r ≡ None) → ((t : List ℕ) → one_text f id ≡ Some t → ReadsOne G t r)
      → unwrap_or r 0 ≡ number_of k id (rows_of f)
  number_read f id r none value = grind (arith, one_text-rows, one_read)

-- The subcommand that a parse found is one of the six.

simple : is_simple par2_app ≡ true
unfolding clap_on_literals par2_app start_app
simple = refl

free : is_simple_and_free par2_app ≡ true
unfolding clap_on_literals par2_app start_app
free = refl

abbrev is_known : Shape → Bool
is_known s = is_some (meaning (s.name, []))

all_known : list_all is_known (built par2_app).subs ≡ true
unfolding clap_on_literals par2_app start_app
all_known = refl

find_all : {X : Type 0} (p q : X → Bool) (xs : List X) (x : X) → find p xs ≡ Some x → list_all q xs ≡ true → q x ≡ true
find_all p q xs x e h = (found_one (λ y. q y ≡ true) p xs (recursion_from_All (λ y. q y ≡ true) xs (AllPass-from_list_all q xs h)) x e).0

any_rows : (n : Text) (rows : List Row) → is_some (meaning (n, [])) ≡ is_some (meaning (n, rows))
any_rows n rows = grind arith

known_in : (stop : Option (Text × List Text)) (p : Text × List Row) → entered (built par2_app) stop ≡ Some p → is_some (meaning p) ≡ true
known_in None p e = absurd (none-some p e)
known_in (Some q) p e = go (find (λ s. answers_to q.0 (label_of s)) (built par2_app).subs) refl e
  where
    go : (o : Option Shape) → find (λ s. answers_to q.0 (label_of s)) (built par2_app).subs ≡ o → option_map (λ s. rows_at s q.1) o ≡ Some p
        → is_some (meaning p) ≡ true
    go None found k = absurd (none-some p k)
    go (Some s) found k =
        let name_known : is_some (meaning (s.name, [])) ≡ true = find_all _ is_known (built par2_app).subs s found all_known in
        let there : is_some (meaning (rows_at s q.1)) ≡ true = sym (any_rows s.name (rows_at s q.1).1) ∙ name_known in
        subst (λ (z : Text × List Row). is_some (meaning z) ≡ true) (ap (λ o. unwrap_or o p) k) there

pub known : (words : List Text) (p : Text × List Row) → subcommand_of par2_app words ≡ Some p → is_some (meaning p) ≡ true
known words p e = known_in (stop_after (built par2_app).top.rules (names_of (built par2_app)) (argument_words par2_app words)) p e

named : {Z : Type 0} (o : Option (Box SubCommand Z)) (n : Text) (rows : List Row) → Some n ≡ option_map (λ b. (out-SubCommand (box_value b)).name.now) o
    → Some rows ≡ option_map (λ p. p.1) (subcommand_rows o) → subcommand_rows o ≡ Some (n, rows)
named o n rows e f = grind arith

pub met : (m : ArgMatches) (words : List Text) (n : Text) (rows : List Row) → HasMatchesOf par2_app words m → Some n ≡ subcommand_name_of m
    → Some rows ≡ option_map (λ p. p.1) (subcommand_rows_of m) → subcommand_of par2_app words ≡ Some (n, rows)
met m words n rows has name_is rows_are = sym (has simple).1 ∙ named (out-ArgMatches m).subcommand n rows name_is rows_are

pub unmet : (m : ArgMatches) (words : List Text) → HasMatchesOf par2_app words m → None ≡ subcommand_name_of m → is_some (subcommand_of par2_app words) ≡ true → ⊥
unmet m words has none there = grind (arith, simple, true≢false, none-some)

-- if the parse returned matches, there was no fault
pub faultless : (command : Command) (words : List Text) → app_of command ≡ par2_app
    → (is_simple_and_free (app_of command) ≡ true → fault_of (app_of command) words ≡ []) → fault_of par2_app words ≡ []
faultless command words app gives =
    subst (λ (a : App). is_simple_and_free a ≡ true → fault_of a words ≡ []) app gives free
