-- Renames and writes in order, as one change of a map.
use Rattle.par2_spec.proofs.Common.{◌≡◌, ℕ, ◌<◌, ◌^◌, List, [], ◌∷◌, ◌++◌, length, map, refl, sym, ap, ◌∙◌, subst, T, cond, true, false, Bool, not, ◌&&◌, ◌||◌, IsTrue, arith, filter, Option, Some, None, is_some, get-insert, get-remove, get-retain_keys, slice_cmp-IsAntisymmetric, nat_cmp-IsAntisymmetric, contains_key-keys, entries_sorted, nat_cmp, is_lt, is_eq, Ordering, is_sorted, below_all, slice_cmp, nat_list_cmp_total, bytes_eq, AllByRecursion, is_eq-slice_cmp, or_left, or_right, or_from, false_from_ne_true, and_from, not_from_false, or_parts, is_name, is_among, Change, Write, Rename, Remove, effect, effects, is_applicable, are_applicable, Folder, has, bytes_of, names, File, files, without, IsFolder, laid_over}
use Rattle.std.specs.FinMap as map_of
use Rattle.par2_spec.proofs.Basics.{same_folder, gone_first, none_gone, among-append, same_name, itself, clash, AreDistinct, not_first, T-parts, none_if, cond-not, by_test}

-- ---- the file of a name in a changed folder

pub get_put : (f : Folder) (n b q : List ℕ) → map_of.get (map_of.insert f n b) q ≡ cond (bytes_eq q n) (Some b) (map_of.get f q)
get_put f n b q = get-insert nat_list_cmp_total f n b q ∙ ap (λ t. cond t (Some b) (map_of.get f q)) (is_eq-slice_cmp q n)

pub get_gone : (f : Folder) (n q : List ℕ) → map_of.get (map_of.remove f n) q ≡ cond (bytes_eq q n) None (map_of.get f q)
get_gone f n q = get-remove nat_list_cmp_total f n q ∙ ap (λ t. cond t None (map_of.get f q)) (is_eq-slice_cmp q n)

pub get_without : (gone : List (List ℕ)) (f : Folder) (q : List ℕ) → map_of.get (without gone f) q ≡ cond (is_among gone q) None (map_of.get f q)
get_without gone f q = grind (arith, get-retain_keys, slice_cmp-IsAntisymmetric, nat_cmp-IsAntisymmetric, cond-not)

pub get_renamed : (f : Folder) (a b q : List ℕ) → map_of.get (effect f (Rename a b)) q ≡ cond (bytes_eq q b) (Some (bytes_of f a)) (cond (bytes_eq q a) None (map_of.get f q))
get_renamed f a b q = unfold effect in get_put (map_of.remove f a) b (bytes_of f a) q ∙ ap (cond (bytes_eq q b) (Some (bytes_of f a))) (get_gone f a q)

pub has_put : (f : Folder) (n b q : List ℕ) → has (map_of.insert f n b) q ≡ (bytes_eq q n || has f q)
has_put f n b q = grind (arith, get_put)

some_unless : (t : Bool) (g : Option (List ℕ)) → is_some (cond t None g) ≡ (not t && is_some g)
some_unless t g = grind arith

pub has_gone : (f : Folder) (n q : List ℕ) → has (map_of.remove f n) q ≡ (not (bytes_eq q n) && has f q)
has_gone f n q = ap is_some (get_gone f n q) ∙ some_unless (bytes_eq q n) (map_of.get f q)

pub has_without : (gone : List (List ℕ)) (f : Folder) (q : List ℕ) → has (without gone f) q ≡ (not (is_among gone q) && has f q)
has_without gone f q = ap is_some (get_without gone f q) ∙ some_unless (is_among gone q) (map_of.get f q)

pub has_renamed : (f : Folder) (a b q : List ℕ) → has (effect f (Rename a b)) q ≡ (bytes_eq q b || (not (bytes_eq q a) && has f q))
has_renamed f a b q = unfold effect in has_put (map_of.remove f a) b (bytes_of f a) q ∙ ap (λ t. bytes_eq q b || t) (has_gone f a q)

pub has_by_names : (f : Folder) (q : List ℕ) → has f q ≡ is_among (names f) q
has_by_names f q = grind (arith, contains_key-keys, is_eq-slice_cmp)

-- the names of a folder, each once
sorted_once : (es : List (List ℕ × List ℕ)) → T (is_sorted (slice_cmp nat_cmp) es) → AreDistinct (map (λ e. e.0) es)
sorted_once [] h = tt
sorted_once (e ∷ es) h = (out es (T-parts _ _ h).0, sorted_once es (T-parts _ _ h).1)
  where
    less : (o : Ordering) → T (is_lt o) → is_eq o ≡ false
    less o k = grind arith

    out : (others : List (List ℕ × List ℕ)) → T (below_all (slice_cmp nat_cmp) e.0 others) → is_among (map (λ other. other.0) others) e.0 ≡ false
    out [] k = refl
    out (other ∷ others) k = or_from _ _ (sym (is_eq-slice_cmp e.0 other.0) ∙ less (slice_cmp nat_cmp e.0 other.0) (T-parts _ _ k).0) (out others (T-parts _ _ k).1)

pub names_once : (f : Folder) → AreDistinct (names f)
names_once f = sorted_once (map_of.entries f) (entries_sorted f)

pub no_file : (f : Folder) (q : List ℕ) → has f q ≡ false → map_of.get f q ≡ None
no_file f q h = none_if (map_of.get f q) h

none_named : (word : List ℕ) → is_name word ≡ false → (entries : List File) → AllByRecursion (λ file. IsTrue (is_name file.0) × (length file.1 < 2 ^ 64)) entries
    → is_among (map (λ file. file.0) entries) word ≡ false
none_named word unnamed [] h = refl
none_named word unnamed (file ∷ entries) h = grind (arith, or_from, false_from_ne_true, clash, same_name, none_named word unnamed entries h.1)

-- a name that is not valid is no file's name
pub no_names_file : (folder : Folder) (word : List ℕ) → IsFolder folder → is_name word ≡ false → has folder word ≡ false
no_names_file folder word kept unnamed = has_by_names folder word ∙ none_named word unnamed (files folder) kept

-- ---- files put into a folder

pub get_laid : (files : List File) (f : Folder) (q : List ℕ) → is_among (map (λ file. file.0) files) q ≡ false → map_of.get (laid_over files f) q ≡ map_of.get f q
unfolding laid_over
get_laid [] f q h = refl
get_laid (file ∷ files) f q h = grind (arith, or_parts, get_put, get_laid files (map_of.insert f file.0 file.1) q (or_parts (bytes_eq q file.0) _ h).1)

-- files with distinct names are in each folder that agrees on these names with the folder they were put into
pub all_laid : (files : List File) (f g : Folder) → AreDistinct (map (λ file. file.0) files) → ((q : List ℕ) → is_among (map (λ file. file.0) files) q ≡ true → map_of.get g q ≡ map_of.get (laid_over files f) q) → AllByRecursion (λ file. map_of.get g file.0 ≡ Some file.1) files
unfolding laid_over
all_laid [] f g d h = tt
all_laid (file ∷ files) f g d h = (
  grind (arith, h, (get_laid files (map_of.insert f file.0 file.1) file.0 d.0), (get_put f file.0 file.1 file.0), (itself file.0)),
  all_laid files (map_of.insert f file.0 file.1) g d.1 (λ q i. h q (or_right _ _ i)),
)

pub has_laid : (files : List File) (f : Folder) (q : List ℕ) → has (laid_over files f) q ≡ (is_among (map (λ file. file.0) files) q || has f q)
unfolding laid_over
has_laid [] f q = refl
has_laid (file ∷ files) f q = grind (arith, has_put, has_laid files (map_of.insert f file.0 file.1) q)

pub laid_over-append : (files more : List File) (f : Folder) → laid_over (files ++ more) f ≡ laid_over more (laid_over files f)
unfolding laid_over
laid_over-append [] more f = refl
laid_over-append (file ∷ files) more f = laid_over-append files more (map_of.insert f file.0 file.1)

without_put : (gone : List (List ℕ)) (f : Folder) (n b : List ℕ) → without gone (map_of.insert f n b) ≡ cond (not (is_among gone n)) (map_of.insert (without gone f) n b) (without gone f)
without_put gone f n b = by_test (is_among gone n)
    (λ h. rw h (same_folder _ _ (λ q. grind (arith, (get_without gone (map_of.insert f n b) q), (get_put f n b q), (get_without gone f q), (same_name q n)))))
    (λ h. rw h (same_folder _ _ (λ q. grind (arith, (get_without gone (map_of.insert f n b) q), (get_put f n b q), (get_put (without gone f) n b q), (get_without gone f q), (same_name q n)))))

-- removing names from files put into a folder is the same as putting the files of other names into it
pub without-laid_over : (gone : List (List ℕ)) (files : List File) (f : Folder) → without gone (laid_over files f) ≡ laid_over (filter (λ file. not (is_among gone file.0)) files) (without gone f)
unfolding laid_over
without-laid_over gone [] f = refl
without-laid_over gone (file ∷ files) f = grind (arith, without_put, without-laid_over gone files (map_of.insert f file.0 file.1))

-- removing either of two lists of names gives the same folder if both name the same of its files
pub same_without : (gone more : List (List ℕ)) (f : Folder) → ((q : List ℕ) → has f q ≡ true → is_among gone q ≡ is_among more q) → without gone f ≡ without more f
same_without gone more f h = grind (arith, same_folder, get_without)

pub without_without : (gone more : List (List ℕ)) (f : Folder) → without gone (without more f) ≡ without (gone ++ more) f
without_without gone more f =
    same_folder _ _ (λ q. grind (arith, (get_without gone (without more f) q), (get_without more f q), (get_without (gone ++ more) f q), (among-append gone more q)))

-- ---- renames in a row

-- a rename: the old name and the new one
abbrev pub Move : Type 0
Move = List ℕ × List ℕ

abbrev pub renames : List Move → List Change
renames moves = map (λ m. Rename m.0 m.1) moves

abbrev pub sources : List Move → List (List ℕ)
sources moves = map (λ m. m.0) moves

abbrev pub goals : List Move → List (List ℕ)
goals moves = map (λ m. m.1) moves

-- the old names are in the folder and the new ones are not, each once
pub record CanMove (f : Folder) (moves : List Move) : Type 0 where
  pub sources_once : AreDistinct (sources moves)
  pub goals_once : AreDistinct (goals moves)
  pub there : (q : List ℕ) → is_among (sources moves) q ≡ true → has f q ≡ true
  pub free : (q : List ℕ) → is_among (goals moves) q ≡ true → has f q ≡ false

rest_moves : (f : Folder) (m : Move) (moves : List Move) → CanMove f (m ∷ moves) → CanMove (effect f (Rename m.0 m.1)) moves
rest_moves f m moves c = record {
  sources_once = c.sources_once.1;
  goals_once = c.goals_once.1;
  there = λ q h. grind (arith, (has_renamed f m.0 m.1 q), (not_first m.0 (sources moves) c.sources_once.0 q h), (c.there q (or_right _ _ h)));
  free = λ q h. grind (arith, (has_renamed f m.0 m.1 q), (not_first m.1 (goals moves) c.goals_once.0 q h), (c.free q (or_right _ _ h)));
}

pub renames_apply : (f : Folder) (moves : List Move) → CanMove f moves → are_applicable f (renames moves) ≡ true
unfolding are_applicable is_applicable
renames_apply f [] c = refl
renames_apply f (m ∷ moves) c = grind (arith, and_from, or_left, itself, not_from_false, rest_moves, renames_apply (effect f (Rename m.0 m.1)) moves (rest_moves f m moves c))

abbrev pub arrived : Folder → List Move → List File
arrived f moves = map (λ m. (m.1, bytes_of f m.0)) moves

same_arrived : (f g : Folder) (moves : List Move) → ((q : List ℕ) → is_among (sources moves) q ≡ true → bytes_of f q ≡ bytes_of g q) → arrived f moves ≡ arrived g moves
same_arrived f g [] h = refl
same_arrived f g (m ∷ moves) h = grind (arith, or_left, itself, or_right, (same_arrived f g moves (λ q i. h q (or_right _ _ i))))

goal_no_source : (f : Folder) (m : Move) (moves : List Move) → CanMove f (m ∷ moves) → is_among (sources moves) m.1 ≡ false
goal_no_source f m moves c = false_from_ne_true _ (λ h. clash (c.there m.1 (or_right (bytes_eq m.1 m.0) _ h)) (c.free m.1 (or_left _ _ (itself m.1))))

-- the renames in order are one simultaneous move
pub renames_lead : (f : Folder) (moves : List Move) → CanMove f moves → effects f (renames moves) ≡ laid_over (arrived f moves) (without (sources moves) f)
unfolding effects laid_over effect
renames_lead f [] c = none_gone f
renames_lead f (m ∷ moves) c =
    let base : (g : Folder) → g ≡ effect f (Rename m.0 m.1) → without (sources moves) g ≡ map_of.insert (without (sources (m ∷ moves)) f) m.1 (bytes_of f m.0) = λ g e.
    grind (arith, e, (without_put (sources moves) (map_of.remove f m.0) m.1 (bytes_of f m.0)), (goal_no_source f m moves c), (gone_first f m.0 (sources moves))) in
    let g = effect f (Rename m.0 m.1) in
    grind (arith, (renames_lead g moves (rest_moves f m moves c)), same_arrived, get_renamed, not_first, (base g refl))

-- ---- writes and removals

pub writes_lead : (f : Folder) (files : List File) → effects f (map (λ file. Write file.0 file.1) files) ≡ laid_over files f
unfolding effects effect laid_over
writes_lead f [] = refl
writes_lead f (file ∷ files) = writes_lead (map_of.insert f file.0 file.1) files

pub writes_apply : (f : Folder) (files : List File) → AreDistinct (map (λ file. file.0) files) → ((q : List ℕ) → is_among (map (λ file. file.0) files) q ≡ true → has f q ≡ false) → are_applicable f (map (λ file. Write file.0 file.1) files) ≡ true
unfolding are_applicable is_applicable effect
writes_apply f [] d h = refl
writes_apply f (file ∷ files) d h = grind (arith, and_from, not_from_false, or_left, itself, has_put, or_from, not_first, or_right, (writes_apply (map_of.insert f file.0 file.1) files d.1 (λ q i. has_put f file.0 file.1 q ∙ or_from _ _ (not_first file.0 (map (λ other. other.0) files) d.0 q i) (h q (or_right _ _ i)))))

pub removals_apply : (f : Folder) (gone : List (List ℕ)) → AreDistinct gone → ((q : List ℕ) → is_among gone q ≡ true → has f q ≡ true) → are_applicable f (map Remove gone) ≡ true
unfolding are_applicable is_applicable effect
removals_apply f [] d h = refl
removals_apply f (name ∷ gone) d h = grind (arith, and_from, or_left, itself, has_gone, not_from_false, not_first, or_right, (removals_apply (map_of.remove f name) gone d.1 (λ q i. has_gone f name q ∙ and_from _ _ (not_from_false _ (not_first name gone d.0 q i)) (h q (or_right _ _ i)))))
