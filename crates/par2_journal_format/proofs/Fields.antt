-- Blocks, numbers and several values: what is read was there, what is written is read again, and loops over both.
use Rattle.par2_journal_format.proofs.Common.{◌≡◌, ℕ, suc, ◌-◌, ◌+◌, ◌≤◌, ◌<◌, List, [], ◌∷◌, ◌++◌, length, take, get_or, Option, Some, None, refl, sym, ap, subst, ◌∙◌, append_assoc, arith, zero, ◌^◌, Bool, true, false, cond, ltb, drop, leb, flat_map, if◌then◌else◌, IsTrue, IfSome, AllByRecursion, concat, append-nil, flat_map_more, take_more, take_all, take_at, drop_at, take-append-drop, length-append, length-take-le, all-append, all_at, JournalFault, FolderChanged, JournalInvalid, Memory, ◌>>=◌, Fails, many_at, block_at, number_at, name_at, behind_length_at, two_at, change_at, entry_at, halfway_at, w64, to_le_bytes, from_le_bytes, ltb-false, le-ltb, leb-true, le-leb, same_Some, cond_some, AreBytes, Change, Write, Replace, Rename, Remove, HalfwayPart, IsFileBytes, IsDigest, IsChange, IsEntry, IsHalfwayPart, name_bytes, change_bytes, entry_bytes, halfway_bytes, bytes-take, bytes-drop, is_name, behind_length, le_bytes_8, from_le_bytes-to_le_bytes_8, concat_is}

abbrev pub Reader : Type 0 → Type 0
Reader A = List ℕ → Option (A × List ℕ)

-- values that were read before, in front of those that are read now
abbrev pub behind : {A : Type 0} → List A → Option (List A × List ℕ) → Option (List A × List ℕ)
behind front read = read >>= λ x. Some (front ++ x.0, x.1)

-- at value i of n, the list so far and the rest give what the whole gives
abbrev pub SoFar : {A : Type 0} → Reader A → ℕ → List ℕ → List A → ℕ → List ℕ → Type 0
SoFar one n bytes front i rest = behind front (many_at one (n - i) rest) ≡ many_at one n bytes

moved : {A : Type 0} (front : List A) (x : A) (read : Option (List A × List ℕ)) → behind front (read >>= λ y. Some (x ∷ y.0, y.1)) ≡ behind (front ++ x ∷ []) read
moved front x read = grind (arith, append_assoc)

one_more : {A : Type 0} (one : Reader A) (n i : ℕ) (rest : List ℕ) (x : A) (after : List ℕ) → i < n → one rest ≡ Some (x, after)
    → many_at one (n - i) rest ≡ (many_at one (n - (i + 1)) after >>= λ y. Some (x ∷ y.0, y.1))
unfolding many_at
one_more one n i rest x after lt e =
    let k : n - i ≡ suc (n - (i + 1)) = omega arith in
    rw (k, e) refl

pub goes_on : {A : Type 0} (one : Reader A) (n : ℕ) (bytes : List ℕ) (front : List A) (i : ℕ) (rest : List ℕ) (x : A) (after : List ℕ)
    → i < n → one rest ≡ Some (x, after) → SoFar one n bytes front i rest → SoFar one n bytes (front ++ x ∷ []) (i + 1) after
goes_on one n bytes front i rest x after lt e so_far =
    sym (ap (behind front) (one_more one n i rest x after lt e) ∙ moved front x (many_at one (n - (i + 1)) after)) ∙ so_far

pub stops : {A : Type 0} (one : Reader A) (n : ℕ) (bytes : List ℕ) (front : List A) (i : ℕ) (rest : List ℕ) (e : JournalFault)
    → i < n → Fails e (one rest) → SoFar one n bytes front i rest → Fails e (many_at one n bytes)
unfolding many_at
stops one n bytes front i rest Memory lt h so_far = tt
stops one n bytes front i rest (FolderChanged halfway) lt h so_far = h
stops one n bytes front i rest JournalInvalid lt h so_far =
    let k : n - i ≡ suc (n - (i + 1)) = omega arith in
    sym so_far ∙ rw (k, h) refl

pub ends : {A : Type 0} (one : Reader A) (n : ℕ) (bytes : List ℕ) (front : List A) (i : ℕ) (rest : List ℕ)
    → n ≤ i → SoFar one n bytes front i rest → many_at one n bytes ≡ Some (front, rest)
unfolding many_at
ends one n bytes front i rest le so_far =
    let k : n - i ≡ 0 = omega arith in
    sym so_far ∙ rw (k, append-nil front) refl

-- ---- writing

-- the values, written by f, follow what was there before, and P holds of each
abbrev pub AreWritten : {X : Type 0} → (X → Type 0) → (X → List ℕ) → List X → List ℕ → List ℕ → Type 0
AreWritten P f xs start out = record {
  bytes : out ≡ start ++ flat_map f xs;
  each : AllByRecursion P xs;
}

-- after the first i values, one more is written
pub wrote_more : {X : Type 0} (xs : List X) (i : ℕ) (P : X → Type 0) (f : X → List ℕ) (start out new : List ℕ) (x : X) → i < length xs → x ≡ get_or xs i x
    → AreWritten P f (take i xs) start out → new ≡ out ++ f x → P x → AreWritten P f (take (i + 1) xs) start new
wrote_more xs i P f start out new x lt is so_far step here =
    let more : take (i + 1) xs ≡ take i xs ++ x ∷ [] = take_more xs i x lt ∙ ap (λ y. take i xs ++ y ∷ []) (sym is) in
    record {
      bytes = step ∙ ap (λ (o : List ℕ). o ++ f x) so_far.bytes ∙ flat_map_more f start (take i xs) x ∙ ap (λ ys. start ++ flat_map f ys) (sym more);
      each = subst (AllByRecursion P) (sym more) (all-append P (take i xs) (x ∷ []) so_far.each (here, tt));
    }

-- ---- steps

-- if two steps give a value, so does the first one
pub bind_some : {A B : Type 0} (o : Option A) (f : A → Option B) (y : B) → (o >>= f) ≡ Some y → (x : A) × (o ≡ Some x) × (f x ≡ Some y)
bind_some (Some x) f y e = (x, refl, e)
bind_some None f y e = absurd cc

passed : {A : Type 0} (b : Bool) (x y : A) → cond b None (Some x) ≡ Some y → (b ≡ false) × (x ≡ y)
passed b x y e = grind arith

-- what was taken from the front, and the rest
pub record Took (bytes content rest : List ℕ) : Type 0 where
  pub parts : bytes ≡ content ++ rest
  pub fits : AreBytes rest

pub Took-then : (a x b y c : List ℕ) → Took a x b → Took b y c → Took a (x ++ y) c
Took-then a x b y c p q = record { parts = p.parts ∙ ap (λ (t : List ℕ). x ++ t) q.parts ∙ sym (append_assoc x y c); fits = q.fits }

pub Took-behind : (k : ℕ) (a x b : List ℕ) → Took a x b → Took (k ∷ a) (k ∷ x) b
Took-behind k a x b p = record { parts = ap (λ (t : List ℕ). k ∷ t) p.parts; fits = p.fits }

-- a reader takes exactly the bytes of values of which P holds
pub record IsRead {A : Type 0} (one : Reader A) (bytes_of : A → List ℕ) (P : A → Type 0) : Type 0 where
  pub takes : (bytes : List ℕ) (x : A × List ℕ) → AreBytes bytes → one bytes ≡ Some x → Took bytes (bytes_of x.0) x.1 × P x.0
  pub again : (a : A) (rest : List ℕ) → P a → one (bytes_of a ++ rest) ≡ Some (a, rest)

-- ---- blocks

abbrev pub IsBlock : ℕ → List ℕ → Type 0
IsBlock n bytes = length bytes ≡ n

block_takes : (n : ℕ) (bytes : List ℕ) (x : List ℕ × List ℕ) → AreBytes bytes → block_at n bytes ≡ Some x → Took bytes x.0 x.1 × IsBlock n x.0
unfolding block_at
block_takes n bytes x fits e =
    let p = passed (ltb (length bytes) n) (take n bytes, drop n bytes) x e in
    let long : n ≤ length bytes = ltb-false (length bytes) n p.0 in
    subst (λ (y : List ℕ × List ℕ). Took bytes y.0 y.1 × IsBlock n y.0) p.1
    (record { parts = sym (take-append-drop n bytes); fits = bytes-drop n bytes fits }, length-take-le n bytes long)

pub block_again : (n : ℕ) (front rest : List ℕ) → length front ≡ n → block_at n (front ++ rest) ≡ Some (front, rest)
unfolding block_at
block_again n front rest h =
    let long : n ≤ length (front ++ rest) = omega (arith, length-append front rest, h) in
    rw (le-ltb (length (front ++ rest)) n long, take_at front rest n h, drop_at front rest n h) refl

pub block_read : (n : ℕ) → IsRead (block_at n) (λ bytes. bytes) (IsBlock n)
block_read n = record { takes = block_takes n; again = block_again n }

-- ---- numbers

below : (bytes : List ℕ) → AreBytes bytes → from_le_bytes w64 bytes < 2 ^ 64
below bytes fits =
    let f : (i : ℕ) → get_or bytes i 0 < 256 = all_at (λ b. b < 256) 0 (omega arith) bytes fits in
    omega (arith, f 0, f 1, f 2, f 3, f 4, f 5, f 6, f 7)

number_takes : (bytes : List ℕ) (x : ℕ × List ℕ) → AreBytes bytes → number_at bytes ≡ Some x → Took bytes (to_le_bytes w64 x.0) x.1 × (x.0 < 2 ^ 64)
unfolding number_at
number_takes bytes x fits e =
    let p = passed (ltb (length bytes) 8) (from_le_bytes w64 (take 8 bytes), drop 8 bytes) x e in
    let long : 8 ≤ length bytes = ltb-false (length bytes) 8 p.0 in
    let front = bytes-take 8 bytes fits in
    let back : to_le_bytes w64 (from_le_bytes w64 (take 8 bytes)) ≡ take 8 bytes = le_bytes_8 (take 8 bytes) _ (length-take-le 8 bytes long) (all_at (λ b. b < 256) 0 (omega arith) (take 8 bytes) front) refl in
    subst (λ (y : ℕ × List ℕ). Took bytes (to_le_bytes w64 y.0) y.1 × (y.0 < 2 ^ 64)) p.1
    (record { parts = sym (ap (λ (t : List ℕ). t ++ drop 8 bytes) back ∙ take-append-drop 8 bytes); fits = bytes-drop 8 bytes fits }, below (take 8 bytes) front)

number_split : (front rest : List ℕ) → length front ≡ 8 → number_at (front ++ rest) ≡ Some (from_le_bytes w64 front, rest)
unfolding number_at
number_split front rest h =
    let long : 8 ≤ length (front ++ rest) = omega (arith, length-append front rest, h) in
    rw (le-ltb (length (front ++ rest)) 8 long, take_at front rest 8 h, drop_at front rest 8 h) refl

pub number_again : (n : ℕ) (rest : List ℕ) → n < 2 ^ 64 → number_at (to_le_bytes w64 n ++ rest) ≡ Some (n, rest)
number_again n rest lt = number_split (to_le_bytes w64 n) rest refl ∙ ap (λ k. Some (k, rest)) (from_le_bytes-to_le_bytes_8 n lt)

pub number_read : IsRead number_at (to_le_bytes w64) (λ n. n < 2 ^ 64)
number_read = record { takes = number_takes; again = number_again }

-- ---- several values

abbrev pub AreMany : {A : Type 0} → (A → Type 0) → ℕ → List A → Type 0
AreMany P n xs = (length xs ≡ n) × AllByRecursion P xs

many_takes : {A : Type 0} (one : Reader A) (bytes_of : A → List ℕ) (P : A → Type 0) (read : IsRead one bytes_of P) (n : ℕ) (bytes : List ℕ) (x : List A × List ℕ)
    → AreBytes bytes → many_at one n bytes ≡ Some x → Took bytes (flat_map bytes_of x.0) x.1 × AreMany P n x.0
unfolding many_at
many_takes one bytes_of P read zero bytes x fits e =
    subst (λ y. Took bytes (flat_map bytes_of y.0) y.1 × AreMany P 0 y.0) (same_Some ([], bytes) x e) (record { parts = refl; fits = fits }, (refl, tt))
many_takes one bytes_of P read (suc n) bytes x fits e =
    let a = bind_some (one bytes) (λ first. many_at one n first.1 >>= λ others. Some (first.0 ∷ others.0, others.1)) x e in
    let b = bind_some (many_at one n a.0.1) (λ others. Some (a.0.0 ∷ others.0, others.1)) x a.2 in
    let t = read.takes bytes a.0 fits a.1 in
    let u = many_takes one bytes_of P read n a.0.1 b.0 t.0.fits b.1 in
    let both = Took-then bytes (bytes_of a.0.0) a.0.1 (flat_map bytes_of b.0.0) b.0.1 t.0 u.0 in
    subst (λ y. Took bytes (flat_map bytes_of y.0) y.1 × AreMany P (suc n) y.0) (same_Some (a.0.0 ∷ b.0.0, b.0.1) x b.2) (both, (ap suc u.1.0, (t.1, u.1.1)))

many_again : {A : Type 0} (one : Reader A) (bytes_of : A → List ℕ) (P : A → Type 0) (read : IsRead one bytes_of P) (xs : List A) (rest : List ℕ)
    → AllByRecursion P xs → many_at one (length xs) (flat_map bytes_of xs ++ rest) ≡ Some (xs, rest)
unfolding many_at
many_again one bytes_of P read [] rest fits = refl
many_again one bytes_of P read (x ∷ xs) rest fits =
    let apart : flat_map bytes_of (x ∷ xs) ++ rest ≡ bytes_of x ++ (flat_map bytes_of xs ++ rest) = append_assoc (bytes_of x) (flat_map bytes_of xs) rest in
    ap (many_at one (suc (length xs))) apart ∙ rw (read.again x (flat_map bytes_of xs ++ rest) fits.0, many_again one bytes_of P read xs rest fits.1) refl

pub many_read : {A : Type 0} (one : Reader A) (bytes_of : A → List ℕ) (P : A → Type 0) → IsRead one bytes_of P → (n : ℕ) → IsRead (many_at one n) (flat_map bytes_of) (AreMany P n)
many_read one bytes_of P read n = record {
  takes = many_takes one bytes_of P read n;
  again = λ xs rest h. subst (λ k. many_at one k (flat_map bytes_of xs ++ rest) ≡ Some (xs, rest)) h.0 (many_again one bytes_of P read xs rest h.1);
}

-- Names, changes, entries and the halfway part.

abbrev pub IsName : List ℕ → Type 0
IsName name = IsTrue (is_name name)

-- ---- names

name_takes : (bytes : List ℕ) (x : List ℕ × List ℕ) → AreBytes bytes → name_at bytes ≡ Some x → Took bytes (name_bytes x.0) x.1 × IsName x.0
unfolding name_at
name_takes [] x fits e = absurd cc
name_takes (n ∷ bytes) x fits e =
    let b = bind_some (block_at n bytes) (λ y. if is_name y.0 then Some y else None) x e in
    let p = cond_some (is_name b.0.0) b.0 x b.2 in
    let t = (block_read n).takes bytes b.0 fits.1 b.1 in
    subst (λ (y : List ℕ × List ℕ). Took (n ∷ bytes) (name_bytes y.0) y.1 × IsName y.0) p.1
    (record { parts = ap (λ (s : List ℕ). n ∷ s) t.0.parts ∙ ap (λ (k : ℕ). k ∷ (b.0.0 ++ b.0.1)) (sym t.1); fits = t.0.fits }, p.0)

name_again : (name rest : List ℕ) → IsName name → name_at (name_bytes name ++ rest) ≡ Some (name, rest)
unfolding name_at
name_again name rest h = rw (block_again (length name) name rest refl, h) refl

name_read : IsRead name_at name_bytes IsName
name_read = record { takes = name_takes; again = name_again }

-- ---- bytes after their length

counted_read : IsRead behind_length_at behind_length IsFileBytes
unfolding behind_length_at
counted_read = record {
  takes = λ bytes x fits e.
      let b = bind_some (number_at bytes) (λ n. block_at n.0 n.1) x e in
      let t = number_read.takes bytes b.0 fits b.1 in
      let u = (block_read b.0.0).takes b.0.1 x t.0.fits b.2 in
      let both = Took-then bytes (to_le_bytes w64 b.0.0) b.0.1 x.0 x.1 t.0 u.0 in
      (subst (λ (k : ℕ). Took bytes (to_le_bytes w64 k ++ x.0) x.1) (sym u.1) both, subst (λ (k : ℕ). k < 2 ^ 64) (sym u.1) t.1);
  again = λ bytes rest h. rw (append_assoc (to_le_bytes w64 (length bytes)) bytes rest, number_again (length bytes) (bytes ++ rest) h, block_again (length bytes) bytes rest refl) refl;
}

-- ---- two values that follow each other

two_take : (one two : List ℕ → Option (List ℕ × List ℕ)) (f g : List ℕ → List ℕ) (P Q : List ℕ → Type 0) (first : IsRead one f P) (second : IsRead two g Q) (make : List ℕ → List ℕ → Change)
    (kind : ℕ) → ((a b : List ℕ) → change_bytes (make a b) ≡ kind ∷ f a ++ g b) → ((a b : List ℕ) → P a → Q b → IsChange (make a b))
    → (bytes : List ℕ) (x : Change × List ℕ) → AreBytes bytes → two_at one two make bytes ≡ Some x → Took (kind ∷ bytes) (change_bytes x.0) x.1 × IsChange x.0
two_take one two f g P Q first second make kind spelled is bytes x fits e =
    let a = bind_some (one bytes) (λ a. two a.1 >>= λ b. Some (make a.0 b.0, b.1)) x e in
    let b = bind_some (two a.0.1) (λ b. Some (make a.0.0 b.0, b.1)) x a.2 in
    let t = first.takes bytes a.0 fits a.1 in
    let u = second.takes a.0.1 b.0 t.0.fits b.1 in
    let both = Took-then bytes (f a.0.0) a.0.1 (g b.0.0) b.0.1 t.0 u.0 in
    subst (λ (y : Change × List ℕ). Took (kind ∷ bytes) (change_bytes y.0) y.1 × IsChange y.0) (same_Some (make a.0.0 b.0.0, b.0.1) x b.2)
    (subst (λ (s : List ℕ). Took (kind ∷ bytes) s b.0.1) (sym (spelled a.0.0 b.0.0)) (Took-behind kind bytes (f a.0.0 ++ g b.0.0) b.0.1 both), is a.0.0 b.0.0 t.1 u.1)

two_again : (one two : List ℕ → Option (List ℕ × List ℕ)) (f g : List ℕ → List ℕ) (P Q : List ℕ → Type 0) (first : IsRead one f P) (second : IsRead two g Q) (make : List ℕ → List ℕ → Change)
    (a b rest : List ℕ) → P a → Q b → two_at one two make (f a ++ g b ++ rest) ≡ Some (make a b, rest)
two_again one two f g P Q first second make a b rest p q =
    rw (append_assoc (f a) (g b) rest, first.again a (g b ++ rest) p, second.again b rest q) refl

-- ---- changes

change_takes : (bytes : List ℕ) (x : Change × List ℕ) → AreBytes bytes → change_at bytes ≡ Some x → Took bytes (change_bytes x.0) x.1 × IsChange x.0
unfolding change_at
change_takes [] x fits e = absurd cc
change_takes (zero ∷ bytes) x fits e = absurd cc
change_takes (suc zero ∷ bytes) x fits e =
    two_take name_at behind_length_at name_bytes behind_length IsName IsFileBytes name_read counted_read Write 1 (λ a b. refl) (λ a b p q. (p, q)) bytes x fits.1 e
change_takes (suc (suc zero) ∷ bytes) x fits e =
    two_take name_at behind_length_at name_bytes behind_length IsName IsFileBytes name_read counted_read Replace 2 (λ a b. refl) (λ a b p q. (p, q)) bytes x fits.1 e
change_takes (suc (suc (suc zero)) ∷ bytes) x fits e =
    two_take name_at name_at name_bytes name_bytes IsName IsName name_read name_read Rename 3 (λ a b. refl) (λ a b p q. (p, q)) bytes x fits.1 e
change_takes (suc (suc (suc (suc zero))) ∷ bytes) x fits e =
    let a = bind_some (name_at bytes) (λ name. Some (Remove name.0, name.1)) x e in
    let t = name_read.takes bytes a.0 fits.1 a.1 in
    subst (λ (y : Change × List ℕ). Took (4 ∷ bytes) (change_bytes y.0) y.1 × IsChange y.0) (same_Some (Remove a.0.0, a.0.1) x a.2) (Took-behind 4 bytes (name_bytes a.0.0) a.0.1 t.0, t.1)
change_takes (suc (suc (suc (suc (suc b)))) ∷ bytes) x fits e = absurd cc

change_again : (c : Change) (rest : List ℕ) → IsChange c → change_at (change_bytes c ++ rest) ≡ Some (c, rest)
unfolding change_at
change_again (Write name bytes) rest h = two_again name_at behind_length_at name_bytes behind_length IsName IsFileBytes name_read counted_read Write name bytes rest h.0 h.1
change_again (Replace name bytes) rest h = two_again name_at behind_length_at name_bytes behind_length IsName IsFileBytes name_read counted_read Replace name bytes rest h.0 h.1
change_again (Rename from to) rest h = two_again name_at name_at name_bytes name_bytes IsName IsName name_read name_read Rename from to rest h.0 h.1
change_again (Remove name) rest h = ap (λ (o : Option (List ℕ × List ℕ)). o >>= λ name. Some (Remove name.0, name.1)) (name_again name rest h)

change_read : IsRead change_at change_bytes IsChange
change_read = record { takes = change_takes; again = change_again }

-- ---- entries

pub entry_read : IsRead entry_at entry_bytes IsEntry
unfolding entry_at
entry_read = record {
  takes = λ bytes x fits e.
      let b = bind_some (number_at bytes) (λ n. many_at change_at n.0 n.1) x e in
      let t = number_read.takes bytes b.0 fits b.1 in
      let u = (many_read change_at change_bytes IsChange change_read b.0.0).takes b.0.1 x t.0.fits b.2 in
      let both = Took-then bytes (to_le_bytes w64 b.0.0) b.0.1 (flat_map change_bytes x.0) x.1 t.0 u.0 in
      (subst (λ (k : ℕ). Took bytes (to_le_bytes w64 k ++ flat_map change_bytes x.0) x.1) (sym u.1.0) both, (subst (λ (k : ℕ). k < 2 ^ 64) (sym u.1.0) t.1, u.1.1));
  again = λ cs rest h.
      rw (append_assoc (to_le_bytes w64 (length cs)) (flat_map change_bytes cs) rest, number_again (length cs) (flat_map change_bytes cs ++ rest) h.0)
      ((many_read change_at change_bytes IsChange change_read (length cs)).again cs rest (refl, h.1));
}

-- ---- the halfway part

abbrev digests_bytes : List (List ℕ) → List ℕ
digests_bytes ps = flat_map (λ (p : List ℕ). p) ps

abbrev halfway_with : ℕ → List (List ℕ) × List ℕ → List Change × List ℕ → Option (Option HalfwayPart × List ℕ)
halfway_with n prints back = if leb 1 n then Some (Some (record { fingerprints = prints.0; back = back.0 }), back.1) else None

abbrev behind_prints : ℕ → List (List ℕ) × List ℕ → Option (Option HalfwayPart × List ℕ)
behind_prints n prints = many_at change_at n prints.1 >>= halfway_with n prints

abbrev behind_count : ℕ × List ℕ → Option (Option HalfwayPart × List ℕ)
behind_count n = many_at (block_at 16) n.0 n.1 >>= behind_prints n.0

halfway_takes : (bytes : List ℕ) (x : Option HalfwayPart × List ℕ) → AreBytes bytes → halfway_at bytes ≡ Some x → Took bytes (halfway_bytes x.0) x.1 × IfSome x.0 IsHalfwayPart
unfolding halfway_at
halfway_takes [] x fits e = absurd cc
halfway_takes (zero ∷ bytes) x fits e =
    subst (λ (y : Option HalfwayPart × List ℕ). Took (0 ∷ bytes) (halfway_bytes y.0) y.1 × IfSome y.0 IsHalfwayPart) (same_Some (None, bytes) x e) (record { parts = refl; fits = fits.1 }, tt)
halfway_takes (suc zero ∷ bytes) x fits e =
    let a = bind_some (number_at bytes) behind_count x e in
    let b = bind_some (many_at (block_at 16) a.0.0 a.0.1) (behind_prints a.0.0) x a.2 in
    let c = bind_some (many_at change_at a.0.0 b.0.1) (halfway_with a.0.0 b.0) x b.2 in
    let made : HalfwayPart = record { fingerprints = b.0.0; back = c.0.0 } in
    let p = cond_some (leb 1 a.0.0) (Some made, c.0.1) x c.2 in
    let t = number_read.takes bytes a.0 fits.1 a.1 in
    let u = (many_read (block_at 16) (λ (p : List ℕ). p) IsDigest (block_read 16) a.0.0).takes a.0.1 b.0 t.0.fits b.1 in
    let v = (many_read change_at change_bytes IsChange change_read a.0.0).takes b.0.1 c.0 u.0.fits c.1 in
    let front = Took-then bytes (to_le_bytes w64 a.0.0) a.0.1 (digests_bytes b.0.0) b.0.1 t.0 u.0 in
    let both = Took-then bytes (to_le_bytes w64 a.0.0 ++ digests_bytes b.0.0) b.0.1 (flat_map change_bytes c.0.0) c.0.1 front v.0 in
    let counted_so = subst (λ (k : ℕ). Took bytes (to_le_bytes w64 k ++ digests_bytes b.0.0 ++ flat_map change_bytes c.0.0) c.0.1) (sym v.1.0) both in
    let joined = subst (λ (s : List ℕ). Took bytes (to_le_bytes w64 (length c.0.0) ++ s ++ flat_map change_bytes c.0.0) c.0.1) (sym (concat_is b.0.0)) counted_so in
    subst (λ (y : Option HalfwayPart × List ℕ). Took (1 ∷ bytes) (halfway_bytes y.0) y.1 × IfSome y.0 IsHalfwayPart) p.1 (
      Took-behind 1 bytes (to_le_bytes w64 (length c.0.0) ++ concat b.0.0 ++ flat_map change_bytes c.0.0) c.0.1 joined,
      record {
        some = subst (λ (k : ℕ). 1 ≤ k) (sym v.1.0) (leb-true 1 a.0.0 p.0);
        each = u.1.0 ∙ sym v.1.0;
        fingerprints = u.1.1;
        back = (subst (λ (k : ℕ). k < 2 ^ 64) (sym v.1.0) t.1, v.1.1);
      },
    )
halfway_takes (suc (suc b) ∷ bytes) x fits e = absurd cc

halfway_again : (o : Option HalfwayPart) (rest : List ℕ) → IfSome o IsHalfwayPart → halfway_at (halfway_bytes o ++ rest) ≡ Some (o, rest)
unfolding halfway_at
halfway_again None rest h = refl
halfway_again (Some b) rest given =
    let h : IsHalfwayPart b = given in
    let n : ℕ = length b.back in
    let ways : List ℕ = flat_map change_bytes b.back in
    let apart : to_le_bytes w64 n ++ concat b.fingerprints ++ ways ++ rest ≡ to_le_bytes w64 n ++ (digests_bytes b.fingerprints ++ (ways ++ rest)) =
    ap (λ (s : List ℕ). to_le_bytes w64 n ++ s ++ ways ++ rest) (concat_is b.fingerprints)
    ∙ ap (λ (s : List ℕ). s ++ rest) (append_assoc (to_le_bytes w64 n) (digests_bytes b.fingerprints) ways)
    ∙ append_assoc (to_le_bytes w64 n) (digests_bytes b.fingerprints ++ ways) rest
    ∙ ap (λ (s : List ℕ). to_le_bytes w64 n ++ s) (append_assoc (digests_bytes b.fingerprints) ways rest) in
    let prints = (many_read (block_at 16) (λ (p : List ℕ). p) IsDigest (block_read 16) n).again b.fingerprints (ways ++ rest) (h.each, h.fingerprints) in
    let back = (many_read change_at change_bytes IsChange change_read n).again b.back rest (refl, h.back.1) in
    rw (apart, number_again n (digests_bytes b.fingerprints ++ (ways ++ rest)) h.back.0, prints, back) (ap (λ (t : Bool). cond t (Some (Some b, rest)) None) (le-leb 1 n h.some))

pub halfway_read : IsRead halfway_at halfway_bytes (λ o. IfSome o IsHalfwayPart)
halfway_read = record { takes = halfway_takes; again = halfway_again }
