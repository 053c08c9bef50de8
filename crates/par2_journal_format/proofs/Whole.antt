-- Whole journals: what is read is spelled so, and what is spelled so is read, before its digest is tested and after.
use Rattle.par2_journal_format.proofs.Common.{err_from_is_err_and, ◌≡◌, ℕ, ◌-◌, ◌+◌, ◌^◌, ◌≤◌, ◌<◌, Bool, true, false, cond, leb, eqb, ◌&&◌, List, [], ◌++◌, length, take, drop, Option, Some, None, refl, sym, ap, subst, ◌∙◌, append_assoc, arith, inl, inr, ◌∷◌, Result, Err, flat_map, ◌⊎◌, if◌then◌else◌, ◌↔◌, w64, to_le_bytes, leb-true, le-leb, eqb-true, and_parts, and_from, same_Some, cond_some, none-some, append-nil, nil_from_length, take-append-drop, take_at, drop_at, length-append, Change, HalfwayPart, Journal, IsEntry, IsCursor, IsJournal, Spells, heading, cursor_bytes, entry_bytes, halfway_bytes, journal_bytes, spelling, AreBytes, Write, Replace, Rename, Remove, change_bytes, bytes-take, ◌>>=◌, block_at, number_at, many_at, entry_at, halfway_at, cursor_in, IsSealed, heading_at, cursor_at, parts_at, Fails, AreCounted, Continues, Begins, IsRefusal, JournalFault, FolderChanged, JournalInvalid, Memory, sum_by, md5, bytes_eq, bytes_eq-Decides, Version, length-md5, One, Two, sum_by-cons}
use Rattle.par2_journal_format.proofs.Fields.{bind_some, Took, Took-then, block_read, block_again, number_read, number_again, many_read, entry_read, halfway_read}

-- ---- heading

abbrev version_in : List ℕ × List ℕ → Option (Version × List ℕ)
version_in x = if bytes_eq x.0 (heading One) then Some (One, x.1) else if bytes_eq x.0 (heading Two) then Some (Two, x.1) else None

version_takes : (front rest : List ℕ) (x : Version × List ℕ) → version_in (front, rest) ≡ Some x → (front ≡ heading x.0) × (rest ≡ x.1)
version_takes front rest x e = grind (arith, (bytes_eq-Decides front (heading One)).0, (bytes_eq-Decides front (heading Two)).0)

heading_takes : (bytes : List ℕ) (x : Version × List ℕ) → AreBytes bytes → heading_at bytes ≡ Some x → Took bytes (heading x.0) x.1
unfolding heading_at
heading_takes bytes x fits e =
    let b = bind_some (block_at 8 bytes) version_in x e in
    let t = (block_read 8).takes bytes b.0 fits b.1 in
    let v = version_takes b.0.0 b.0.1 x b.2 in
    subst (λ (p : List ℕ × List ℕ). Took bytes p.0 p.1) (λ i. (v.0 i, v.1 i)) t.0

heading_again : (v : Version) (rest : List ℕ) → heading_at (heading v ++ rest) ≡ Some (v, rest)
unfolding heading_at
heading_again One rest = ap (λ (o : Option (List ℕ × List ℕ)). o >>= version_in) (block_again 8 (heading One) rest refl)
heading_again Two rest = ap (λ (o : Option (List ℕ × List ℕ)). o >>= version_in) (block_again 8 (heading Two) rest refl)

-- ---- cursor

cursor_takes : (v : Version) (bytes : List ℕ) (x : ℕ × List ℕ) → AreBytes bytes → cursor_at v bytes ≡ Some x → Took bytes (cursor_bytes v x.0) x.1
unfolding cursor_at
cursor_takes One bytes x fits e = subst (λ (y : ℕ × List ℕ). Took bytes [] y.1) (same_Some (0, bytes) x e) (record { parts = refl; fits = fits })
cursor_takes Two bytes x fits e = (number_read.takes bytes x fits e).0

-- the number that is read for a cursor
abbrev stored : Version → ℕ → ℕ
stored One c = 0
stored Two c = c

cursor_again : (v : Version) (c n : ℕ) (rest : List ℕ) → IsCursor v c n → n < 2 ^ 64 → cursor_at v (cursor_bytes v c ++ rest) ≡ Some (stored v c, rest)
cursor_again v c n rest is lt = unfold cursor_at in grind (arith, number_again)

spelled : (v : Version) (c n : ℕ) → cursor_bytes v c ≡ cursor_bytes v (cursor_in v c n)
spelled v c n = grind arith

within : (v : Version) (c n : ℕ) → leb (cursor_in v c n) n ≡ true → IsCursor v (cursor_in v c n) n
within v c n h = grind (arith, leb-true)

stored_back : (v : Version) (c n : ℕ) → IsCursor v c n → cursor_in v (stored v c) n ≡ c
stored_back v c n is = grind arith

at_most : (v : Version) (c n : ℕ) → IsCursor v c n → c ≤ n
at_most v c n is = grind arith

-- ---- the parts, one after the other

abbrev all_of : Version → List ℕ → ℕ → ℕ → List (List Change) → Option HalfwayPart × List ℕ → Option Journal
all_of v print c n es b =
    if leb (cursor_in v c n) n && eqb (length b.1) 0 then Some (record { version = v; fingerprint = print; cursor = cursor_in v c n; entries = es; halfway = b.0 }) else None

abbrev after_entries : Version → List ℕ → ℕ → ℕ → List (List Change) × List ℕ → Option Journal
after_entries v print c n es = halfway_at es.1 >>= all_of v print c n es.0

abbrev after_count : Version → List ℕ → ℕ → ℕ × List ℕ → Option Journal
after_count v print c n = many_at entry_at n.0 n.1 >>= after_entries v print c n.0

abbrev after_cursor : Version → List ℕ → ℕ × List ℕ → Option Journal
after_cursor v print c = number_at c.1 >>= after_count v print c.0

abbrev after_print : Version → List ℕ × List ℕ → Option Journal
after_print v print = cursor_at v print.1 >>= after_cursor v print.0

abbrev after_heading : Version × List ℕ → Option Journal
after_heading v = block_at 16 v.1 >>= after_print v.0

-- seven parts, one after the other
in_order : (bytes a b c d e f g h i j k l : List ℕ) → bytes ≡ g ++ a → a ≡ h ++ b → b ≡ i ++ c → c ≡ j ++ d → d ≡ k ++ e → e ≡ l ++ f → f ≡ [] → bytes ≡ g ++ h ++ i ++ j ++ k ++ l
in_order bytes a b c d e f g h i j k l p q r s t u v = rw (p, q, r, s, t, u, v) (simp (append_assoc, append-nil))

pub parts_take : (bytes : List ℕ) (j : Journal) → AreBytes bytes → parts_at bytes ≡ Some j → IsJournal j × (bytes ≡ journal_bytes j)
unfolding parts_at journal_bytes
parts_take bytes j fits e =
    let a = bind_some (heading_at bytes) after_heading j e in
    let v = a.0.0 in
    let b = bind_some (block_at 16 a.0.1) (after_print v) j a.2 in
    let c = bind_some (cursor_at v b.0.1) (after_cursor v b.0.0) j b.2 in
    let d = bind_some (number_at c.0.1) (after_count v b.0.0 c.0.0) j c.2 in
    let n = d.0.0 in
    let f = bind_some (many_at entry_at n d.0.1) (after_entries v b.0.0 c.0.0 n) j d.2 in
    let g = bind_some (halfway_at f.0.1) (all_of v b.0.0 c.0.0 n f.0.0) j f.2 in
    let made : Journal = record { version = v; fingerprint = b.0.0; cursor = cursor_in v c.0.0 n; entries = f.0.0; halfway = g.0.0 } in
    let p = cond_some (leb (cursor_in v c.0.0 n) n && eqb (length g.0.1) 0) made j g.2 in
    let tests = and_parts (leb (cursor_in v c.0.0 n) n) (eqb (length g.0.1) 0) p.0 in
    let t1 = heading_takes bytes a.0 fits a.1 in
    let t2 = (block_read 16).takes a.0.1 b.0 t1.fits b.1 in
    let t3 = cursor_takes v b.0.1 c.0 t2.0.fits c.1 in
    let t4 = number_read.takes c.0.1 d.0 t3.fits d.1 in
    let t5 = (many_read entry_at entry_bytes IsEntry entry_read n).takes d.0.1 f.0 t4.0.fits f.1 in
    let t6 = halfway_read.takes f.0.1 g.0 t5.0.fits g.1 in
    let content : bytes ≡ journal_bytes made =
    in_order bytes a.0.1 b.0.1 c.0.1 d.0.1 f.0.1 g.0.1 (heading v) b.0.0 (cursor_bytes v c.0.0) (to_le_bytes w64 n) (flat_map entry_bytes f.0.0) (halfway_bytes g.0.0)
    t1.parts t2.0.parts t3.parts t4.0.parts t5.0.parts t6.0.parts (nil_from_length g.0.1 (eqb-true _ _ tests.1))
    ∙ (λ i. heading v ++ b.0.0 ++ spelled v c.0.0 n i ++ to_le_bytes w64 (sym t5.1.0 i) ++ flat_map entry_bytes f.0.0 ++ halfway_bytes g.0.0) in
    let is : IsJournal made = record {
      fingerprint = t2.1;
      cursor = subst (λ (k : ℕ). IsCursor v (cursor_in v c.0.0 n) k) (sym t5.1.0) (within v c.0.0 n tests.0);
      count = subst (λ (k : ℕ). k < 2 ^ 64) (sym t5.1.0) t4.1;
      entries = t5.1.1;
      halfway = t6.1;
    } in
    subst (λ (k : Journal). IsJournal k × (bytes ≡ journal_bytes k)) p.1 (is, content)

right : (a b c d e f : List ℕ) → a ++ b ++ c ++ d ++ e ++ f ≡ a ++ (b ++ (c ++ (d ++ (e ++ (f ++ [])))))
right a b c d e f = simp (append_assoc, append-nil)

parts_again : (j : Journal) → IsJournal j → parts_at (journal_bytes j) ≡ Some j
unfolding parts_at journal_bytes
parts_again j is =
    let v = j.version in
    let n : ℕ = length j.entries in
    let es : List ℕ = flat_map entry_bytes j.entries in
    let end : List ℕ = halfway_bytes j.halfway ++ [] in
    let s : ℕ = stored v j.cursor in
    let last : all_of v j.fingerprint s n j.entries (j.halfway, []) ≡ Some j =
    rw (stored_back v j.cursor n is.cursor, le-leb j.cursor n (at_most v j.cursor n is.cursor)) refl in
    ap (λ (t : List ℕ). heading_at t >>= after_heading) (right (heading v) j.fingerprint (cursor_bytes v j.cursor) (to_le_bytes w64 n) es (halfway_bytes j.halfway))
    ∙ ap (λ (o : Option (Version × List ℕ)). o >>= after_heading) (heading_again v (j.fingerprint ++ (cursor_bytes v j.cursor ++ (to_le_bytes w64 n ++ (es ++ end)))))
    ∙ ap (λ (o : Option (List ℕ × List ℕ)). o >>= after_print v) (block_again 16 j.fingerprint (cursor_bytes v j.cursor ++ (to_le_bytes w64 n ++ (es ++ end))) is.fingerprint)
    ∙ ap (λ (o : Option (ℕ × List ℕ)). o >>= after_cursor v j.fingerprint) (cursor_again v j.cursor n (to_le_bytes w64 n ++ (es ++ end)) is.cursor is.count)
    ∙ ap (λ (o : Option (ℕ × List ℕ)). o >>= after_count v j.fingerprint s) (number_again n (es ++ end) is.count)
    ∙ ap (λ (o : Option (List (List Change) × List ℕ)). o >>= after_entries v j.fingerprint s n) ((many_read entry_at entry_bytes IsEntry entry_read n).again j.entries end (refl, is.entries))
    ∙ ap (λ (o : Option (Option HalfwayPart × List ℕ)). o >>= all_of v j.fingerprint s n j.entries) (halfway_read.again j.halfway [] is.halfway)
    ∙ last

-- ---- with the digest

-- a body and its MD5 end with the body's digest
module _ (body bytes : List ℕ) (is : bytes ≡ body ++ md5 body) where
  long : length bytes ≡ length body + 16
  long = ap length is ∙ length-append body (md5 body) ∙ ap (λ (k : ℕ). length body + k) (length-md5 body)

  split : length body ≡ length bytes - 16
  split = omega (arith, long)

  front : take (length bytes - 16) bytes ≡ body
  front = ap (take (length bytes - 16)) is ∙ take_at body (md5 body) (length bytes - 16) split

  pub seals : IsSealed bytes
  seals = record {
    long = omega (arith, long);
    digest = ap (drop (length bytes - 16)) is ∙ drop_at body (md5 body) (length bytes - 16) split ∙ ap md5 (sym front);
  }

-- the bytes of a journal end with their digest, and are read before it
pub spells_sealed : (bytes : List ℕ) (j : Journal) → Spells bytes j → IsSealed bytes
unfolding spelling
spells_sealed bytes j spells = seals (journal_bytes j) bytes spells.1

pub spells_parts : (bytes : List ℕ) (j : Journal) → Spells bytes j → parts_at (take (length bytes - 16) bytes) ≡ Some j
unfolding spelling
spells_parts bytes j spells = ap parts_at (front (journal_bytes j) bytes spells.1) ∙ parts_again j spells.0

-- the bytes spell the journal that is read before their digest
pub parts_spell : (content : List ℕ) (j : Journal) → AreBytes content → IsSealed content → parts_at (take (length content - 16) content) ≡ Some j → Spells content j
unfolding spelling
parts_spell content j fits sealed is =
    let n : ℕ = length content - 16 in
    let t = parts_take (take n content) j (bytes-take n content fits) is in
    (t.0, sym (take-append-drop n content) ∙ ap (λ (s : List ℕ). take n content ++ s) sealed.digest ∙ ap (λ (s : List ℕ). s ++ md5 s) t.1)

-- bytes spell at most one journal
pub one_reading : (bytes : List ℕ) (a b : Journal) → Spells bytes a → Spells bytes b → a ≡ b
one_reading bytes a b p q = same_Some a b (sym (spells_parts bytes a p) ∙ spells_parts bytes b q)

-- ---- a change takes at least one byte, so bytes have no more changes than their length

change_some : (change : Change) → 1 ≤ length (change_bytes change)
change_some change = grind arith

changes_within : (changes : List Change) → length changes ≤ length (flat_map change_bytes changes)
changes_within [] = omega arith
changes_within (change ∷ changes) = grind (arith, change_some, changes_within changes, length-append)

entries_within : (entries : List (List Change)) → sum_by length entries ≤ length (flat_map entry_bytes entries)
entries_within [] = omega arith
entries_within (entry ∷ entries) = grind (arith, sum_by-cons length entry entries, changes_within entry, entries_within entries, length-append)

counted : (j : Journal) (body : List ℕ) → body ≡ journal_bytes j → length body < 2 ^ 64 → AreCounted j.entries
counted j body is fits = unfold journal_bytes in grind (arith, entries_within, ap length is, length-append)

-- ---- the bytes from which a journal was read

pub too_short : (bytes : List ℕ) → length bytes < 16 → ¬ (IsSealed bytes)
too_short bytes short sealed = absurd (omega (arith, short, sealed.long))

module _ (content body digest : List ℕ) (enough : 16 ≤ length content) (start : body ≡ take (length content - 16) content) (end : digest ≡ drop (length content - 16) content) where
  unread : parts_at body ≡ None → (j : Journal) → Spells content j → ⊥
  unread none j spells = none-some j (sym none ∙ ap parts_at start ∙ spells_parts content j spells)

  pub sealed : (digest ≡ md5 body) ↔ IsSealed content
  sealed = ((λ right. record { long = enough; digest = sym end ∙ right ∙ ap md5 start }), (λ is. end ∙ is.digest ∙ ap md5 (sym start)))

  pub untested : (j : Journal) → AreBytes content → length body < 2 ^ 64 → parts_at body ≡ Some j → IsJournal j × AreCounted j.entries × (IsSealed content → Spells content j)
  untested j fits short is =
      let read : parts_at (take (length content - 16) content) ≡ Some j = ap parts_at (sym start) ∙ is in
      let parts = parts_take (take (length content - 16) content) j (bytes-take (length content - 16) content fits) read in
      (parts.0, counted j body (start ∙ parts.1) short, λ right. parts_spell content j fits right read)

  -- nothing was read, or memory ran out
  pub refused : (fault : JournalFault) → Fails fault (parts_at body) → IsRefusal content fault
  refused Memory fails = inl refl
  refused JournalInvalid fails = inr (refl, unread fails)
  refused (FolderChanged halfway) fails = absurd fails

-- bytes of a journal are refused only if memory runs out
pub memory_alone : (bytes : List ℕ) (fault : JournalFault) → IsRefusal bytes fault → (j : Journal) → Spells bytes j → fault ≡ Memory
memory_alone bytes fault (inl memory) j spells = memory
memory_alone bytes fault (inr (is, none)) j spells = absurd (none j spells)

pub ruleset reading = (err_from_is_err_and, spells_sealed, memory_alone, one_reading, too_short)

-- a body and its digest spell the journal
pub finished : (start : List ℕ) (halfway : Option HalfwayPart) (body : List ℕ) → Continues start halfway body → (bytes : List ℕ) → bytes ≡ body ++ md5 body
    → (j : Journal) → Begins start j → Spells bytes (record j { halfway = halfway })
unfolding spelling
finished start halfway body continues bytes ends j begins =
    let c = continues j begins in
    (c.0, ends ∙ ap (λ b. b ++ md5 b) c.1)
