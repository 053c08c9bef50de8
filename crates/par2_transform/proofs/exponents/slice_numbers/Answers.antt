use Rattle.par2_transform.proofs.Names.{bool_byte, if◌then◌else◌, arith, ◌≡◌, ◌+◌, ◌∙◌, ℕ, Bool, true, false, refl, ap, sym, subst, Vec, Global, is_coprime, AreFound, bit_of, none_found, one_found, enough_found, all_found}
use Rattle.par2_transform.proofs.exponents.slice_numbers.Goals.{then-found-n+in_ok-push, else-found-n}
use Rattle.par2_transform.proofs.exponents.slice_numbers.Goals as goal

pub loop-exponent-init : goal.loop-exponent-init
loop-exponent-init c = subst (λ xs. AreFound c.args.n xs 0 0) (sym c.new-numbers.ensures.items) (none_found c.args.n)

byte_is : (b : Bool) → bool_byte b ≡ bit_of b
byte_is true = refl
byte_is false = refl

pub loop-exponent-preserved : goal.loop-exponent-preserved
loop-exponent-preserved c = elim c.if-found-n.branch [
  | then-found-n+in_ok-push w ↦
      subst (λ xs. AreFound c.args.n xs c.if-found-n.found (c.loop-exponent.exponent + 1)) (sym (ap (λ (v : Vec ℕ Global). v.items) w.numbers-is ∙ w.in_ok-push.ensures.items))
      (one_found c.args.n c.loop-exponent.found c.loop-exponent.exponent w.number.result c.if-found-n.found c.loop-exponent.numbers.items c.loop-exponent.invariant w.if-found-n.true
      (w.number.ensures ∙ ap (λ b. if b then c.loop-exponent.found else 65535) w.is_coprime-coprime.ensures)
      (w.found-is ∙ ap (λ b. c.loop-exponent.found + bool_byte b) w.is_coprime-coprime.ensures ∙ ap (λ k. c.loop-exponent.found + k) (byte_is (is_coprime c.loop-exponent.exponent))))
  | else-found-n w ↦
      subst (λ xs. AreFound c.args.n xs c.if-found-n.found (c.loop-exponent.exponent + 1)) (sym (ap (λ (v : Vec ℕ Global). v.items) w.numbers-is))
      (subst (λ k. AreFound c.args.n c.loop-exponent.numbers.items k (c.loop-exponent.exponent + 1)) (sym w.found-is)
      (enough_found c.args.n c.loop-exponent.found c.loop-exponent.exponent c.loop-exponent.numbers.items c.loop-exponent.invariant w.if-found-n.false))
]

pub returns : goal.returns
returns c = let end : c.loop-exponent.exponent ≡ 65536 = omega (arith, c.loop-exponent-test.false, c.loop-exponent.auto.exponent-end) in all_found c.args.n c.loop-exponent.found c.loop-exponent.numbers.items c.requires (subst (λ e. AreFound c.args.n c.loop-exponent.numbers.items c.loop-exponent.found e) end c.loop-exponent.invariant)
