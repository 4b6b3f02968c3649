-- Two terms in the order of their exponents.
use Rattle.std.proofs.Common.{◌≡◌, ℕ, ℤ, ◌≤ℤ◌, ◌⊎◌, Bool, true, false, cond, sym, refl, ap, ◌∙◌, subst, inl, inr, arith}
use Rattle.std.proofs.lemmas.Int.{ints}
use Rattle.apfloat_model.specs.declared.loss.Loss.{Loss, TheVariants.ExactlyZero}
use Rattle.apfloat_words.specs.{declared.terms.Term.Term, Totals.IsGreater}

-- what holds of both terms holds of each of them in order
pub of_high : {T : Type 0} (P : T → Type 0) (high low x y : T)
    → ((high ≡ x) × (low ≡ y)) ⊎ ((high ≡ y) × (low ≡ x)) → P x → P y → P high
of_high P high low x y (inl d) a b = subst P (sym d.0) a
of_high P high low x y (inr d) a b = subst P (sym d.0) b

pub of_low : {T : Type 0} (P : T → Type 0) (high low x y : T)
    → ((high ≡ x) × (low ≡ y)) ⊎ ((high ≡ y) × (low ≡ x)) → P x → P y → P low
of_low P high low x y (inl d) a b = subst P (sym d.1) b
of_low P high low x y (inr d) a b = subst P (sym d.1) a

-- the first of two terms in order has the greater exponent
pub greater_first : (high low x y : Term) (z : ℤ) → ((high ≡ x) × (low ≡ y)) ⊎ ((high ≡ y) × (low ≡ x))
    → low.exponent ≤ℤ high.exponent → z ≡ high.exponent → IsGreater z x.exponent y.exponent
greater_first high low x y z (inl d) l e =
    let a : high.exponent ≡ x.exponent = ap (λ (t : Term). t.exponent) d.0 in
    let b : low.exponent ≡ y.exponent = ap (λ (t : Term). t.exponent) d.1 in
    record { one = inl (e ∙ a); first = omega (arith, ints, a, b, l, e); second = omega (arith, ints, a, b, l, e) }
greater_first high low x y z (inr d) l e =
    let a : high.exponent ≡ y.exponent = ap (λ (t : Term). t.exponent) d.0 in
    let b : low.exponent ≡ x.exponent = ap (λ (t : Term). t.exponent) d.1 in
    record { one = inr (e ∙ a); first = omega (arith, ints, a, b, l, e); second = omega (arith, ints, a, b, l, e) }

-- they have like signs, or the same exponent, if the terms have
pub like_in_order : (A : Type 0) (f : Term → A) (high low x y : Term)
    → ((high ≡ x) × (low ≡ y)) ⊎ ((high ≡ y) × (low ≡ x)) → f x ≡ f y → f high ≡ f low
like_in_order A f high low x y (inl d) e = ap f d.0 ∙ e ∙ sym (ap f d.1)
like_in_order A f high low x y (inr d) e = ap f d.0 ∙ sym e ∙ sym (ap f d.1)

-- the terms have like signs, or the same exponent, if `high` and `low` have
pub like_out_of_order : (A : Type 0) (f : Term → A) (high low x y : Term)
    → ((high ≡ x) × (low ≡ y)) ⊎ ((high ≡ y) × (low ≡ x)) → f high ≡ f low → f x ≡ f y
like_out_of_order A f high low x y (inl d) e = sym (ap f d.0) ∙ e ∙ ap f d.1
like_out_of_order A f high low x y (inr d) e = sym (ap f d.1) ∙ sym e ∙ ap f d.0

-- the sign of a total, if it is chosen for zero
pub sign_unless_zero : (zero_total negative first other : Bool) (q : ℕ) (loss : Loss)
    → other ≡ cond zero_total first negative → (zero_total ≡ true → (q ≡ 0) × (loss ≡ ExactlyZero))
    → (negative ≡ other) ⊎ ((q ≡ 0) × (loss ≡ ExactlyZero))
sign_unless_zero true negative first other q loss e f = inr (f refl)
sign_unless_zero false negative first other q loss e f = inl (sym e)

pub sign_of_zero : (zero_total negative first other : Bool) → other ≡ cond zero_total first negative
    → (zero_total ≡ false → ⊥) → other ≡ first
sign_of_zero true negative first other e n = e
sign_of_zero false negative first other e n = absurd (n refl)
