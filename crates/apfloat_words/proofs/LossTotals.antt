-- Sums and differences of magnitudes, in units with a loss.
use Rattle.std.proofs.{Math.Nat.mul-le-mul_right, lemmas.Bool.cases_lt, lemmas.Nat.pow_pos, lemmas.Int.ints}
use Rattle.std.proofs.Common.{◌≡◌, ℕ, ℤ, pos, ◌+ℤ◌, ◌-ℤ◌, ◌≤ℤ◌, ◌+◌, ◌-◌, ◌*◌, ◌^◌, ◌<◌, ◌≤◌, ◌⊎◌, Bool, true, false}
use Rattle.std.proofs.Common.{cond, sym, refl, ap, ◌∙◌, subst, inl, inr, ⊎_elim, arith}
use Rattle.apfloat_model.specs.{arithmetic.Exact.up, arithmetic.Exact.signed, rounding.Standing.StandsFor}
use Rattle.apfloat_model.specs.declared.loss.Loss.{Loss}
use Rattle.apfloat_model.specs.declared.loss.Loss.TheVariants.{ExactlyZero, LessThanHalf, ExactlyHalf, MoreThanHalf}
use Rattle.apfloat_model.proofs.{general.Powers.twice_half, arithmetic.Signs.no_sign, arithmetic.Signs.swapped_sum}
use Rattle.apfloat_model.proofs.rounding.{Losses.stands_from, Losses.stands_to, KeptDigits.stands_times}
use Rattle.apfloat_words.specs.Totals.{counted, StandsForSigned, Balances, IsApart}
use Rattle.apfloat_words.proofs.Totals.{like_signs, unlike_signs, raised, balances_times}

-- ---- more units, and fewer

-- whole units added to an amount are added to its significand
pub stands_more : (q high : ℕ) (loss : Loss) (amount unit : ℕ) → StandsFor q loss amount unit
    → StandsFor (high + q) loss (high * unit + amount) unit
stands_more q high ExactlyZero amount unit h = omega (arith, h)
stands_more q high LessThanHalf amount unit h = let a = h.0 in let b = h.1 in (omega (arith, a), omega (arith, b))
stands_more q high ExactlyHalf amount unit h = omega (arith, h)
stands_more q high MoreThanHalf amount unit h = let a = h.0 in let b = h.1 in (omega (arith, a), omega (arith, b))

-- whole units subtracted from an amount are subtracted from its significand
pub stands_less : (q high left : ℕ) (loss : Loss) (amount rest unit : ℕ) → q ≡ high + left
    → amount ≡ high * unit + rest → StandsFor q loss amount unit → StandsFor left loss rest unit
stands_less q high left ExactlyZero amount rest unit e d h =
    let h' : high * unit + rest ≡ (high + left) * unit = sym d ∙ h ∙ ap (λ (x : ℕ). x * unit) e in omega arith
stands_less q high left LessThanHalf amount rest unit e d h =
    let a = h.0 in let b = h.1 in
    let k : q * unit ≡ (high + left) * unit = ap (λ (x : ℕ). x * unit) e in
    (omega (arith, a), omega (arith, b))
stands_less q high left ExactlyHalf amount rest unit e d h =
    let k : q * unit ≡ (high + left) * unit = ap (λ (x : ℕ). x * unit) e in
    omega (arith, h)
stands_less q high left MoreThanHalf amount rest unit e d h =
    let a = h.0 in let b = h.1 in
    let k : q * unit ≡ (high + left) * unit = ap (λ (x : ℕ). x * unit) e in
    (omega (arith, a), omega (arith, b))

-- ---- the two sums

-- the sum of two terms of one sign
pub together_stands : (base eh el : ℤ) (left right : Bool) (mh ml gap q : ℕ) (loss : Loss) → base ≤ℤ el
    → (el +ℤ pos gap) ≡ eh → left ≡ right → StandsFor q loss (mh * 2 ^ gap + ml) (2 ^ gap)
    → StandsForSigned base (counted base left eh mh +ℤ counted base right el ml) left eh q loss
together_stands base eh el s t mh ml gap q loss l e d h =
    let r = raised base el eh gap l e in
    let r₁ : 2 ^ up (eh -ℤ base) ≡ 2 ^ gap * 2 ^ up (el -ℤ base) = r.1 in
    let a : (mh * 2 ^ gap + ml) * 2 ^ up (el -ℤ base) ≡ mh * 2 ^ up (eh -ℤ base) + ml * 2 ^ up (el -ℤ base) =
    let k : mh * 2 ^ up (eh -ℤ base) ≡ mh * (2 ^ gap * 2 ^ up (el -ℤ base)) = ap (λ (x : ℕ). mh * x) r₁ in
    omega arith in
    record {
      above = r.0;
      amount = (mh * 2 ^ gap + ml) * 2 ^ up (el -ℤ base);
      is = ap (λ (x : ℕ). signed s x) a ∙ like_signs s (mh * 2 ^ up (eh -ℤ base)) (ml * 2 ^ up (el -ℤ base)) ∙
          ap (λ (x : Bool). counted base s eh mh +ℤ counted base x el ml) d;
      stands = subst (λ (x : ℕ). StandsFor q loss ((mh * 2 ^ gap + ml) * 2 ^ up (el -ℤ base)) x) (sym r₁)
          (stands_times q loss (mh * 2 ^ gap + ml) (2 ^ gap) (2 ^ up (el -ℤ base)) (pow_pos (up (el -ℤ base))) h);
    }

-- the sum of two terms of opposite signs, from the difference of their magnitudes
pub apart_stands : (base eh el er : ℤ) (left right flipped : Bool) (mh ml gap q : ℕ) (loss : Loss) → base ≤ℤ el
    → (el +ℤ pos gap) ≡ eh → (el +ℤ pos (gap - 1)) ≡ er → (left ≡ right → ⊥)
    → IsApart (mh * 2 ^ gap) ml flipped q loss (2 ^ (gap - 1))
    → StandsForSigned base (counted base left eh mh +ℤ counted base right el ml) (cond flipped right left) er q loss
apart_stands base eh el er s t flipped mh ml gap q loss l e d n i =
    let r = raised base el eh gap l e in
    let r₁ : 2 ^ up (eh -ℤ base) ≡ 2 ^ gap * 2 ^ up (el -ℤ base) = r.1 in
    let v = raised base el er (gap - 1) l d in
    let k : mh * 2 ^ gap * 2 ^ up (el -ℤ base) ≡ mh * 2 ^ up (eh -ℤ base) =
    let k : mh * 2 ^ up (eh -ℤ base) ≡ mh * (2 ^ gap * 2 ^ up (el -ℤ base)) = ap (λ (x : ℕ). mh * x) r₁ in
    omega arith in
    let b : Balances flipped (i.amount * 2 ^ up (el -ℤ base)) (mh * 2 ^ gap * 2 ^ up (el -ℤ base))
    (ml * 2 ^ up (el -ℤ base)) = balances_times flipped i.amount (mh * 2 ^ gap) ml (2 ^ up (el -ℤ base)) i.balances in
    let b' : Balances flipped (i.amount * 2 ^ up (el -ℤ base)) (mh * 2 ^ up (eh -ℤ base)) (ml * 2 ^ up (el -ℤ base)) =
    subst (λ (x : ℕ). Balances flipped (i.amount * 2 ^ up (el -ℤ base)) x (ml * 2 ^ up (el -ℤ base))) k b in
    record {
      above = v.0;
      amount = i.amount * 2 ^ up (el -ℤ base);
      is = unlike_signs s t flipped (mh * 2 ^ up (eh -ℤ base)) (ml * 2 ^ up (el -ℤ base))
          (i.amount * 2 ^ up (el -ℤ base)) n b';
      stands = subst (λ (x : ℕ). StandsFor q loss (i.amount * 2 ^ up (el -ℤ base)) x) (sym v.1)
          (stands_times q loss i.amount (2 ^ (gap - 1)) (2 ^ up (el -ℤ base)) (pow_pos (up (el -ℤ base))) i.stands);
    }

-- ---- a difference of magnitudes

-- a balance also holds in units of 1
balances_one : (flipped : Bool) (n a b : ℕ) → Balances flipped n a b → Balances flipped (n * 1) (a * 1) b
balances_one true n a b h = omega (arith, h)
balances_one false n a b h = omega (arith, h)

-- a difference in whole units loses nothing
exact_difference : (flipped : Bool) (n a b unit : ℕ) (loss : Loss) → loss ≡ ExactlyZero
    → Balances flipped (n * unit) a b → IsApart a b flipped n loss unit
exact_difference flipped n a b unit loss z h = record {
  amount = n * unit;
  balances = h;
  stands = subst (λ (x : Loss). StandsFor n x (n * unit) unit) (sym z) refl;
}

-- the difference of two magnitudes with one exponent
pub level_difference : (flipped : Bool) (n high low gap : ℕ) (loss : Loss) → gap ≡ 0 → loss ≡ ExactlyZero
    → Balances flipped n high low → IsApart (high * 2 ^ gap) low flipped n loss (2 ^ (gap - 1))
level_difference flipped n high low gap loss z e h =
    subst (λ (g : ℕ). IsApart (high * 2 ^ g) low flipped n loss (2 ^ (g - 1))) (sym z)
    (exact_difference flipped n (high * 1) low 1 loss e (balances_one flipped n high low h))

-- doubling the units and halving their size changes nothing
pub doubled : (high gap : ℕ) → 0 < gap → high * 2 * 2 ^ (gap - 1) ≡ high * 2 ^ gap
doubled high gap p =
    let t : 2 * 2 ^ (gap - 1) ≡ 2 ^ gap = twice_half gap p in
    let k : high * (2 * 2 ^ (gap - 1)) ≡ high * 2 ^ gap = ap (λ (x : ℕ). high * x) t in
    omega arith

-- what a cut states about the number itself
pub cut_alone : (s q k : ℕ) (loss : Loss)
    → ((amount unit : ℕ) → 0 < unit → StandsFor s ExactlyZero amount unit → StandsFor q loss amount (2 ^ k * unit))
    → StandsFor q loss s (2 ^ k)
cut_alone s q k loss f =
    let e : s ≡ s * 1 = omega arith in
    let d : 2 ^ k * 1 ≡ 2 ^ k = omega arith in
    subst (λ (x : ℕ). StandsFor q loss s x) d (f s 1 (omega arith) e)

-- the difference if nothing of the finer term was lost
pub even_difference : (flipped : Bool) (n q high low gap : ℕ) (lost loss : Loss) → 0 < gap → lost ≡ ExactlyZero
    → loss ≡ ExactlyZero → StandsFor q lost low (2 ^ (gap - 1)) → Balances flipped n (high * 2) q
    → IsApart (high * 2 ^ gap) low flipped n loss (2 ^ (gap - 1))
even_difference flipped n q high low gap lost loss p z e h b =
    let h' : low ≡ q * 2 ^ (gap - 1) = subst (λ (x : Loss). StandsFor q x low (2 ^ (gap - 1))) z h in
    let b' : Balances flipped (n * 2 ^ (gap - 1)) (high * 2 * 2 ^ (gap - 1)) (q * 2 ^ (gap - 1)) =
    balances_times flipped n (high * 2) q (2 ^ (gap - 1)) b in
    let b₁ : Balances flipped (n * 2 ^ (gap - 1)) (high * 2 ^ gap) (q * 2 ^ (gap - 1)) =
    subst (λ (x : ℕ). Balances flipped (n * 2 ^ (gap - 1)) x (q * 2 ^ (gap - 1))) (doubled high gap p) b' in
    exact_difference flipped n (high * 2 ^ gap) low (2 ^ (gap - 1)) loss e
    (subst (λ (x : ℕ). Balances flipped (n * 2 ^ (gap - 1)) (high * 2 ^ gap) x) (sym h') b₁)

-- if something of the finer term was lost, one unit is borrowed
pub borrowed_difference : (q high low gap : ℕ) (lost loss : Loss) → 0 < gap → (lost ≡ ExactlyZero → ⊥)
    → q < high * 2 → StandsFor q lost low (2 ^ (gap - 1))
    → ((quotient left amount rest unit : ℕ) → (lost ≡ ExactlyZero → ⊥) → StandsFor quotient lost amount unit
    → amount + rest ≡ (quotient + left + 1) * unit → StandsFor left loss rest unit)
    → IsApart (high * 2 ^ gap) low false (high * 2 - q - 1) loss (2 ^ (gap - 1))
borrowed_difference q high low gap lost loss p n l h f =
    let u : 0 < 2 ^ (gap - 1) = pow_pos (gap - 1) in
    let t : low < (q + 1) * 2 ^ (gap - 1) = stands_to q lost low (2 ^ (gap - 1)) u h in
    let l' : q + 1 ≤ high * 2 = omega arith in
    let k : (q + 1) * 2 ^ (gap - 1) ≤ high * 2 * 2 ^ (gap - 1) = mul-le-mul_right (2 ^ (gap - 1)) l' in
    let d : high * 2 * 2 ^ (gap - 1) ≡ high * 2 ^ gap = doubled high gap p in
    let w : q + (high * 2 - q - 1) + 1 ≡ high * 2 = omega arith in
    let w' : (q + (high * 2 - q - 1) + 1) * 2 ^ (gap - 1) ≡ high * 2 ^ gap = ap (λ (x : ℕ). x * 2 ^ (gap - 1)) w ∙ d in
    let g : low ≤ high * 2 ^ gap = omega arith in
    let r : low + (high * 2 ^ gap - low) ≡ high * 2 ^ gap = omega arith in
    record {
      amount = high * 2 ^ gap - low;
      balances = sym r;
      stands = f q (high * 2 - q - 1) low (high * 2 ^ gap - low) (2 ^ (gap - 1)) n h (r ∙ sym w');
    }

-- the difference if the finer term is the greater
pub reversed_difference : (q high low gap : ℕ) (lost : Loss) → 0 < gap → high * 2 ≤ q
    → StandsFor q lost low (2 ^ (gap - 1)) → IsApart (high * 2 ^ gap) low true (q - high * 2) lost (2 ^ (gap - 1))
reversed_difference q high low gap lost p l h =
    let t : q * 2 ^ (gap - 1) ≤ low = stands_from q lost low (2 ^ (gap - 1)) h in
    let k : high * 2 * 2 ^ (gap - 1) ≤ q * 2 ^ (gap - 1) = mul-le-mul_right (2 ^ (gap - 1)) l in
    let d : high * 2 * 2 ^ (gap - 1) ≡ high * 2 ^ gap = doubled high gap p in
    let r : low ≡ high * 2 ^ gap + (low - high * 2 ^ gap) = omega arith in
    let r' : low ≡ high * 2 * 2 ^ (gap - 1) + (low - high * 2 ^ gap) = r ∙
    ap (λ (x : ℕ). x + (low - high * 2 ^ gap)) (sym d) in
    record {
      amount = low - high * 2 ^ gap;
      balances = r;
      stands = stands_less q (high * 2) (q - high * 2) lost low (low - high * 2 ^ gap) (2 ^ (gap - 1)) (omega arith)
          r' h;
    }

-- ---- exponents and signs of the result

-- the exponent of a difference, from those of its terms
pub exponent_is : (eh el er : ℤ) (gap : ℕ) → (el +ℤ pos gap) ≡ eh → (gap ≡ 0 → er ≡ eh)
    → (0 < gap → (er +ℤ pos 1) ≡ eh) → (el +ℤ pos (gap - 1)) ≡ er
exponent_is eh el er gap e f g =
    ⊎_elim
    (λ (p : 0 < gap). let h : (er +ℤ pos 1) ≡ eh = g p in omega (arith, ints))
    (λ (p : gap ≤ 0). let z : gap ≡ 0 = omega arith in let h : er ≡ eh = f z in omega (arith, ints))
    (cases_lt 0 gap)

-- the sum in the other order; a zero sum may have either sign
pub total_swapped : (base a b : ℤ) (negative other : Bool) (e : ℤ) (q : ℕ) (loss : Loss)
    → (negative ≡ other) ⊎ ((q ≡ 0) × (loss ≡ ExactlyZero)) → StandsForSigned base (a +ℤ b) negative e q loss
    → StandsForSigned base (b +ℤ a) other e q loss
total_swapped base a b n t e q loss (inl d) h = record {
  above = h.above;
  amount = h.amount;
  is = ap (λ (x : Bool). signed x h.amount) (sym d) ∙ h.is ∙ swapped_sum a b;
  stands = h.stands;
}
total_swapped base a b n t e q loss (inr d) h =
    let s : StandsFor 0 ExactlyZero h.amount (2 ^ up (e -ℤ base)) =
    subst (λ (x : ℕ). StandsFor x ExactlyZero h.amount (2 ^ up (e -ℤ base))) d.0
    (subst (λ (x : Loss). StandsFor q x h.amount (2 ^ up (e -ℤ base))) d.1 h.stands) in
    let z : h.amount ≡ 0 = omega (arith, s) in
    record {
      above = h.above;
      amount = h.amount;
      is = ap (λ (x : ℕ). signed t x) z ∙ no_sign t ∙ sym (no_sign n) ∙ ap (λ (x : ℕ). signed n x) (sym z) ∙ h.is ∙
          swapped_sum a b;
      stands = h.stands;
    }
