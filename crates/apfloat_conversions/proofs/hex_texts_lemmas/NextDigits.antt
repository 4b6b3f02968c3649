-- One more digit after a number whose leading bits are kept.
use Rattle.std.proofs.Common.{◌≡◌, ℕ, ◌+◌, ◌-◌, ◌*◌, ◌^◌, ◌<◌, ◌≤◌, sym, ap, ◌∙◌, subst, inr, arith}
use Rattle.std.proofs.lemmas.Nat.{pow-add, pow_pos}
use Rattle.apfloat_model.specs.declared.loss.Loss.{Loss, TheVariants.ExactlyZero}
use Rattle.apfloat_model.specs.rounding.Standing.{StandsFor}
use Rattle.apfloat_conversions.specs.hex_texts.Scans.{IsKeptAt}

-- with one more digit cut off, the unit is 16 times as large
sixteenfold : (cut : ℕ) → 2 ^ (4 * (cut + 1)) ≡ 16 * 2 ^ (4 * cut)
sixteenfold cut =
    let e : 4 * (cut + 1) ≡ 4 + 4 * cut = omega arith in
    ap (λ (k : ℕ). 2 ^ k) e ∙ pow-add 2 4 (4 * cut)

-- with some digits cut off, the unit is even
even : (cut : ℕ) → 0 < cut → 2 ^ (4 * cut) ≡ 2 * 2 ^ (4 * cut - 1)
even cut p =
    let e : 4 * cut ≡ 1 + (4 * cut - 1) = omega arith in
    ap (λ (k : ℕ). 2 ^ k) e ∙ pow-add 2 1 (4 * cut - 1)

-- one more digit is cut off, after others
pub with_next_cut : (number significand digit cut : ℕ) (loss after : Loss) → 0 < cut → 2 ^ 124 ≤ significand
    → IsKeptAt number significand loss cut → ((half : ℕ) → 0 < half → StandsFor significand loss number (2 * half)
    → StandsFor significand after (number * 16 + digit) (16 * (2 * half)))
    → IsKeptAt (number * 16 + digit) significand after (cut + 1)
with_next_cut number significand digit cut loss after p full k step =
    let before : StandsFor significand loss number (2 * 2 ^ (4 * cut - 1)) =
    subst (λ (u : ℕ). StandsFor significand loss number u) (even cut p) k.stands in
    let u : 16 * (2 * 2 ^ (4 * cut - 1)) ≡ 2 ^ (4 * (cut + 1)) = ap (λ (x : ℕ). 16 * x) (sym (even cut p)) ∙
    sym (sixteenfold cut) in
    record {
      stands = subst (λ (x : ℕ). StandsFor significand after (number * 16 + digit) x) u
          (step (2 ^ (4 * cut - 1)) (pow_pos (4 * cut - 1)) before);
      exact = λ e. absurd (omega (arith, e));
      full = inr full;
    }

-- the first digit is cut off
pub with_first_cut : (number significand digit cut : ℕ) (loss after : Loss) → cut ≡ 0
    → 2 ^ 124 ≤ significand → IsKeptAt number significand loss cut
    → ((quotient amount unit : ℕ) → 0 < unit → StandsFor (quotient * (2 * 8) + digit) ExactlyZero amount unit
    → StandsFor quotient after amount (2 * 8 * unit)) → IsKeptAt (number * 16 + digit) significand after (cut + 1)
with_first_cut number significand digit cut loss after none full k step =
    let l : loss ≡ ExactlyZero = k.exact none in
    let one : 2 ^ (4 * cut) ≡ 1 = ap (λ (n : ℕ). 2 ^ (4 * n)) none in
    let s : number ≡ significand * 2 ^ (4 * cut) =
    subst (λ (x : Loss). StandsFor significand x number (2 ^ (4 * cut))) l k.stands in
    let t : number ≡ significand * 1 = s ∙ ap (λ (n : ℕ). significand * n) one in
    let u : 2 * 8 * 1 ≡ 2 ^ (4 * (cut + 1)) = ap (λ (n : ℕ). 16 * n) (sym one) ∙ sym (sixteenfold cut) in
    record {
      stands = subst (λ (x : ℕ). StandsFor significand after (number * 16 + digit) x) u
          (step significand (number * 16 + digit) 1 (omega arith) (omega arith));
      exact = λ e. absurd (omega (arith, e));
      full = inr full;
    }
