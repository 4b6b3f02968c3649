-- Texts that are put into a buffer, one after the other.
use Rattle.std.proofs.Common.{◌≡◌, ℕ, List, [], ◌++◌, take, ap, sym, ◌∙◌, subst, arith}
use Rattle.std.proofs.lemmas.List.{append_assoc, append-nil, length-append}
use Rattle.apfloat_decimals.specs.{Buffers.IsPut, Texts.AreZerosFrom}

pub put_nothing : (bytes : List ℕ) (at : ℕ) → AreZerosFrom at bytes → IsPut bytes at [] bytes at
put_nothing bytes at zeros = record { taken = sym (append-nil (take at bytes)); moved = omega arith; zeros = zeros }

pub put_same : {old text other new : List ℕ} {at end : ℕ} → text ≡ other → IsPut old at text new end
    → IsPut old at other new end
put_same {old = old} {new = new} {at = at} {end = end} same x = subst (λ (t : List ℕ). IsPut old at t new end) same x

pub put_then : {old mid new first second : List ℕ} {at between end : ℕ} → IsPut old at first mid between
    → IsPut mid between second new end → IsPut old at (first ++ second) new end
put_then {old = old} {first = first} {second = second} {at = at} x y =
    record {
      taken = y.taken ∙ ap (λ (t : List ℕ). t ++ second) x.taken ∙ append_assoc (take at old) first second;
      moved = omega (arith, length-append first second, x.moved, y.moved);
      zeros = y.zeros;
    }
