-- The chain of a sum of pairs is sound, so that it leads to one result with one status, whose flags go together.
use Rattle.std.proofs.Common.{◌≡◌, ℕ, Bool, true, false, subst, if◌then◌else◌}
use Rattle.apfloat_model.specs.declared.kinds.{Round.Round, NonfiniteBehavior.TheVariants.IEEE754, Category.Category}
use Rattle.apfloat_model.specs.declared.kinds.Category.TheVariants.{Normal, Infinity, NaN}
use Rattle.apfloat_model.specs.formats.{Datum.Datum, Format.Format}
use Rattle.apfloat_model.specs.rounding.{Rounding.ok_bits, Negation.negated, RaisedFlags.FlagsGoTogether}
use Rattle.apfloat_model.specs.rounding.Steps.{Steps, ends, after, Leads, AreSound}
use Rattle.apfloat_model.specs.arithmetic.Exact.{same_sign}
use Rattle.apfloat_model.specs.order.Classes.{is_negative, is_finite, is_infinite, same_datum}
use Rattle.apfloat_model.proofs.Outcomes.{sum_sound, difference_sound}
use Rattle.apfloat_model.proofs.rounding.StatusesTogether.{ok_together, invalid_together, union_together}
use Rattle.apfloat_pair_theory.specs.PairFormats.{double}
use Rattle.apfloat_pair_theory.specs.Pairs.{Pair, alone, positive_zero, pair_category}
use Rattle.apfloat_pair_theory.specs.PairSums.{◌∪◌, greater, lesser, continued, closing_low, closing, lost, finite_sum}
use Rattle.apfloat_pair_theory.specs.PairSums.{sum_anew_low, sum_anew, sum_of_numbers, sum_of_categories, pair_sum}

-- ---- chains made of chains

pub sound_if : (test : Bool) (one other : Steps Pair) → AreSound one → AreSound other
    → AreSound (if test then one else other)
sound_if true one other h k = h
sound_if false one other h k = k

-- a chain that goes on by a test goes on by its value
pub at_test : (mode : Round) (test value : Bool) (one other : Steps Pair) (answer : Pair) (status : ℕ) → test ≡ value
    → Leads double mode (if test then one else other) answer status
    → Leads double mode (if value then one else other) answer status
at_test mode test value one other answer status e h =
    subst (λ (b : Bool). Leads double mode (if b then one else other) answer status) e h

pub continued_sound : {A B : Type 0} (steps : Steps A) (next : A → ℕ → Steps B) → AreSound steps
    → ((given : A) (flags : ℕ) → FlagsGoTogether flags → AreSound (next given flags)) → AreSound (continued steps next)
continued_sound (ends given flags) next h k = k given flags h
continued_sound (after outcome more) next h k =
    (h.0, λ datum flags f. continued_sound (more datum flags) next (h.1 datum flags f) k)

pub continued_leads : {A B : Type 0} (f : Format) (mode : Round) (steps : Steps A) (next : A → ℕ → Steps B) (given : A)
    (flags : ℕ) (value : B) (status : ℕ) → Leads f mode steps given flags
    → Leads f mode (next given flags) value status → Leads f mode (continued steps next) value status
continued_leads f mode (ends end s) next given flags value status x y =
    subst (λ (a : _). Leads f mode (next a s) value status) x.0
    (subst (λ (t : ℕ). Leads f mode (next given t) value status) x.1 y)
continued_leads f mode (after outcome more) next given flags value status x y =
    (x.0, x.1, x.2, continued_leads f mode (more x.0 x.1) next given flags value status x.3 y)

-- ---- one step, and the steps after it

pub sound_after : {IsFirst : Type 0} {Rest : Datum → ℕ → Type 0} → IsFirst
    → ((datum : Datum) (flags : ℕ) → FlagsGoTogether flags → Rest datum flags)
    → IsFirst × ((datum : Datum) (flags : ℕ) → FlagsGoTogether flags → Rest datum flags)
sound_after h k = (h, k)

pub step : {First Rest : Datum → ℕ → Type 0} (datum : Datum) (flags : ℕ) → First datum flags → Rest datum flags
    → (d : Datum) × (s : ℕ) × First d s × Rest d s
step datum flags h k = (datum, flags, h, k)

-- ---- the steps of a sum

closing_low_sound : (z zz h : Datum) (flags : ℕ) → FlagsGoTogether flags → AreSound (closing_low z zz h flags)
closing_low_sound z zz h flags f =
    sound_after (difference_sound double z h) (λ left s g. sound_after (sum_sound double left zz) (λ low t k.
    union_together (flags ∪ s) t (union_together flags s f g) k))

pub closing_sound : (z zz : Datum) (flags : ℕ) → FlagsGoTogether flags → AreSound (closing z zz flags)
closing_sound z zz flags f =
    sound_after (sum_sound double z zz) (λ h s g.
    let k = union_together flags s f g in
    sound_if (is_finite h) (closing_low z zz h (flags ∪ s)) (ends (alone h) (flags ∪ s))
    (closing_low_sound z zz h (flags ∪ s) k) k)

lost_sound : (a aa c cc z : Datum) → AreSound (lost a aa c cc z)
lost_sound a aa c cc z =
    sound_after (difference_sound double a z) (λ q s f. sound_after (sum_sound double q c) (λ l t g.
    sound_after (sum_sound double q z) (λ r u k. sound_after (difference_sound double r a) (λ n v m.
    sound_after (sum_sound double l (negated IEEE754 n)) (λ e w o. sound_after (sum_sound double e aa) (λ b x p.
    sound_after (sum_sound double b cc) (λ zz y i.
    union_together _ y (union_together _ x (union_together _ w (union_together _ v
    (union_together _ u (union_together s t f g) k) m) o) p) i)))))))

finite_sum_sound : (x y : Pair) (z : Datum) (flags : ℕ) → FlagsGoTogether flags → AreSound (finite_sum x y z flags)
finite_sum_sound x y z flags f =
    continued_sound (lost x.high x.low y.high y.low z)
    (λ zz s. if same_datum zz positive_zero then ends (alone z) ok_bits else closing z zz (flags ∪ s))
    (lost_sound x.high x.low y.high y.low z)
    (λ zz s g. sound_if (same_datum zz positive_zero) (ends (alone z) ok_bits) (closing z zz (flags ∪ s)) ok_together
    (closing_sound z zz (flags ∪ s) (union_together flags s f g)))

sum_anew_low_sound : (x y : Pair) (z : Datum) (flags : ℕ) → FlagsGoTogether flags → AreSound (sum_anew_low x y z flags)
sum_anew_low_sound x y z flags f =
    sound_after (sum_sound double x.low y.low) (λ zz s g.
    sound_after (difference_sound double (greater x.high y.high) z) (λ left t h.
    sound_after (sum_sound double left (lesser x.high y.high)) (λ w u k. sound_after (sum_sound double w zz) (λ low v m.
    union_together _ v (union_together _ u (union_together _ t (union_together flags s f g) h) k) m))))

sum_anew_sound : (x y : Pair) → AreSound (sum_anew x y)
sum_anew_sound x y =
    sound_after (sum_sound double y.low x.low) (λ lows s f.
    sound_after (sum_sound double lows (lesser x.high y.high)) (λ w t g.
    sound_after (sum_sound double w (greater x.high y.high)) (λ z u h.
    let k = union_together (s ∪ t) u (union_together s t f g) h in
    sound_if (is_finite z) (sum_anew_low x y z (s ∪ t ∪ u)) (ends (alone z) (s ∪ t ∪ u))
    (sum_anew_low_sound x y z (s ∪ t ∪ u) k) k)))

sum_of_numbers_sound : (x y : Pair) → AreSound (sum_of_numbers x y)
sum_of_numbers_sound x y =
    sound_after (sum_sound double x.high y.high) (λ z s f. sound_if (is_infinite z) (sum_anew x y) (finite_sum x y z s)
    (sum_anew_sound x y) (finite_sum_sound x y z s f))

sum_of_categories_sound : (first second : Category) (x y : Pair) → AreSound (sum_of_categories first second x y)
sum_of_categories_sound Infinity Infinity x y =
    sound_if (same_sign (is_negative x.high) (is_negative y.high)) _ _ ok_together invalid_together
sum_of_categories_sound Normal Normal x y = sum_of_numbers_sound x y
sum_of_categories_sound first NaN x y = ok_together
sum_of_categories_sound first second x y = ok_together

pub pair_sum_sound : (x y : Pair) → AreSound (pair_sum x y)
pair_sum_sound x y = sum_of_categories_sound (pair_category x) (pair_category y) x y
