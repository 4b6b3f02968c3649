use Rattle.std.proofs.Common.{◌≡◌, ℕ, Bool, true, false, if◌then◌else◌, List, take, drop, Option, None, refl}
use Rattle.std.proofs.{Common.rules, lemmas.List.take_rest}
use Rattle.apfloat_model.specs.texts.Digits.{begins}
use Rattle.apfloat_model.specs.texts.Specials.{is_s, is_nan_name, named_nan, payload_of, with_payload}
use Rattle.apfloat_conversions.specs.hex_texts.Payloads.{named_payload}
use Rattle.apfloat_conversions.proofs.hex_texts.special.nan.Goals as goal

meant : (named negative signaling : Bool) (payload : Option ℕ)
    → (if named then with_payload negative signaling payload else None)
    ≡ with_payload negative signaling (if named then payload else None)
meant true negative signaling payload = refl
meant false negative signaling payload = refl

-- the NaN of a name, by its payload
named_is : (negative signaling : Bool) (text : List ℕ)
    → named_nan negative signaling text ≡ with_payload negative signaling (named_payload text)
named_is negative signaling text = meant (is_nan_name (take 3 text)) negative signaling (payload_of (drop 3 text))

pub returns-in_err-payload_after_name-in-115 : goal.returns-in_err-payload_after_name-in-115
returns-in_err-payload_after_name-in-115 c = λ negative.
    let s : begins is_s c.args.body.now ≡ true = search rules in
    let p = rw (take_rest c.args.body.now 1) at c.in_err-payload_after_name-in-115.ensures in
    rw (s, c.from_residual.ensures, named_is negative true (drop 1 c.args.body.now), ← p) refl

pub returns-in_err-payload_after_name-in_default : goal.returns-in_err-payload_after_name-in_default
returns-in_err-payload_after_name-in_default c = λ negative.
    let s : begins is_s c.args.body.now ≡ false = search rules in
    rw (
      s,
      c.from_residual-in_err-payload_after_name-in_default.ensures,
      named_is negative false c.args.body.now,
      ← c.in_err-payload_after_name-in_default.ensures,
    ) refl

pub returns-in_ok-payload_after_name-in-115 : goal.returns-in_ok-payload_after_name-in-115
returns-in_ok-payload_after_name-in-115 c = λ negative.
    let s : begins is_s c.args.body.now ≡ true = search rules in
    let p = rw (take_rest c.args.body.now 1) at c.in_ok-payload_after_name-in-115.ensures in
    rw (s, named_is negative true (drop 1 c.args.body.now), ← p) refl

pub returns-in_ok-payload_after_name-in_default : goal.returns-in_ok-payload_after_name-in_default
returns-in_ok-payload_after_name-in_default c = λ negative.
    let s : begins is_s c.args.body.now ≡ false = search rules in
    rw (s, named_is negative false c.args.body.now, ← c.in_ok-payload_after_name-in_default.ensures) refl
