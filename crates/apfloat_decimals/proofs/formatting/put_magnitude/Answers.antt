use Rattle.std.proofs.Common.{◌≡◌, ◌∙◌, ◌+◌, ◌≤◌, Bool, true, false, if◌then◌else◌, List, ℕ, length, subst, sym, to_z}
use Rattle.std.proofs.{Common.of_z, Common.w32, lemmas.Int.to_z-of_z}
use Rattle.apfloat_decimals.specs.Texts.{magnitude_text, plain_text, scientific_text}
use Rattle.apfloat_decimals.proofs.spelled.{Lines.magnitude_by, PutTexts.put_same, PutTexts.put_then}
use Rattle.apfloat_decimals.proofs.formatting.put_magnitude.Goals.{After-is_plain}
use Rattle.apfloat_decimals.proofs.formatting.put_magnitude.Goals as goal

pub returns-then-digits-eq0 : goal.returns-then-digits-eq0
returns-then-digits-eq0 c =
    rw c.if-digits-eq0.true
    (put_then c.put_byte-at.ensures (put_then c.put_byte-at-then-digits-eq0.ensures c.put_byte.ensures))

-- the text of a nonzero number, as the test says
text_is : (c : After-is_plain) (plain : Bool) → c.is_plain.result ≡ plain
    → let e = to_z w32 (of_z w32 c.args.exponent) in
    (if plain then plain_text c.args.digits e else scientific_text c.args.digits e)
    ≡ magnitude_text c.args.digits c.args.exponent
text_is c plain is =
    let exact = to_z-of_z w32 c.args.exponent c.ranges.exponent in
    rw exact
    (magnitude_by c.args.digits c.args.exponent plain c.if-digits-eq0.false (sym (rw exact at c.is_plain.ensures) ∙ is))

-- it has room
room_is : (c : After-is_plain) (plain : Bool) → c.is_plain.result ≡ plain
    → let e = to_z w32 (of_z w32 c.args.exponent) in
    c.args.at + length (if plain then plain_text c.args.digits e else scientific_text c.args.digits e) ≤ 64
room_is c plain is = subst (λ (text : List ℕ). c.args.at + length text ≤ 64) (sym (text_is c plain is)) c.requires.room

pub put_plain-requires-clause-room : goal.put_plain-requires-clause-room
put_plain-requires-clause-room c =
    room_is (goal.at.put_plain-requires-clause-room c).After-is_plain true c.if-is_plain.true

pub returns-then-is_plain : goal.returns-then-is_plain
returns-then-is_plain c =
    put_same (text_is (goal.at.returns-then-is_plain c).After-is_plain true c.if-is_plain.true) c.put_plain.ensures

pub put_scientific-requires-clause-room : goal.put_scientific-requires-clause-room
put_scientific-requires-clause-room c =
    room_is (goal.at.put_scientific-requires-clause-room c).After-is_plain false c.if-is_plain.false

pub returns-else-is_plain : goal.returns-else-is_plain
returns-else-is_plain c =
    put_same (text_is (goal.at.returns-else-is_plain c).After-is_plain false c.if-is_plain.false)
    c.put_scientific.ensures
