use Rattle.std.proofs.Common.{sym}
use Rattle.apfloat_decimals.proofs.spelled.SpelledTexts.{other_fault, plain_fault}
use Rattle.apfloat_decimals.proofs.texts.read_decimal_ascii.Goals as goal

pub returns-then-not-is_plain : goal.returns-then-not-is_plain
returns-then-not-is_plain g c =
    let refused = c.in-Err-from_ascii_r.ensures in
    let plain = rw c.split_sign-negative.ensures.rest at c.if-not-is_plain.ensures in
    record {
      fault = refused.fault;
      is_first = other_fault c.args.text.now refused.fault (sym plain) refused.is_first;
      says = refused.says;
    }

pub returns-else-not-is_plain : goal.returns-else-not-is_plain
returns-else-not-is_plain g c =
    let refused = c.in-Err-from_ascii_r.ensures in
    let plain = rw c.split_sign-negative.ensures.rest at c.if-not-is_plain.ensures in
    let body = rw c.split_sign-negative.ensures.rest at c.in-Err.ensures in
    record {
      fault = c.in-Err.fault;
      is_first = plain_fault c.args.text.now c.in-Err.fault refused.fault (sym plain) refused.is_first body;
      says = c.refusal.ensures;
    }
