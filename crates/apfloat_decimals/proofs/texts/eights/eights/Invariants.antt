use Rattle.std.proofs.Common.{◌≡◌, ◌-◌, ◌%◌, ◌^◌, ◌≤◌, length, take, true}
use Rattle.apfloat_model.specs.texts.Digits.{every, is_decimal}
use Rattle.apfloat_decimals.specs.LeadingDigits.{number_from}
use Rattle.apfloat_decimals.proofs.texts.eights.eights.Given as goal

abbrev pub invariant-loop-eight : goal.invariant-loop-eight
invariant-loop-eight l = record {
  within : l.count ≤ length l.text;
  digits : every is_decimal (take l.count l.text) ≡ true;
  number : l.number ≡ number_from l.first (take l.count l.text) % 2 ^ 64;
}

abbrev pub decreases-loop-eight : goal.decreases-loop-eight
decreases-loop-eight l = length l.text - l.count
