use Rattle.std.proofs.Common.{◌≡◌, ◌+◌, ◌-◌, ◌*◌, ◌^◌, ◌≤◌, length, take}
use Rattle.apfloat_decimals.specs.LeadingDigits.{number_from}
use Rattle.apfloat_decimals.proofs.texts.first_digits.number_after.Given as goal

abbrev pub invariant-loop-i : goal.invariant-loop-i
invariant-loop-i l = record {
  number : l.number ≡ number_from l.first (take l.i l.digits);
  fits : (l.number + 1) * 10 ^ (length l.digits - l.i) ≤ (l.first + 1) * 10 ^ length l.digits;
}
