use Rattle.std.proofs.Common.{◌≡◌, take}
use Rattle.apfloat_decimals.specs.LeadingDigits.{number_from}
use Rattle.apfloat_decimals.proofs.parsing.followed_by.Given as goal

abbrev pub invariant-loop-i : goal.invariant-loop-i
invariant-loop-i l = l.all ≡ number_from l.number (take l.i l.digits)
