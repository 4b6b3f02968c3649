use Rattle.round_to_odd.proofs.RootsAgain.{root_rounded_once, own_root_rounded_once}
use Rattle.round_to_odd.proofs.theorems.rounding_roots_again_is_rounding_once.Goals as goal

pub returns-clause-own : goal.returns-clause-own
returns-clause-own c = own_root_rounded_once

pub returns-clause-in_another : goal.returns-clause-in_another
returns-clause-in_another c = root_rounded_once
