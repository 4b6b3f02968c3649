-- Which built-in formats have room for others.
use Rattle.std.proofs.Common.{◌≡◌, ℕ, ◌+◌, ◌≤◌, Bool, true, false, cond, refl, arith, lit≤}
use Rattle.apfloat_model.specs.{declared.kinds.NonfiniteBehavior.TheVariants.IEEE754, formats.Formats.half_constants}
use Rattle.apfloat_model.specs.formats.Formats.{single_constants, double_constants, quad_constants, bfloat_constants}
use Rattle.apfloat_model.specs.formats.Formats.{e5m2_constants, e4m3fn_constants, e4m3fnuz_constants, x87_constants}
use Rattle.apfloat_model.specs.{formats.Lawful.Constants, formats.Lawful.format_with, rounding.Standing.reads_halves}
use Rattle.round_to_odd.specs.Rooms.{HaveRoom, AreRooms, HasNoRoom}

at_most_an_eighth : (halves : Bool) → cond halves 3 2 ≤ 3
at_most_an_eighth true = lit≤ tt
at_most_an_eighth false = lit≤ tt

-- a quantum of at most an eighth will do with the flags of IEEE 754 and without them
room : (g f : Constants) → f.nonfinite ≡ IEEE754 → g.precision + 2 ≤ f.precision
    → (format_with g).scale + 3 ≤ (format_with f).scale → g.precision + (format_with g).span + (format_with f).scale
    ≤ f.precision + (format_with f).span + (format_with g).scale → HaveRoom g f
room g f kind digits quantum exponents ieee =
    let few = at_most_an_eighth (reads_halves (format_with (record g { ieee_flags = ieee }))) in
    record { kind = kind; digits = digits; quantum = omega (arith, few, quantum); exponents = exponents; flags = refl }

pub rooms : AreRooms
rooms = record {
  e5m2_in_half = room e5m2_constants half_constants refl (lit≤ tt) (lit≤ tt) (lit≤ tt);
  e4m3fn_in_half = room e4m3fn_constants half_constants refl (lit≤ tt) (lit≤ tt) (lit≤ tt);
  e4m3fnuz_in_half = room e4m3fnuz_constants half_constants refl (lit≤ tt) (lit≤ tt) (lit≤ tt);
  half_in_single = room half_constants single_constants refl (lit≤ tt) (lit≤ tt) (lit≤ tt);
  bfloat_in_single = room bfloat_constants single_constants refl (lit≤ tt) (lit≤ tt) (lit≤ tt);
  single_in_double = room single_constants double_constants refl (lit≤ tt) (lit≤ tt) (lit≤ tt);
  double_in_x87 = room double_constants x87_constants refl (lit≤ tt) (lit≤ tt) (lit≤ tt);
  double_in_quad = room double_constants quad_constants refl (lit≤ tt) (lit≤ tt) (lit≤ tt);
}

pub no_room : HasNoRoom
no_room h = let k = h.quantum in omega (arith, k)
