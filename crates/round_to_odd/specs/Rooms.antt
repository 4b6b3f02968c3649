-- Which built-in formats have room for others.
use Rattle.std.specs.Prelude.{Bool}
use Rattle.apfloat_model.specs.formats.{Lawful.Constants, Lawful.format_with, Formats.half_constants}
use Rattle.apfloat_model.specs.formats.Formats.{single_constants, double_constants, quad_constants, bfloat_constants}
use Rattle.apfloat_model.specs.formats.Formats.{e5m2_constants, e4m3fn_constants, e4m3fnuz_constants, x87_constants}
use Rattle.round_to_odd.specs.Again.{HasRoomFor}

-- with the flags of IEEE 754 in both, and without them in either
abbrev pub HaveRoom : Constants → Constants → Type 0
HaveRoom g f =
    (ieee : Bool)
    → HasRoomFor (format_with (record g { ieee_flags = ieee })) (format_with (record f { ieee_flags = ieee }))

pub record AreRooms : Type 0 where
  pub e5m2_in_half : HaveRoom e5m2_constants half_constants
  pub e4m3fn_in_half : HaveRoom e4m3fn_constants half_constants
  pub e4m3fnuz_in_half : HaveRoom e4m3fnuz_constants half_constants
  pub half_in_single : HaveRoom half_constants single_constants
  pub bfloat_in_single : HaveRoom bfloat_constants single_constants
  pub single_in_double : HaveRoom single_constants double_constants
  pub double_in_x87 : HaveRoom double_constants x87_constants
  pub double_in_quad : HaveRoom double_constants quad_constants

-- half has no room for bfloat
abbrev pub HasNoRoom : Type 0
HasNoRoom = HasRoomFor (format_with bfloat_constants) (format_with half_constants) → ⊥
