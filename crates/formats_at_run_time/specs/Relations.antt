-- What the operations of a type of values return: those of a type that implements `Float`, those of a format, and those
-- of pairs of doubles.
use Rattle.std.specs.{Prelude.Option, declared.cmp.Ordering.Ordering}
use Rattle.apfloat_base.specs.declared.float.Float.{Ghosts}
use Rattle.rustc_apfloat.specs.{declared.Round.Round, declared.StatusAnd.StatusAnd, Flags.Gives, Datum.Datum}
use Rattle.rustc_apfloat.specs.Lawful.{Constants, format_with, layout_with}
use Rattle.rustc_apfloat.specs.{Meaning.Meaning, FormatMeaning.format_meaning, Order.compared, PairMeaning.pair_meaning}
use Rattle.rustc_apfloat.specs.{PairParts.compared_pairs, PairRoots.IsPairRoot, Pairs.Pair, Roots.IsRoot}

pub record Relations (A : Type 0) : Type 1 where
  -- what the calls of `Float` return
  pub meaning : Meaning A
  -- the order of two values, where they have one
  pub order : A → A → Option Ordering
  -- the square root of a value
  pub takes_root : A → Round → StatusAnd A → Type 0

-- from the ghost members of `Float`, the order of `PartialOrd`, and the square root of `ValueType`
abbrev pub relations_of : {X : Type 0} → Ghosts X → (X → X → Option Ordering)
    → (X → Round → StatusAnd X → Type 0) → Relations X
relations_of g order takes_root = record { meaning = g.meaning; order = order; takes_root = takes_root }

-- the relations of a format
abbrev pub in_format : Constants → Relations Datum
in_format c =
    record {
      meaning = format_meaning (format_with c) (layout_with c);
      order = compared;
      takes_root = λ x mode answer. Gives (IsRoot (format_with c) mode x) answer;
    }

-- the relations of pairs of doubles
abbrev pub in_pairs : Relations Pair
in_pairs =
    record {
      meaning = pair_meaning;
      order = compared_pairs;
      takes_root = λ x mode answer. Gives (IsPairRoot mode x) answer;
    }
