use Rattle.std.proofs.Common.{◌≡◌, false, Option, Some, refl, sym, ap, ◌∙◌}
use Rattle.std.specs.declared.cmp.Ordering.{Ordering}
use Rattle.apfloat_model.specs.{declared.status.Status.Status, formats.Nan.invalid_if, rounding.Flags.bits_of}
use Rattle.rustc_apfloat.specs.{Datum.Datum, Datum.finite, Datum.infinite, Datum.nan, Format.Format}
use Rattle.rustc_apfloat.specs.{FlaggedTypes.constants_of, Lawful.format_with, Order.compared}
use Rattle.ieee_operations.specs.{Comparisons.is_invalid, Predicates.relations_of, Relations.has}
use Rattle.ieee_operations.specs.declared.predicates.OnNan.{OnNan, TheVariants.Quiet, TheVariants.Signaling}
use Rattle.ieee_operations.specs.declared.predicates.Relations.{Relations}
use Rattle.formats_at_run_time.specs.ValueKinds.{value_of}
use Rattle.coded_calls.proofs.ieee_answers.predicated.Goals as goal

-- values that are in an order are no NaNs
valid_in_order : (f : Format) (on_nan : OnNan) (x y : Datum) (order : Ordering) → compared x y ≡ Some order
    → is_invalid f on_nan x y ≡ false
valid_in_order f Quiet (finite a m) (finite b n) order e = refl
valid_in_order f Quiet (finite a m) (infinite b) order e = refl
valid_in_order f Quiet (infinite a) (finite b n) order e = refl
valid_in_order f Quiet (infinite a) (infinite b) order e = refl
valid_in_order f Signaling (finite a m) (finite b n) order e = refl
valid_in_order f Signaling (finite a m) (infinite b) order e = refl
valid_in_order f Signaling (infinite a) (finite b n) order e = refl
valid_in_order f Signaling (infinite a) (infinite b) order e = refl
valid_in_order f on_nan (nan a s) y order e = cc
valid_in_order f on_nan (finite a m) (nan b t) order e = cc
valid_in_order f on_nan (infinite a) (nan b t) order e = cc

pub returns-in-Some : goal.returns-in-Some
returns-in-Some g c =
    let f = constants_of g.S.Flagged in
    let x = value_of f c.args.x in
    let y = value_of f c.args.y in
    let is : compared x y ≡ Some c.in-Some.order = sym c.compare_bits.ensures ∙ c.in-Some.is in
    record {
      given = c.and.result;
      holds = record {
        value_is = c.and.ensures.value ∙ c.has.ensures
            ∙ ap (λ (r : Relations). has r (Some c.in-Some.order)) c.relations.ensures
            ∙ ap (λ (o : Option Ordering). has (relations_of c.args.predicate) o) (sym is);
        status_is = ap (λ (s : Status). bits_of s) c.and.ensures.status
            ∙ ap invalid_if (sym (valid_in_order (format_with f) c.args.on_nan x y c.in-Some.order is));
      };
      bits_are = c.told.ensures.bits;
      status_is = c.told.ensures.status;
      number_is = c.told.ensures.number;
    }

pub returns : goal.returns
returns g c =
    rw (sym c.value-x.ensures, sym c.value-y.ensures)
    (record {
      given = c.compare.result;
      holds = c.compare.ensures;
      bits_are = c.told-2.ensures.bits;
      status_is = c.told-2.ensures.status;
      number_is = c.told-2.ensures.number;
    })
