-- Elements whose operands and result are normal numbers.
use Rattle.std.proofs.Common.{◌≡◌, ℕ, ◌*◌, ◌/◌, ◌%◌, ◌^◌, ◌<◌, ◌≤◌, pos, false, List}
use Rattle.std.proofs.Common.{sym, refl, ap, ◌∙◌, subst, arith, lit≤}
use Rattle.rustc_apfloat.specs.{Classes.is_nan, Datum.Datum, Flags.bits_of, Lawful.Constants, Lawful.format_with}
use Rattle.rustc_apfloat.specs.{Lawful.layout_with, Layout.IsEncodedBy, declared.Round.Round, declared.Status.Status}
use Rattle.formats_at_run_time.specs.declared.Arithmetic.{Arithmetic, TheVariants.Sum}
use Rattle.formats_at_run_time.specs.declared.FlaggedKind.{FlaggedKind, TheVariants.OfFormat, TheVariants.Pairs}
use Rattle.formats_at_run_time.specs.{FlaggedKinds.flagged_kind_of, OfTwo.IsOfTwo, Relations.in_format}
use Rattle.formats_at_run_time.specs.ValueKinds.{bits_in, of_format, value_of}
use Rattle.apfloat_arrays.specs.Bytes.{number_of}
use Rattle.apfloat_arrays.proofs.{LittleEndian.fits, WidthBounds.flagged_room}
use Rattle.fast_bits.specs.{declared.encoded.Encoded.Encoded, Encoded.IsNumberAnswer}
use Rattle.arrays_for_c.specs.declared.array_calls.{ElementOperation.TheVariants.OfTwo, MapCall.MapCall}
use Rattle.arrays_for_c.specs.{declared.array_data.Element.Element, ArrayCalls.bytes_in}
use Rattle.arrays_for_c.specs.Arrays.{IsElement, call_of, relation_of_two}
use Rattle.coded_calls.specs.{declared.data.Halves.Halves, Answers.IsKindAnswer, Answers.whole}

-- the bits of a value of a kind fit in the bytes of an element
kind_fits : (kind : FlaggedKind) → bits_in (flagged_kind_of kind) ≤ 8 * bytes_in kind
kind_fits (OfFormat format) = flagged_room format
kind_fits Pairs = lit≤ tt

-- the bits of a value fit in the bytes of an element of its kind
pub normal_fits : (c : Constants) (kind : FlaggedKind) (bits : ℕ) (value : Datum)
    → of_format c ≡ flagged_kind_of kind
    → IsEncodedBy (format_with c) (layout_with c) bits value → bits < 256 ^ bytes_in kind
normal_fits c kind bits value same is =
    fits bits c.bits (bytes_in kind) is.below
    (subst (λ (n : ℕ). n ≤ 8 * bytes_in kind) (sym (ap bits_in same)) (kind_fits kind))

-- the halves of bits
abbrev halves_of : ℕ → Halves
halves_of bits = record { low = bits % 2 ^ 64; high = bits / 2 ^ 64 }

whole_halves : (bits : ℕ) → whole (halves_of bits) ≡ bits
whole_halves bits = omega arith

-- what an operation gives, as calls on single values have it
of_two : (c : Constants) (arithmetic : Arithmetic) (mode : Round) (x y value : Datum) (status : Status)
    → relation_of_two c arithmetic mode x y value (bits_of status)
    → IsOfTwo (in_format c) arithmetic mode x y (record { status = status; value = value })
of_two c Sum mode x y value status given = given
of_two c arithmetic mode x y value status given = given

-- a number in bits is the element that a call gives
normal_in_format : (c : Constants) (mode : Round) (arithmetic : Arithmetic) (x y : ℕ) (encoded : Encoded)
    → IsNumberAnswer c (relation_of_two c arithmetic mode (value_of c x) (value_of c y)) encoded
    → IsKindAnswer (of_format c) mode (call_of (OfTwo arithmetic) x y 0)
    (record { bits = halves_of encoded.bits; status = bits_of encoded.status; number = pos 0 })
normal_in_format c mode arithmetic x y encoded is =
    let answer = is.is_answer in
    record {
      given = record { status = encoded.status; value = answer.value };
      holds = of_two c arithmetic mode (value_of c x) (value_of c y) answer.value encoded.status answer.says;
      is_written = record {
        is_encoded =
            subst (λ (bits : ℕ). IsEncodedBy (format_with c) (layout_with c) bits answer.value)
            (sym (whole_halves encoded.bits)) answer.is_encoded;
        status_is = refl;
        number_is = refl;
      };
    }

pub normal_element : (c : Constants) (map : MapCall) (arithmetic : Arithmetic) (x y z : ℕ) (encoded : Encoded)
    (bytes : List ℕ) (element : Element) → of_format c ≡ flagged_kind_of map.kind
    → map.operation ≡ OfTwo arithmetic
    → IsNumberAnswer c (relation_of_two c arithmetic map.round (value_of c x) (value_of c y)) encoded
    → number_of bytes ≡ encoded.bits → element.status ≡ bits_of encoded.status → element.is_nan ≡ false
    → IsElement map x y z bytes element
normal_element c map arithmetic x y z encoded bytes element kind operation is bytes_are status_is nan_is =
    record {
      answer = record { bits = halves_of encoded.bits; status = bits_of encoded.status; number = pos 0 };
      is_answer = rw (sym kind, operation) (normal_in_format c map.round arithmetic x y encoded is);
      bits_are = bytes_are ∙ sym (whole_halves encoded.bits);
      status_is = status_is;
      nan_is = rw (sym kind) (nan_is ∙ sym (ap (λ (n : ℕ). is_nan (value_of c n)) (whole_halves encoded.bits)
          ∙ is.is_number));
    }
