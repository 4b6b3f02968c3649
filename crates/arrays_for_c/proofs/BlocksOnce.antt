-- A call on blocks leaves one code, and determines what it writes.
use Rattle.std.proofs.Common.{◌≡◌, ℕ, ◌*◌, ◌%◌, ◌^◌, ◌<◌, List, [], ◌∷◌, length, Some}
use Rattle.std.proofs.Common.{None, Ok, Err, refl, sym, ap, ◌∙◌, subst, arith, lit≤}
use Rattle.std.specs.Prelude.{⊤, All, Option, Result}
use Rattle.apfloat_arrays.specs.declared.{Counts.Counts, scaled_blocks.ArrayError.ArrayError}
use Rattle.apfloat_arrays.specs.declared.scaled_blocks.{Dequantization.Dequantization, Quantization.Quantization}
use Rattle.apfloat_arrays.specs.{Bytes.AreBytes, scaled_blocks.OneArray.AreLeftIn}
use Rattle.apfloat_arrays.proofs.scaled_blocks_lemmas.OneArray.{dequantized_once, quantized_once}
use Rattle.small_formats.specs.declared.packing.PackingError.{PackingError}
use Rattle.small_formats.specs.declared.packing.PackingError.TheVariants.{Uneven, Lengths, CodeTooWide}
use Rattle.small_formats.specs.declared.blocks.ElementFormat.{ElementFormat}
use Rattle.small_formats.specs.declared.blocks.ElementFormat.TheVariants.{E3M2FN, E2M3FN, E2M1FN}
use Rattle.small_formats.specs.packing.{Laws.ArePackedOnce, Packed.IsPackedBy, Packed.IsUnpackedBy}
use Rattle.small_formats.proofs.packing_lemmas.All.{all_cons, all_none}
use Rattle.small_formats.proofs.blocks_lemmas.OneBlock.{not_both}
use Rattle.arrays_for_c.specs.{declared.array_data.ArrayAnswer.ArrayAnswer, Blocks.IsDequantizedReply}
use Rattle.arrays_for_c.specs.Blocks.{IsPackingCall, IsPackingReply, IsQuantizedReply, IsReply, packing_code}
use Rattle.arrays_for_c.specs.OneAnswer.{IsDequantizedCallOnce, IsLeftIn, IsPackedCallOnce, IsQuantizedCallOnce}
use Rattle.arrays_for_c.specs.OneAnswer.{IsUnpackedCallOnce}

-- ---- arrays

left_in : (old new : List ℕ) → IsLeftIn old new → AreLeftIn old new
left_in old new a = record { are_bytes = a.are_bytes; size = a.size }

same_reply : (made again : Result Counts ArrayError) (before after also : ArrayAnswer) (code other : ℕ)
    → made ≡ again → IsReply made before after code → IsReply again before also other
    → (code ≡ other) × (after ≡ also)
same_reply made again before after also code other same x y =
    one made x (subst (λ (m : Result Counts ArrayError). IsReply m before also other) (sym same) y)
  where
    one : (m : Result Counts ArrayError) → IsReply m before after code → IsReply m before also other
        → (code ≡ other) × (after ≡ also)
    one (Ok counts) p q = (p.0 ∙ sym q.0, p.1 ∙ sym q.1)
    one (Err error) p q = (p.0 ∙ sym q.0, p.1 ∙ sym q.1)

quantized_reply_once : (q : Quantization) (values before scales other_scales old first second : List ℕ)
    (answer after also : ArrayAnswer) (code other : ℕ) → IsLeftIn old first → IsLeftIn old second
    → IsQuantizedReply q values before scales old first answer after code
    → IsQuantizedReply q values before other_scales old second answer also other
    → (code ≡ other) × (scales ≡ other_scales) × (first ≡ second) × (after ≡ also)
quantized_reply_once q values before scales other_scales old first second answer after also code other a b x y =
    let same = quantized_once q values before scales other_scales old first second x.made y.made
    (left_in old first a) (left_in old second b) x.is_made y.is_made in
    let replies = same_reply x.made y.made answer after also code other same.2 x.is_reply y.is_reply in
    (replies.0, same.0, same.1, replies.1)

pub quantized_call_once : IsQuantizedCallOnce
quantized_call_once (Ok q) values before scales other_scales old first second answer after also code other a b x y =
    quantized_reply_once q values before scales other_scales old first second answer after also code other a b x y
quantized_call_once (Err e) values before scales other_scales old first second answer after also code other a b x y =
    (x.0 ∙ sym y.0, x.1 ∙ sym y.1, x.2 ∙ sym y.2, x.3 ∙ sym y.3)

dequantized_reply_once : (q : Dequantization) (scales codes old first second : List ℕ)
    (before after also : ArrayAnswer) (code other : ℕ) → IsLeftIn old first → IsLeftIn old second
    → IsDequantizedReply q scales codes old first before after code
    → IsDequantizedReply q scales codes old second before also other
    → (code ≡ other) × (first ≡ second) × (after ≡ also)
dequantized_reply_once q scales codes old first second before after also code other a b x y =
    let same = dequantized_once q scales codes old first second x.made y.made (left_in old first a)
    (left_in old second b) x.is_made y.is_made in
    let replies = same_reply x.made y.made before after also code other same.1 x.is_reply y.is_reply in
    (replies.0, same.0, replies.1)

pub dequantized_call_once : IsDequantizedCallOnce
dequantized_call_once (Ok q) scales codes old first second before after also code other a b x y =
    dequantized_reply_once q scales codes old first second before after also code other a b x y
dequantized_call_once (Err e) scales codes old first second before after also code other a b x y =
    (x.0 ∙ sym y.0, x.1 ∙ sym y.1, x.2 ∙ sym y.2)

-- ---- packed codes

-- codes of these widths that fill whole bytes fill whole groups
abbrev FillGroups : ℕ → ℕ → Type 0
FillGroups bits group = (codes bytes : ℕ) → 8 * bytes ≡ bits * codes → codes % group ≡ 0

fours_fill : FillGroups 4 2
fours_fill codes bytes same = omega (arith, same)

sixes_fill : FillGroups 6 4
sixes_fill codes bytes same = omega (arith, same)

all_bytes : (bytes : List ℕ) → AreBytes bytes → All (λ byte. byte < 2 ^ 8) bytes
all_bytes [] h = all_none (λ (byte : ℕ). byte < 2 ^ 8)
all_bytes (byte ∷ bytes) h = all_cons (λ (n : ℕ). n < 2 ^ 8) byte bytes h.0 (all_bytes bytes h.1)

-- as many bytes are left as there were
kept_size : (bits codes : ℕ) (old new : List ℕ) → length new ≡ length old → 8 * length new ≡ bits * codes
    → 8 * length old ≡ bits * codes
kept_size bits codes old new size same = ap (λ (n : ℕ). 8 * n) (sym size) ∙ same

packed_once : ArePackedOnce → (bits group : ℕ) (codes old first second : List ℕ)
    (made again : Result ⊤ PackingError) → FillGroups bits group → IsLeftIn old first → IsLeftIn old second
    → IsPackedBy bits group codes old first made → IsPackedBy bits group codes old second again
    → (first ≡ second) × (made ≡ again)
packed_once once bits group codes old first second (Ok d) (Ok e) fill a b x y =
    (once.bytes bits codes first second (all_bytes first a.are_bytes) (all_bytes second b.are_bytes) x y, refl)
packed_once once bits group codes old first second (Ok d) (Err Uneven) fill a b x y =
    absurd (y.0 (fill (length codes) (length first) x.same_bits))
packed_once once bits group codes old first second (Ok d) (Err Lengths) fill a b x y =
    absurd (y.1 (kept_size bits (length codes) old first a.size x.same_bits))
packed_once once bits group codes old first second (Ok d) (Err CodeTooWide) fill a b x y =
    absurd (not_both bits codes x.codes_fit y.2)
packed_once once bits group codes old first second (Err Uneven) (Ok e) fill a b x y =
    absurd (x.0 (fill (length codes) (length second) y.same_bits))
packed_once once bits group codes old first second (Err Uneven) (Err Uneven) fill a b x y = (x.1 ∙ sym y.1, refl)
packed_once once bits group codes old first second (Err Uneven) (Err Lengths) fill a b x y = absurd (x.0 y.0)
packed_once once bits group codes old first second (Err Uneven) (Err CodeTooWide) fill a b x y = absurd (x.0 y.0)
packed_once once bits group codes old first second (Err Lengths) (Ok e) fill a b x y =
    absurd (x.1 (kept_size bits (length codes) old second b.size y.same_bits))
packed_once once bits group codes old first second (Err Lengths) (Err Uneven) fill a b x y = absurd (y.0 x.0)
packed_once once bits group codes old first second (Err Lengths) (Err Lengths) fill a b x y = (x.2 ∙ sym y.2, refl)
packed_once once bits group codes old first second (Err Lengths) (Err CodeTooWide) fill a b x y = absurd (x.1 y.1)
packed_once once bits group codes old first second (Err CodeTooWide) (Ok e) fill a b x y =
    absurd (not_both bits codes y.codes_fit x.2)
packed_once once bits group codes old first second (Err CodeTooWide) (Err Uneven) fill a b x y = absurd (y.0 x.0)
packed_once once bits group codes old first second (Err CodeTooWide) (Err Lengths) fill a b x y = absurd (y.1 x.1)
packed_once once bits group codes old first second (Err CodeTooWide) (Err CodeTooWide) fill a b x y =
    (x.3 ∙ sym y.3, refl)

-- ---- codes taken out

unpacked_once : ArePackedOnce → (bits group : ℕ) (bytes old first second : List ℕ)
    (made again : Result ⊤ PackingError) → 0 < bits → FillGroups bits group → length first ≡ length old
    → length second ≡ length old → IsUnpackedBy bits group bytes old first made
    → IsUnpackedBy bits group bytes old second again → (first ≡ second) × (made ≡ again)
unpacked_once once bits group bytes old first second (Ok d) (Ok e) some fill a b x y =
    (once.codes bits first second bytes some x y, refl)
unpacked_once once bits group bytes old first second (Ok d) (Err Uneven) some fill a b x y =
    absurd (y.0 (ap (λ (n : ℕ). n % group) (sym a) ∙ fill (length first) (length bytes) x.same_bits))
unpacked_once once bits group bytes old first second (Ok d) (Err Lengths) some fill a b x y =
    absurd (y.1 (x.same_bits ∙ ap (λ (n : ℕ). bits * n) a))
unpacked_once once bits group bytes old first second (Err Uneven) (Ok e) some fill a b x y =
    absurd (x.0 (ap (λ (n : ℕ). n % group) (sym b) ∙ fill (length second) (length bytes) y.same_bits))
unpacked_once once bits group bytes old first second (Err Uneven) (Err Uneven) some fill a b x y =
    (x.1 ∙ sym y.1, refl)
unpacked_once once bits group bytes old first second (Err Uneven) (Err Lengths) some fill a b x y = absurd (x.0 y.0)
unpacked_once once bits group bytes old first second (Err Lengths) (Ok e) some fill a b x y =
    absurd (x.1 (y.same_bits ∙ ap (λ (n : ℕ). bits * n) b))
unpacked_once once bits group bytes old first second (Err Lengths) (Err Uneven) some fill a b x y = absurd (y.0 x.0)
unpacked_once once bits group bytes old first second (Err Lengths) (Err Lengths) some fill a b x y =
    (x.2 ∙ sym y.2, refl)
unpacked_once once bits group bytes old first second made (Err CodeTooWide) some fill a b x y = absurd y
unpacked_once once bits group bytes old first second (Err CodeTooWide) again some fill a b x y = absurd x

-- ---- calls

-- of what was lent, one content is left, and one value returned
abbrev LeavesOne : (List ℕ → List ℕ → List ℕ → Result ⊤ PackingError → Type 0) → Type 0
LeavesOne Says =
    (given old first second : List ℕ) (made again : Result ⊤ PackingError) → IsLeftIn old first
    → IsLeftIn old second → Says given old first made → Says given old second again
    → (first ≡ second) × (made ≡ again)

reply_once : (Says : List ℕ → List ℕ → List ℕ → Result ⊤ PackingError → Type 0) → LeavesOne Says
    → (given old first second : List ℕ) (code other : ℕ) → IsLeftIn old first → IsLeftIn old second
    → IsPackingReply Says given old first code → IsPackingReply Says given old second other
    → (code ≡ other) × (first ≡ second)
reply_once Says one given old first second code other a b x y =
    let same = one given old first second x.made y.made a b x.is_made y.is_made in
    (x.code_is ∙ ap packing_code same.1 ∙ sym y.code_is, same.0)

call_once : (Says : ℕ → ℕ → List ℕ → List ℕ → List ℕ → Result ⊤ PackingError → Type 0)
    → LeavesOne (Says 6 4) → LeavesOne (Says 4 2) → (element : Option ElementFormat)
    (given old first second : List ℕ) (code other : ℕ)
    → IsLeftIn old first → IsLeftIn old second → IsPackingCall Says element given old first code
    → IsPackingCall Says element given old second other → (code ≡ other) × (first ≡ second)
call_once Says sixes fours None given old first second code other a b x y = (x.0 ∙ sym y.0, x.1 ∙ sym y.1)
call_once Says sixes fours (Some E3M2FN) given old first second code other a b x y =
    reply_once (Says 6 4) sixes given old first second code other a b x y
call_once Says sixes fours (Some E2M3FN) given old first second code other a b x y =
    reply_once (Says 6 4) sixes given old first second code other a b x y
call_once Says sixes fours (Some E2M1FN) given old first second code other a b x y =
    reply_once (Says 4 2) fours given old first second code other a b x y
call_once Says sixes fours (Some element) given old first second code other a b x y = (x.0 ∙ sym y.0, x.1 ∙ sym y.1)

pub packed_call_once : ArePackedOnce → IsPackedCallOnce
packed_call_once once =
    call_once IsPackedBy (λ codes old first second made again. packed_once once 6 4 codes old first second made again
    sixes_fill)
    (λ codes old first second made again. packed_once once 4 2 codes old first second made again fours_fill)

pub unpacked_call_once : ArePackedOnce → IsUnpackedCallOnce
unpacked_call_once once =
    call_once IsUnpackedBy (λ bytes old first second made again a b. unpacked_once once 6 4 bytes old first second made
    again (lit≤ tt) sixes_fill a.size b.size)
    (λ bytes old first second made again a b. unpacked_once once 4 2 bytes old first second made again (lit≤ tt)
    fours_fill a.size b.size)
