-- Blocks of finite elements, in a format that has the products of all of them.
use Rattle.std.proofs.Common.{◌≡◌, ◌^◌, ◌<◌, true}
use Rattle.apfloat_model.specs.order.Classes.{is_finite}
use Rattle.small_formats.specs.blocks.{Again.IsExactBlock, Elements.element_datum, Elements.width}
use Rattle.small_formats.proofs.blocks_lemmas.again.Lists.{all_at}

pub exact_block : IsExactBlock
exact_block element g mode scale codes old values counts exact number d =
    let scaled = d.3 in
    let places = scaled.in_places in
    record {
      flags = scaled.flags;
      counted = scaled.counted;
      in_places = record {
        same_size = places.same_size;
        flags_size = places.flags_size;
        each = λ place code value status at at_value at_status.
            exact mode code value status (all_at (λ c. c < 2 ^ width element) codes place code d.2 at)
            (all_at (λ c. is_finite (element_datum element c) ≡ true) codes place code number at)
            (places.each place code value status at at_value at_status);
      };
    }
