use Rattle.std.proofs.Common.{Ok, Err, sym, ◌∙◌, subst}
use Rattle.apfloat_arrays.specs.{declared.widths.Extended.TheVariants.Packed, Widths.width_of}
use Rattle.coded_calls.specs.{declared.facts.Facts.Facts, Facts.SameFacts}
use Rattle.coded_calls.proofs.{AugmentedOnce.augmented_calls_once, ExportsOnce.reply_once, FactsOnce.facts_of_once}
use Rattle.coded_calls.proofs.{FactsOnce.same_facts, FlaglessOnce.flagless_reply_once}
use Rattle.coded_calls.proofs.IeeeOnce.{EachHasOne, ieee_reply_once, in_another_reply_once}
use Rattle.coded_calls.proofs.{InstructionsOnce.instruction_reply_once, MachineOnce.machine_reply_once}
use Rattle.coded_calls.proofs.P3109Once.{p3109_reply_once}
use Rattle.apfloat_c.specs.Facts.{AreFactsOnce}
use Rattle.apfloat_c.proofs.DigitsOnce.{count_given_once, digits_once, hex_put_once, rounded_hex_put_once}
use Rattle.apfloat_c.proofs.{FlaggedReadings.decimal_read_once, PairsOnce.pair_calls_once}
use Rattle.apfloat_c.proofs.ParsedOnce.{parsed_once}
use Rattle.apfloat_c.proofs.TextsOnce.{error_text_once, text_once}
use Rattle.apfloat_c.proofs.one_answer.one_answer.Goals as goal

facts_once : AreFactsOnce
facts_once (Err error) old a b code other x y =
    (x.0 ∙ sym y.0, subst (λ (facts : Facts). SameFacts a facts) (x.1 ∙ sym y.1) (same_facts a))
facts_once (Ok format) old a b code other x y =
    (x.0 ∙ sym y.0, facts_of_once format (width_of format Packed) a b x.1 y.1)

pub returns : goal.returns
returns c =
    let each = c.operations_have_one_answer.ensures in
    let one : EachHasOne =
    record {
      sum = each.sum;
      difference = each.difference;
      product = each.product;
      quotient = each.quotient;
      fused_sum = each.fused_sum;
      root = each.root;
    } in
    let pairs = c.operations_have_one_answer-2.ensures in
    record {
      reply = reply_once;
      parsed = parsed_once;
      read = decimal_read_once;
      text = text_once;
      digits = digits_once;
      count = count_given_once;
      exact_hex = hex_put_once;
      rounded_hex = rounded_hex_put_once;
      flagless = flagless_reply_once;
      ieee = ieee_reply_once;
      in_another = in_another_reply_once one;
      augmented = augmented_calls_once c.augmented_sums_have_one_answer.ensures
          c.augmented_differences_have_one_answer.ensures c.augmented_products_have_one_answer.ensures;
      pairs = pair_calls_once pairs.fused_sum pairs.from_format pairs.to_format
          c.pair_shortest_reads_back.ensures.once;
      machine = machine_reply_once;
      instruction = instruction_reply_once;
      p3109 = p3109_reply_once c.projections_by_mode_have_one_answer.ensures;
      facts = facts_once;
      error = error_text_once;
    }
