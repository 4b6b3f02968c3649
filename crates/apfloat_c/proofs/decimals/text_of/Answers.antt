use Rattle.std.proofs.Common.{◌≡◌, ℕ, length, refl, ◌∙◌}
use Rattle.std.proofs.lemmas.List.{drop-replicate}
use Rattle.apfloat_c.proofs.decimals.text_of.Goals as goal

pub returns : goal.returns
returns c =
    let copied : c.copy_from_slice.new.self ≡ c.args.text.now =
    c.copy_from_slice.ensures.after ∙ c.as_bytes.ensures.value in record {
      fits = c.requires;
      bytes_are = rw (copied, drop-replicate {X = ℕ} (length c.args.text.now) 64 0) refl;
      length_is = refl;
    }
