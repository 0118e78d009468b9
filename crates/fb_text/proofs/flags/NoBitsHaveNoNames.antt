-- A number without bits has no names to look for and none to write.
use Rattle.std.proofs.Common.{◌≡◌, ℕ, zero, suc, ◌+◌, ℤ, [], true, Bool, Option, refl, ap, ◌∙◌}
use Rattle.fb_schema.specs.Schema.{Name}
use Rattle.fb_text.specs.Texts.{are_named, bits_text}
use Rattle.std.proofs.Math.Bool.{or-false}

module _ (name : ℤ → Option Name) where
  pub none_named : (left bit : ℕ) → are_named name left bit 0 ≡ true
  unfolding are_named
  none_named zero bit = refl
  none_named (suc left) bit = none_named left (bit + bit)

  pub none_written : (left bit : ℕ) (some : Bool) → bits_text name left bit 0 some ≡ []
  unfolding bits_text
  none_written zero bit some = refl
  none_written (suc left) bit some = ap (bits_text name left (bit + bit) 0) (or-false some)
      ∙ none_written left (bit + bit) some
