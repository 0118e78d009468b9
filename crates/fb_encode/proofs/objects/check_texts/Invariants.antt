use Rattle.std.proofs.Common.{◌≡◌, ◌<◌, ℕ, Some, slice_get}
use Rattle.fb_encode.specs.declared.reader.JsonExcerpt.{JsonExcerpt}
use Rattle.fb_encode.specs.TextsRead.{IsRead}
use Rattle.fb_encode.proofs.objects.check_texts.Given as goal

abbrev pub invariant-loop-text : goal.invariant-loop-text
invariant-loop-text l = (j : ℕ) (e : JsonExcerpt) → j < l.text-index → slice_get l.texts j ≡ Some (Some e)
    → IsRead e.brackets e.text.now
