-- Bytes are only added behind others.
use Rattle.std.proofs.Common.{◌≡◌, ◌++◌, Result, Ok, Err, OnOk, OnErr, ap, sym, ◌∙◌, append_assoc, append-nil}
use Rattle.fb_layout.specs.Laid.{LaidSchema, StoredKind}
use Rattle.fb_value.specs.Datum.{Datum}
use Rattle.fb_value.specs.Num.{Bytes}
use Rattle.fb_tape.specs.InlineBytes.{AddsInline, OnlyAdds}
use Rattle.std.proofs.Common.{[]}

pub then_only : (before now after : Bytes) → OnlyAdds before now → OnlyAdds now after → OnlyAdds before after
then_only before now after h g =
    (h.0 ++ g.0, g.1 ∙ ap (λ (b : Bytes). b ++ g.0) h.1 ∙ append_assoc before h.0 g.0)

pub some_only : {T E : Type 0} (r : Result T E) (before own after : Bytes) → OnOk r (after ≡ before ++ own)
    → OnErr r (after ≡ before) → OnlyAdds before after
some_only (Ok x) before own after h g = (own, h)
some_only (Err x) before own after h g = ([], g ∙ sym (append-nil before))

pub inline_only : {T E : Type 0} (r : Result T E) (L : LaidSchema) (kind : StoredKind) (d : Datum)
    (before after : Bytes) → OnOk r (AddsInline L kind d before after) → OnErr r (after ≡ before)
    → OnlyAdds before after
inline_only (Ok x) L kind d before after h g = (h.0, h.1)
inline_only (Err x) L kind d before after h g = ([], g ∙ sym (append-nil before))
