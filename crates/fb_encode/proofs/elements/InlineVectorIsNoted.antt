-- A vector of numbers or structs is begun, its elements are added, and it is closed.
use Rattle.std.proofs.Common.{◌≡◌, ◌∙◌, ◌+◌, ◌≤◌, ◌++◌, ◌∷◌, [], ℕ, List, false, length}
use Rattle.std.proofs.Common.{refl, sym, ap, arith, append_assoc}
use Rattle.fb_schema.specs.declared.kinds.Kind.{Kind}
use Rattle.fb_layout.specs.Laid.{LaidSchema, StoredKind, one_of, stored_kind, vector_of}
use Rattle.fb_value.specs.Datum.{Datum, a_vector}
use Rattle.fb_value.specs.Places.{vector_part}
use Rattle.fb_value.specs.Room.{vector_room}
use Rattle.fb_value.specs.UpTo.{at_most_usize}
use Rattle.fb_value.specs.View.{parts_in}
use Rattle.fb_value.specs.Bounds.{most_bytes}
use Rattle.fb_value.proofs.types.PartsByTheirIndex.{count_parts}
use Rattle.fb_tape.specs.NamedParts.{NamedPart}
use Rattle.fb_tape.specs.Tapes.{IsUnfinished, Taped, Waits}
use Rattle.fb_json.specs.Outcome.{Counted}
use Rattle.fb_build.specs.Fields.{IsElement, is_reference}
use Rattle.fb_build.specs.Items.{ItemsKnown}
use Rattle.fb_build.proofs.noted.OneMoreFits.{elements_fit}
use Rattle.fb_build.proofs.noted.PartsFollow.{elements_known, nothing_apart}
use Rattle.fb_encode.specs.TreesNoted.{AddsInline, AreElementsAdded, IsNoted, vector_given}

-- no element
pub inline_none : (L : LaidSchema) (kind : StoredKind) (a : Taped) → AddsInline L kind a a []
inline_none L kind a = record {
  unfinished = λ count before h. rw (append-none before) h;
  waits = λ others w. w;
  room = refl;
  layout = refl;
}
  where
    append-none : (ds : List Datum) → ds ++ [] ≡ ds
    append-none [] = refl
    append-none (d ∷ ds) = ap (λ (es : List Datum). d ∷ es) (append-none ds)

-- some elements, and then others
pub inline_then : (L : LaidSchema) (kind : StoredKind) (a b c : Taped) (xs ys : List Datum) → AddsInline L kind a b xs
    → AddsInline L kind b c ys → AddsInline L kind a c (xs ++ ys)
inline_then L kind a b c xs ys first second = record {
  unfinished = λ count before h. rw (← (append_assoc before xs ys))
      (second.unfinished count (before ++ xs) (first.unfinished count before h));
  waits = λ others w. second.waits others (first.waits others w);
  room = second.room ∙ first.room;
  layout = second.layout ∙ first.layout;
}

-- under a layout, the tape on which a vector of so many elements is begun
pub record Begins (kind : Kind) (total : ℕ) (a b : Taped) (L : LaidSchema) : Type 0 where
  pub waits : (others : List NamedPart) → Waits a others → Waits b others
  pub begun : a.room + vector_room L (stored_kind L.schema kind) total ≤ most_bytes
      → IsUnfinished L (stored_kind L.schema kind) total [] b.unfinished
  pub room : b.room ≡ a.room
  pub layout : b.layout ≡ a.layout

-- and the one on which it is closed
pub record Closes (kind : Kind) (total : ℕ) (a b : Taped) (L : LaidSchema) : Type 0 where
  pub waits : (others : List NamedPart) (ds : List Datum) → total ≡ length ds
      → ItemsKnown L (stored_kind L.schema kind) ds
      → (a.room + vector_room L (stored_kind L.schema kind) total ≤ most_bytes
      → IsUnfinished L (stored_kind L.schema kind) total ds a.unfinished)
      → Waits a others → Waits b (others ++ (record {
        target = vector_part (stored_kind L.schema kind);
        value = a_vector (parts_in ds);
      } ∷ []))
  pub room : b.room ≡ at_most_usize (a.room + vector_room L (stored_kind L.schema kind) total)
  pub whole : b.unfinished ≡ []
  pub layout : b.layout ≡ a.layout

pub inline_vector_noted : (L : LaidSchema) (kind : Kind) (given : Counted (List Datum)) (total : ℕ)
    (a b c d : Taped) (rest : ℕ) → IsElement L (stored_kind L.schema kind)
    → is_reference (one_of (stored_kind L.schema kind)) ≡ false → Begins kind total a b L
    → AreElementsAdded L (stored_kind L.schema kind) (AddsInline L (stored_kind L.schema kind)) given total b c rest
    → Closes kind total c d L → IsNoted L (vector_of (stored_kind L.schema kind)) (vector_given given) a d rest
inline_vector_noted L kind given total a b c d rest element inline begins h closes =
    let k = stored_kind L.schema kind in
    let ds = h.elements in
    let fit = elements_fit L k ds h.fits in
    let nothing = nothing_apart L k (parts_in ds) element inline fit.0 in
    let long : total ≡ length ds = sym h.count_is in
    let same : c.room ≡ a.room = h.adds.room ∙ begins.room in
    record {
      value = a_vector (parts_in ds);
      given_is = ap vector_given h.given_is;
      fits = fit.0;
      whole = fit.1;
      adds = record {
        waits = λ others w. closes.waits others ds long (elements_known L k ds element h.fits)
            (λ small. h.adds.unfinished total [] (begins.begun (rw same at small)))
            (h.adds.waits others (begins.waits others w));
        sum = omega (arith, closes.room, same, nothing, ap (vector_room L k) (count_parts ds ∙ sym long));
        layout = closes.layout ∙ h.adds.layout ∙ begins.layout;
        whole = closes.whole;
      };
    }
