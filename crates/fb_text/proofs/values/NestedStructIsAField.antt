-- The text of a struct in a struct, and of what stands behind it.
use Rattle.std.proofs.Common.{◌≡◌, ℕ, suc, ◌++◌, ◌||◌, List, [], Bool, true, false, None, Some, slice_get}
use Rattle.std.proofs.Common.{Option, is_some, sym, ap, ◌∙◌, append_assoc}
use Rattle.std.specs.Prelude.{codes}
use Rattle.fb_schema.specs.declared.kinds.TypeId.{TypeId}
use Rattle.fb_schema.specs.declared.kinds.Shape.{Shape}
use Rattle.fb_schema.specs.Schema.{DeclaredField, body_at, parts_in}
use Rattle.fb_layout.specs.Laid.{LaidSchema}
use Rattle.fb_value.specs.Datum.{Datum, a_struct, Parts}
use Rattle.fb_value.specs.Nth.{nth_part}
use Rattle.fb_text.specs.Indents.{deeper}
use Rattle.fb_text.specs.Texts.{member_line, value_text, parts_text}
use Rattle.fb_text.specs.Printed.{part_text}
use Rattle.fb_text.specs.Nested.{HasStruct, fields_text}
use Rattle.fb_text.proofs.indents.LevelsAddUp.{inside_deeper}
use Rattle.fb_text.proofs.values.OneMemberMore.{parts_step}
use Rattle.std.proofs.Math.Bool.{or-true}
use Rattle.std.proofs.Math.Bool.{or-false}

module _ (L : LaidSchema) (defaults : Bool) (indent : Option (List ℕ)) (u : TypeId) (es : Parts) (depth k : ℕ)
    (some : Bool)
    (behind : List ℕ) where
  pub fields_next : (f : DeclaredField) → slice_get (parts_in (body_at L.schema u.0)) k ≡ Some f
      → part_text L defaults (deeper (suc depth) indent) some f (nth_part es k)
      ++ (fields_text L defaults indent u es depth (suc k) (some || is_some (nth_part es k)) ++ behind)
      ≡ fields_text L defaults indent u es depth k some ++ behind
  fields_next f there =
      let own = part_text L defaults (deeper (suc depth) indent) some f (nth_part es k) in
      let rest = fields_text L defaults indent u es depth (suc k) (some || is_some (nth_part es k)) in
      sym (append_assoc own rest behind)
      ∙ ap (λ (l : List ℕ). l ++ behind)
      (parts_step L defaults (deeper (suc depth) indent) (deeper depth indent) some (parts_in (body_at L.schema u.0))
      es k f there)

  -- no field, and those behind it
  pub field_missing : (f : DeclaredField) → slice_get (parts_in (body_at L.schema u.0)) k ≡ Some f
      → nth_part es k ≡ None
      → fields_text L defaults indent u es depth (suc k) some ++ behind
      ≡ fields_text L defaults indent u es depth k some ++ behind
  field_missing f there none = rw (none, or-false some) at (fields_next f there)

  -- a field's name and value, and the fields behind it
  pub field_first : (f : DeclaredField) → slice_get (parts_in (body_at L.schema u.0)) k ≡ Some f → (d : Datum)
      → nth_part es k ≡ Some d
      → member_line (deeper (suc depth) indent) some f.name []
      ++ (value_text L defaults (deeper (suc depth) indent) f.shape d
      ++ (fields_text L defaults indent u es depth (suc k) true ++ behind))
      ≡ fields_text L defaults indent u es depth k some ++ behind
  field_first f there d is =
      let line = member_line (deeper (suc depth) indent) some f.name [] in
      let value = value_text L defaults (deeper (suc depth) indent) f.shape d in
      let tail = fields_text L defaults indent u es depth (suc k) true in
      let whole = rw (is, or-true some) at (fields_next f there) in
      sym (append_assoc line value (tail ++ behind)) ∙ whole

  -- the struct in a field: the field's name, the struct's fields, and the fields behind it
  pub struct_first : (s : TypeId) (inner : Parts) (has : HasStruct L u es k s inner)
      → member_line (deeper (suc depth) indent) some has.field.name []
      ++ (codes "{" ++ (fields_text L defaults indent s inner (suc depth) 0 false
      ++ (fields_text L defaults indent u es depth (suc k) true ++ behind)))
      ≡ fields_text L defaults indent u es depth k some ++ behind
  struct_first s inner has =
      let line = member_line (deeper (suc depth) indent) some has.field.name [] in
      let fields = fields_text L defaults indent s inner (suc depth) 0 false in
      let tail = fields_text L defaults indent u es depth (suc k) true in
      let value : value_text L defaults (deeper (suc depth) indent) has.field.shape (a_struct inner)
      ≡ codes "{" ++ fields =
      ap (λ (shape : Shape). value_text L defaults (deeper (suc depth) indent) shape (a_struct inner)) has.shape
      ∙ ap (λ (i : Option (List ℕ)). codes
      "{" ++ parts_text L defaults i (deeper (suc depth) indent) false (parts_in (body_at L.schema s.0)) inner)
      (inside_deeper (suc depth) indent) in
      ap (λ (l : List ℕ). line ++ (l ++ (tail ++ behind))) (sym value)
      ∙ field_first has.field has.there (a_struct inner) has.part
