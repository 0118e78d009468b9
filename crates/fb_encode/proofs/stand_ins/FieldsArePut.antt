-- Field by field, an object gets what means the same as the members of another.
use Rattle.std.proofs.Common.{◌≡◌, ◌≢◌, ◌∙◌, ◌&&◌, ◌+◌, ◌<◌, ◌≤◌, ◌==◌, ℕ, Bool, true, false, Option, None, Some, List}
use Rattle.std.proofs.Common.{IfSome, option_map, slice_get, not, refl, sym, ap, arith, subst}
use Rattle.std.proofs.lemmas.Bool.{eqb-false, eqb-true}
use Rattle.serde_json.specs.Data.{Data, Members, no_members}
use Rattle.serde_json.specs.Find.{get_member}
use Rattle.serde_json.specs.View.{view as tree_view}
use Rattle.serde_json.specs.declared.value.Value.{Value as Json}
use Rattle.serde_json.proofs.Views.{get_member-put, get_member-put_other}
use Rattle.fb_schema.specs.declared.kinds.Shape.{Shape}
use Rattle.fb_schema.specs.Schema.{Name, DeclaredField, DeclaredBody, table_body, struct_body, enum_body, union_body}
use Rattle.fb_schema.specs.Schema.{DeclaredType, DeclaredSchema, body_at, body_in, parts_in}
use Rattle.fb_schema.specs.Found.{field_named, fields_in}
use Rattle.fb_schema.specs.WellDeclared.{IsBody, IsDeclared, IsPlain}
use Rattle.fb_layout.specs.Laid.{LaidSchema}
use Rattle.fb_json.specs.Meant.{is_used, names_known}
use Rattle.fb_encode.specs.declared.reader.JsonExcerpt.{JsonExcerpt}
use Rattle.fb_encode.specs.SlotTexts.{excerpt_tree}
use Rattle.fb_encode.specs.StandIns.{AreAlike, IsFieldPut, IsStandIn}
use Rattle.fb_encode.specs.TextsRead.{IsRead, IsReadAs}
use Rattle.fb_json.proofs.slots.NamedSlotIsFound.{found_as}
use Rattle.fb_encode.proofs.slot_texts.OneMemberMore.{known_put}
use Rattle.fb_encode.proofs.slot_texts.PiecesAreRead.{tree_is}

-- ---- the fields of a struct

abbrev IsStructField : DeclaredBody → ℕ → DeclaredField → Type 0
IsStructField body k f = (f.deprecated ≡ false) × (slice_get (fields_in body) k ≡ Some f)

plain_used : (f : DeclaredField) → IsPlain f → f.deprecated ≡ false
plain_used f (value, present, optional, used) = used

in_body : (S : DeclaredSchema) (s : ℕ) (body : DeclaredBody) → IsBody S s body → (k : ℕ) (f : DeclaredField)
    → slice_get (parts_in body) k ≡ Some f → IsStructField body k f
in_body S s (struct_body fs align) is k f there = (plain_used f (is.parts k f there).1, there)
in_body S s (table_body fs) is k f there = absurd cc
in_body S s (enum_body base flags values) is k f there = absurd cc
in_body S s (union_body members) is k f there = absurd cc

struct_field : (S : DeclaredSchema) (s : ℕ) → IsDeclared S → (k : ℕ) (f : DeclaredField)
    → slice_get (parts_in (body_at S s)) k ≡ Some f → IsStructField (body_at S s) k f
struct_field S s declared k f = by (slice_get S.types s) refl
  where
    by : (o : Option DeclaredType) → slice_get S.types s ≡ o → slice_get (parts_in (body_in o)) k ≡ Some f
        → IsStructField (body_in o) k f
    by None e there = absurd cc
    by (Some type) e there = in_body S s type.body (declared.bodies s type e) k f there

pub field_used : (S : DeclaredSchema) (s : ℕ) → IsDeclared S → (k : ℕ) (f : DeclaredField)
    → slice_get (parts_in (body_at S s)) k ≡ Some f → f.deprecated ≡ false
field_used S s declared k f there = (struct_field S s declared k f there).0

-- its name finds it
name_used : (S : DeclaredSchema) (s : ℕ) → IsDeclared S → (k : ℕ) (f : DeclaredField)
    → slice_get (parts_in (body_at S s)) k ≡ Some f → is_used (field_named (body_at S s) f.name) ≡ true
name_used S s declared k f there =
    let is = struct_field S s declared k f there in
    ap is_used (found_as S s declared k f is.1).0 ∙ ap not is.0

-- and no other one
names_apart : (S : DeclaredSchema) (s : ℕ) → IsDeclared S → (j k : ℕ) (e f : DeclaredField)
    → slice_get (parts_in (body_at S s)) j ≡ Some e → slice_get (parts_in (body_at S s)) k ≡ Some f → j ≢ k
    → e.name ≢ f.name
names_apart S s declared j k e f here there apart same =
    let first = found_as S s declared j e (struct_field S s declared j e here).1 in
    let second = found_as S s declared k f (struct_field S s declared k f there).1 in
    let both : Some e ≡ Some f = sym first.0 ∙ (ap (field_named (body_at S s)) same ∙ second.0) in
    let one : e ≡ f = cc in
    apart (sym first.1 ∙ (ap (λ (g : DeclaredField). g.slot) one ∙ second.1))

-- ---- what is put

-- Both members mean the same, or there is none.
abbrev pub AreFoundAlike : LaidSchema → Bool → Shape → Option Data → Option Data → Type 0
AreFoundAlike L unknown shape None None = Unit {0}
AreFoundAlike L unknown shape (Some t) (Some d) = AreAlike L unknown shape t d
AreFoundAlike L unknown shape _ _ = ⊥

-- The first fields have members in the object that mean the same as those of the other; all of its members are fields.
pub record AreFieldsPut (L : LaidSchema) (unknown : Bool) (s : ℕ) (ms ns : Members) (k : ℕ) : Type 0 where
  pub own : names_known (body_at L.schema s) ns ≡ true
  pub alike : (j : ℕ) (f : DeclaredField) → slice_get (parts_in (body_at L.schema s)) j ≡ Some f → j < k
      → AreFoundAlike L unknown f.shape (get_member f.name ms) (get_member f.name ns)
  pub later : (j : ℕ) (f : DeclaredField) → slice_get (parts_in (body_at L.schema s)) j ≡ Some f → k ≤ j
      → get_member f.name ns ≡ None

-- a tree means the same as itself
pub same_alike : (L : LaidSchema) (unknown : Bool) (shape : Shape) (t d : Data) → d ≡ t → AreAlike L unknown shape t d
same_alike L unknown shape t d same = subst (AreAlike L unknown shape t) (sym same) (record {
  absent = refl;
  value = λ at levels left. refl;
  code = λ u at is. refl;
  member = λ u table at levels left is. refl;
})

-- so a text's own tree stands in for it
pub tree_stands_in : (L : LaidSchema) (unknown : Bool) (brackets : ℕ) (text : List ℕ) (shape : Shape)
    (found : Option Json) → IfSome found (λ tree. (levels : ℕ) → IsReadAs levels text (tree_view tree))
    → IfSome found (λ tree. IsStandIn L unknown brackets text shape (tree_view tree))
tree_stands_in L unknown brackets text shape None own = tt
tree_stands_in L unknown brackets text shape (Some tree) own = record {
  tree = tree_view tree;
  read = own brackets;
  alike = same_alike L unknown shape (tree_view tree) (tree_view tree) refl;
}

-- the text of a field that is put is read
pub field_read : (L : LaidSchema) (unknown : Bool) (f : DeclaredField) (o : Option JsonExcerpt) (before now : Members)
    → IsFieldPut L unknown f o before now → IfSome o (λ e. IsRead e.brackets e.text.now)
field_read L unknown f None before now same = tt
field_read L unknown f (Some e) before now (d, stand, is) = (stand.tree, stand.read)

pub no_field_put : (L : LaidSchema) (unknown : Bool) (s : ℕ) (ms ns : Members) → ns ≡ no_members
    → AreFieldsPut L unknown s ms ns 0
unfolding names_known
no_field_put L unknown s ms ns none = record {
  own = ap (names_known (body_at L.schema s)) none;
  alike = λ j f there low. absurd (omega (arith, low));
  later = λ j f there high. ap (get_member f.name) none;
}

module _ (L : LaidSchema) (unknown : Bool) (s : ℕ) (declared : IsDeclared L.schema) (ms ns : Members) (k : ℕ)
    (f : DeclaredField) (there : slice_get (parts_in (body_at L.schema s)) k ≡ Some f)
    (so_far : AreFieldsPut L unknown s ms ns k) where
  abbrev body : DeclaredBody
  body = body_at L.schema s

  -- only the member of this field changes
  step : (now : Members) → names_known body now ≡ true
      → AreFoundAlike L unknown f.shape (get_member f.name ms) (get_member f.name now)
      → ((name : Name) → name ≢ f.name → get_member name now ≡ get_member name ns)
      → AreFieldsPut L unknown s ms now (k + 1)
  step now own here others = record { own = own; alike = each; later = after }
    where
      each : (j : ℕ) (g : DeclaredField) → slice_get (parts_in body) j ≡ Some g → j < k + 1
          → AreFoundAlike L unknown g.shape (get_member g.name ms) (get_member g.name now)
      each j g at low = by (j == k) refl
        where
          by : (b : Bool) → (j == k) ≡ b
              → AreFoundAlike L unknown g.shape (get_member g.name ms) (get_member g.name now)
          by true is =
              let same : j ≡ k = eqb-true j k is in
              let both : Some f ≡ Some g = sym there ∙ (ap (slice_get (parts_in body)) (sym same) ∙ at) in
              let one : f ≡ g = cc in
              subst (λ (h : DeclaredField). AreFoundAlike L unknown h.shape (get_member h.name ms)
              (get_member h.name now)) one here
          by false is =
              let apart = eqb-false j k is in
              subst (AreFoundAlike L unknown g.shape (get_member g.name ms))
              (sym (others g.name (names_apart L.schema s declared j k g f at there apart)))
              (so_far.alike j g at (omega (arith, low, apart)))

      after : (j : ℕ) (g : DeclaredField) → slice_get (parts_in body) j ≡ Some g → k + 1 ≤ j
          → get_member g.name now ≡ None
      after j g at high =
          let apart : j ≢ k = λ same. omega (arith, same, high) in
          others g.name (names_apart L.schema s declared j k g f at there apart)
          ∙ so_far.later j g at (omega (arith, high))

  pub field_put : (o : Option JsonExcerpt) → get_member f.name ms ≡ option_map excerpt_tree o → (now : Members)
      → IsFieldPut L unknown f o ns now → AreFieldsPut L unknown s ms now (k + 1)
  field_put None found now same =
      let none : get_member f.name now ≡ None =
      ap (get_member f.name) same ∙ so_far.later k f there (omega arith) in
      step now (ap (names_known body) same ∙ so_far.own) (rw (found, none) tt) (λ name apart. ap (get_member name) same)
  field_put (Some e) found now (d, stand, is) =
      let tree : excerpt_tree e ≡ stand.tree = tree_is e.brackets e.text.now stand.tree stand.read in
      let here : get_member f.name now ≡ Some d = ap (get_member f.name) is ∙ get_member-put f.name d ns in
      let known : names_known body now ≡ true =
      ap (names_known body) is
      ∙ (known_put body f.name d ns
      ∙ (ap (λ b. b && names_known body ns) (name_used L.schema s declared k f there) ∙ so_far.own)) in
      step now known (rw (found, here, tree) stand.alike)
      (λ name apart. ap (get_member name) is ∙ get_member-put_other name f.name d ns apart)
