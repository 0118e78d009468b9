-- The path of a part that is refused is one of the whole, after its step.
use Rattle.std.proofs.Common.{◌≡◌, ◌∙◌, ℕ, zero, suc, ◌+◌, ◌-◌, ◌<◌, ◌≤◌, ◌||◌, List, [], ◌∷◌, map, length, take}
use Rattle.std.proofs.Common.{get_or, Bool, Option, Ok, Err, refl, ap, arith}
use Rattle.std.proofs.lemmas.Bool.{lt-ltb}
use Rattle.serde_json.specs.Data.{array, object, Members}
use Rattle.serde_json.specs.View.{view, items_view}
use Rattle.serde_json.specs.declared.value.Value.{Value as Json}
use Rattle.fb_schema.specs.declared.kinds.Kind.{Kind}
use Rattle.fb_schema.specs.declared.kinds.Kind.TheVariants.{Struct, Table}
use Rattle.fb_schema.specs.declared.kinds.Shape.TheVariants.{One, Many}
use Rattle.fb_schema.specs.declared.kinds.TypeId.{TypeId}
use Rattle.fb_schema.specs.declared.types.FieldInfo.{FieldInfo}
use Rattle.fb_schema.specs.Schema.{DeclaredField, body_at, parts_in, slots_in}
use Rattle.fb_schema.specs.Seen.{field_seen}
use Rattle.fb_layout.specs.Laid.{LaidSchema}
use Rattle.fb_json.specs.declared.faults.Place.{Place}
use Rattle.fb_json.specs.declared.faults.JsonFault.{JsonFault}
use Rattle.fb_json.specs.declared.faults.JsonFault.TheVariants.{TooDeep, TooManyCells}
use Rattle.fb_json.specs.declared.step.JsonStep.{JsonStep}
use Rattle.fb_json.specs.declared.step.JsonStep.TheVariants.{Slot, Field, Element}
use Rattle.fb_json.specs.Outcome.{◌>>=◌, spent}
use Rattle.fb_json.specs.Meant.{Look, type_place, slot_place, names_known, if_known, code_after, entry_meant}
use Rattle.fb_json.specs.Meant.{part_meant, count, meant, look}
use Rattle.fb_json.specs.FaultPaths.{Spot, tree_spot, front_of, object_front, vector_front, read_all}
use Rattle.fb_json.specs.FaultPaths.{slot_reader, field_reader, element_reader, elements_of, entry_spot, slot_spot}
use Rattle.fb_json.specs.FaultPaths.{field_spot, ToSlot, ToField, ToElement, StepsTo, IsFirstAt, IsFirstIn}
use Rattle.fb_value.specs.Datum.{Datum}
use Rattle.fb_json.proofs.slots.OneSlotOrFieldMore.{counted, seen_at, slot_at}
use Rattle.fb_json.proofs.tree.PartsAreReadInOrder.{read_next}
use Rattle.fb_json.proofs.tree.TrailLeadsToTheFault.{Adds, here}
use Rattle.fb_json.proofs.laws.EachStepOfABindSucceeds.{spends}

-- ---- slots

module _ (L : LaidSchema) (unknown : Bool) (look : Look) (t : TypeId) (slots : List FieldInfo) (k : ℕ) (f : FieldInfo)
    (within : k < length slots) (is : f ≡ get_or slots k f) (levels cells code left : ℕ)
    (before : read_all (slot_reader L look t.0 levels) 0 (take k (map field_seen slots)) (0, cells) ≡ Ok (code, left))
  where
    pub to_slot : (steps : List JsonStep) (fault : JsonFault)
        → IsFirstAt L unknown (slot_spot L look (field_seen f) (slot_place t.0 k) code levels left) steps fault
        → IsFirstIn L unknown (ToSlot L look t (map field_seen slots) levels cells) (Slot t k ∷ steps) fault
    to_slot steps fault path = (
      slot_spot L look (field_seen f) (slot_place t.0 k) code levels left,
      (
        refl,
        record {
          part = field_seen f;
          rest = (code, left);
          there = slot_at slots k f within is;
          before = before;
          leads = refl;
        },
      ),
      path,
    )

    module _ (c : ℕ)
        (told : code_after L.schema look (slot_place t.0 k) code f.deprecated (field_seen f).name f.shape ≡ Ok c) where
      pub to_entry : (steps : List JsonStep) (fault : JsonFault)
          → IsFirstAt L unknown (entry_spot L look (field_seen f) (slot_place t.0 k) c levels left) steps fault
          → IsFirstIn L unknown (ToSlot L look t (map field_seen slots) levels cells) (Slot t k ∷ steps) fault
      to_entry steps fault path = to_slot steps fault (rw told path)

      pub slot_next : (e : Option Datum) (rest : ℕ)
          → entry_meant L look (field_seen f) (slot_place t.0 k) c levels left ≡ Ok (e, rest)
          → read_all (slot_reader L look t.0 levels) 0 (take (k + 1) (map field_seen slots)) (0, cells) ≡ Ok (c, rest)
      slot_next e rest given =
          read_next (slot_reader L look t.0 levels) k (map field_seen slots) (field_seen f) (0, cells) (code, left)
          (c, rest) (slot_at slots k f within is) before (rw (told, given) refl)

-- ---- fields of structs

module _ (L : LaidSchema) (unknown : Bool) (look : Look) (t : TypeId) (fields : List FieldInfo) (k : ℕ) (f : FieldInfo)
    (within : k < length fields) (is : f ≡ get_or fields k f) (levels cells left : ℕ)
    (before : read_all (field_reader look t.0 levels) 0 (take k (map field_seen fields)) cells ≡ Ok left) where
  pub to_field : (fault : JsonFault) (steps : List JsonStep)
      → IsFirstAt L unknown (field_spot (look (field_seen f).name) f.shape (slot_place t.0 k) levels left) steps fault
      → IsFirstIn L unknown (ToField look t (map field_seen fields) levels cells) (Field t k ∷ steps) fault
  to_field fault steps path = (
    field_spot (look (field_seen f).name) f.shape (slot_place t.0 k) levels left,
    (
      refl,
      record {
        part = field_seen f;
        rest = left;
        there = slot_at fields k f within is;
        before = before;
        leads = refl;
      },
    ),
    path,
  )

  pub field_next : (d : Datum) (rest : ℕ)
      → part_meant (look (field_seen f).name) f.shape (slot_place t.0 k) levels left ≡ Ok (d, rest)
      → read_all (field_reader look t.0 levels) 0 (take (k + 1) (map field_seen fields)) cells ≡ Ok rest
  field_next d rest given =
      read_next (field_reader look t.0 levels) k (map field_seen fields) (field_seen f) cells left rest
      (slot_at fields k f within is) before (rw given refl)

-- ---- elements

module _ (L : LaidSchema) (unknown : Bool) (kind : Kind) (at : Place) (es : List Json) (i : ℕ) (e : Json)
    (within : i < length es) (is : e ≡ get_or es i e) (levels cells left : ℕ)
    (before : read_all (element_reader L unknown kind at levels) 0 (take i (map view es)) cells ≡ Ok left) where
  pub to_element : (fault : JsonFault) (steps : List JsonStep)
      → IsFirstAt L unknown (tree_spot (view e) (One kind) at levels left) steps fault
      → IsFirstIn L unknown (ToElement L unknown kind at (map view es) levels cells) (Element i ∷ steps) fault
  to_element fault steps path = (
    tree_spot (view e) (One kind) at levels left,
    record {
      part = view e;
      rest = left;
      there = seen_at view es i e within is;
      before = before;
      leads = refl;
    },
    path,
  )

  pub element_next : (d : Datum) (rest : ℕ) → meant L unknown (view e) (One kind) at levels left ≡ Ok (d, rest)
      → read_all (element_reader L unknown kind at levels) 0 (take (i + 1) (map view es)) cells ≡ Ok rest
  element_next d rest given =
      read_next (element_reader L unknown kind at levels) i (map view es) (view e) cells left rest
      (seen_at view es i e within is) before (rw given refl)

-- ---- parts of a place that breaks nothing itself

through : (L : LaidSchema) (unknown : Bool) (x : Spot) (cells : ℕ) → front_of L unknown x ≡ Ok cells
    → (fault : JsonFault) (steps : List JsonStep) → IsFirstIn L unknown (StepsTo L unknown x cells) steps fault
    → IsFirstAt L unknown x steps fault
through L unknown x cells front fault [] path = absurd path
through L unknown x cells front fault (step ∷ steps) path = (cells, front, path.0, path.1, path.2)

spent_none : (n : ℕ) (at : Place) (left : ℕ) → left < n → spent n at left ≡ Err (TooManyCells at)
spent_none n at left many = rw (lt-ltb left n many) refl

viewed : (es : List Json) → elements_of (items_view es) ≡ map view es
viewed [] = refl
viewed (e ∷ es) = ap (λ ds. view e ∷ ds) (viewed es)

vector_path : (L : LaidSchema) (unknown : Bool) (kind : Kind) (at : Place) (es : List Json) (levels left : ℕ)
    → length es < left → (fault : JsonFault) (steps : List JsonStep)
    → IsFirstIn L unknown (ToElement L unknown kind at (map view es) levels (left - 1 - length es)) steps fault
    → IsFirstAt L unknown (tree_spot (array (items_view es)) (Many kind) at levels left) steps fault
unfolding vector_front
vector_path L unknown kind at es levels left few fault steps path =
    let n : 1 + length es ≤ left = omega arith in
    let rest = left - 1 - length es in
    let same : left - (1 + length es) ≡ rest = omega arith in
    let front : spent (1 + count (items_view es)) at left ≡ Ok rest =
    rw (counted es) (spends (1 + length es) at left n ∙ ap (λ (m : ℕ). Ok m) same) in
    through L unknown (tree_spot (array (items_view es)) (Many kind) at levels left) rest front fault steps
    (rw (← (viewed es)) at path)

pub in_vector : (L : LaidSchema) (unknown : Bool) (kind : Kind) (at : Place) (es : List Json) (levels left : ℕ)
    (fault : JsonFault) (old new : Option (List JsonStep)) → length es < left
    → Adds old new (IsFirstIn L unknown (ToElement L unknown kind at (map view es) levels (left - 1 - length es))) fault
    → Adds old new (IsFirstAt L unknown (tree_spot (array (items_view es)) (Many kind) at levels left)) fault
in_vector L unknown kind at es levels left fault old new few found =
    (found.0, found.1, vector_path L unknown kind at es levels left few fault found.0 found.2)

pub full_vector : (L : LaidSchema) (unknown : Bool) (kind : Kind) (at : Place) (es : List Json) (levels left : ℕ)
    (trail : Option (List JsonStep)) → left ≤ length es → Adds trail trail
    (IsFirstAt L unknown (tree_spot (array (items_view es)) (Many kind) at levels left)) (TooManyCells at)
unfolding vector_front
full_vector L unknown kind at es levels left trail many =
    let n : left < 1 + length es = omega arith in
    let none : spent (1 + count (items_view es)) at left ≡ Err (TooManyCells at) =
    rw (counted es) (spent_none (1 + length es) at left n) in
    here L unknown (tree_spot (array (items_view es)) (Many kind) at levels left) (TooManyCells at) trail none

module _ (L : LaidSchema) (unknown : Bool) (ms : Members) (t : TypeId) (at : Place) where
  pub too_deep : (left : ℕ) (trail : Option (List JsonStep))
      → Adds trail trail (IsFirstAt L unknown (tree_spot (object ms) (One (Table t)) at 0 left)) (TooDeep at)
  unfolding object_front
  too_deep left trail = here L unknown (tree_spot (object ms) (One (Table t)) at 0 left) (TooDeep at) trail refl

  too_full : (levels : ℕ) → 0 < levels
      → front_of L unknown (tree_spot (object ms) (One (Table t)) at levels 0) ≡ Err (TooManyCells at)
  unfolding object_front
  too_full zero some = absurd (omega arith)
  too_full (suc levels) some = refl

  pub too_many : (levels : ℕ) (trail : Option (List JsonStep)) → 0 < levels
      → Adds trail trail (IsFirstAt L unknown (tree_spot (object ms) (One (Table t)) at levels 0)) (TooManyCells at)
  too_many levels trail some =
      here L unknown (tree_spot (object ms) (One (Table t)) at levels 0) (TooManyCells at) trail (too_full levels some)

  table_known : (levels left : ℕ) → 0 < levels → 0 < left
      → front_of L unknown (tree_spot (object ms) (One (Table t)) at levels left)
      ≡ (if_known (unknown || names_known (body_at L.schema t.0) ms) (type_place t.0) >>= λ _. Ok (left - 1))
  unfolding object_front
  table_known zero left deep some = absurd (omega arith)
  table_known (suc levels) left deep some = rw (spends 1 at left some) refl

  module _ (levels left : ℕ) (deep : 0 < levels) (some : 0 < left) where
    pub unknown_in_table : (fault : JsonFault) (trail : Option (List JsonStep))
        → if_known (unknown || names_known (body_at L.schema t.0) ms) (type_place t.0) ≡ Err fault
        → Adds trail trail (IsFirstAt L unknown (tree_spot (object ms) (One (Table t)) at levels left)) fault
    unknown_in_table fault trail e =
        here L unknown (tree_spot (object ms) (One (Table t)) at levels left) fault trail
        (table_known levels left deep some ∙ rw e refl)

    table_path : (slots : List DeclaredField) → slots ≡ slots_in (body_at L.schema t.0)
        → if_known (unknown || names_known (body_at L.schema t.0) ms) (type_place t.0) ≡ Ok tt
        → (fault : JsonFault) (steps : List JsonStep)
        → IsFirstIn L unknown (ToSlot L (look L unknown ms) t slots (levels - 1) (left - 1)) steps fault
        → IsFirstAt L unknown (tree_spot (object ms) (One (Table t)) at levels left) steps fault
    table_path slots are known fault steps path =
        through L unknown (tree_spot (object ms) (One (Table t)) at levels left) (left - 1)
        (table_known levels left deep some ∙ rw known refl) fault steps
        (rw are at path)

    pub in_table : (slots : List DeclaredField) (fault : JsonFault) (old new : Option (List JsonStep))
        → slots ≡ slots_in (body_at L.schema t.0)
        → if_known (unknown || names_known (body_at L.schema t.0) ms) (type_place t.0) ≡ Ok tt
        → Adds old new (IsFirstIn L unknown (ToSlot L (look L unknown ms) t slots (levels - 1) (left - 1))) fault
        → Adds old new (IsFirstAt L unknown (tree_spot (object ms) (One (Table t)) at levels left)) fault
    in_table slots fault old new are known found =
        (found.0, found.1, table_path slots are known fault found.0 found.2)

pub in_struct : (L : LaidSchema) (unknown : Bool) (ms : Members) (s : TypeId) (at : Place) (levels left : ℕ)
    (fields : List DeclaredField) (fault : JsonFault) (old new : Option (List JsonStep))
    → fields ≡ parts_in (body_at L.schema s.0)
    → if_known (unknown || names_known (body_at L.schema s.0) ms) (type_place s.0) ≡ Ok tt
    → Adds old new (IsFirstIn L unknown (ToField (look L unknown ms) s fields levels left)) fault
    → Adds old new (IsFirstAt L unknown (tree_spot (object ms) (One (Struct s)) at levels left)) fault
unfolding object_front
in_struct L unknown ms s at levels left fields fault old new are known found = (
  found.0,
  found.1,
  through L unknown (tree_spot (object ms) (One (Struct s)) at levels left) left (rw known refl) fault found.0
      (rw are at found.2),
)
