-- The path of a tree's first fault, step by step.
-- From the FlatBuffers documentation, "JSON parsing". What is read is read in the order of `meant`: what a tree breaks
-- itself, then slots and fields by number and elements by position, each with all that is in it before the next.
use Rattle.std.specs.Prelude.{ℕ, zero, suc, ◌+◌, ◌-◌, ◌≡◌, ◌≢◌, ◌++◌, ◌||◌, List, [], ◌∷◌, take, Bool, Option, None}
use Rattle.std.specs.Prelude.{Some, slice_get, option_map, Result, Ok, Err, if◌then◌else◌}
use Rattle.serde_json.specs.Data.{Data, array, object, Items, no_items, item, Members}
use Rattle.fb_schema.specs.declared.kinds.Kind.{Kind}
use Rattle.fb_schema.specs.declared.kinds.Kind.TheVariants.{Struct, Table, Union, Code}
use Rattle.fb_schema.specs.declared.kinds.Shape.{Shape}
use Rattle.fb_schema.specs.declared.kinds.Shape.TheVariants.{One, Many}
use Rattle.fb_schema.specs.declared.kinds.TypeId.{TypeId}
use Rattle.fb_schema.specs.Schema.{DeclaredField, body_at, slots_in, parts_in}
use Rattle.fb_layout.specs.Laid.{LaidSchema, member_by_code}
use Rattle.fb_value.specs.Bounds.{Bounds}
use Rattle.fb_json.specs.declared.faults.Place.{Place}
use Rattle.fb_json.specs.declared.faults.JsonFault.{JsonFault}
use Rattle.fb_json.specs.declared.faults.JsonFault.TheVariants.{WrongShape, MissingMember, TooDeep, Memory}
use Rattle.fb_json.specs.declared.step.JsonStep.{JsonStep}
use Rattle.fb_json.specs.declared.step.JsonStep.TheVariants.{Slot, Field, Element}
use Rattle.fb_json.specs.Outcome.{◌>>=◌, Counted, spent}
use Rattle.fb_json.specs.Meant.{Meaner, Look, type_place, slot_place, names_known, if_known, is_null, code_after}
use Rattle.fb_json.specs.Meant.{entry_meant, part_meant, count, meant, look}
use Rattle.fb_json.specs.Refuses.{root_shape, IsFirst}

-- Where a path leads: to a tree that is read under a shape, with the levels and cells that are left for it; or to a
-- slot or field without such a tree, with the cells that it leaves or its fault.
pub data Spot : Type 0 where
  tree_spot : Data → Shape → Place → ℕ → ℕ → Spot
  bare_spot : Result ℕ JsonFault → Spot

-- the cells that are left
abbrev pub rest_of : {A : Type 0} → Counted A → Result ℕ JsonFault
rest_of (Ok x) = Ok x.1
rest_of (Err f) = Err f

-- ---- what is broken at a place itself, whatever is in it; and the cells that are left for that

unfoldable pub object_front : LaidSchema → Bool → Members → Shape → Place → ℕ → ℕ → Result ℕ JsonFault
object_front L unknown ms (One (Table t)) at zero left = Err (TooDeep at)
object_front L unknown ms (One (Table t)) at (suc levels) left =
    spent 1 at left >>= λ l. if_known (unknown || names_known (body_at L.schema t.0) ms) (type_place t.0) >>= λ _. Ok l
object_front L unknown ms (One (Struct s)) at levels left =
    if_known (unknown || names_known (body_at L.schema s.0) ms) (type_place s.0) >>= λ _. Ok left
object_front L unknown ms _ at levels left = Err (WrongShape at)

unfoldable pub vector_front : ℕ → Shape → Place → ℕ → Result ℕ JsonFault
vector_front n (Many kind) at left = spent (1 + n) at left
vector_front n (One kind) at left = Err (WrongShape at)

abbrev pub front_of : LaidSchema → Bool → Spot → Result ℕ JsonFault
front_of L unknown (tree_spot (object ms) shape at levels left) = object_front L unknown ms shape at levels left
front_of L unknown (tree_spot (array ds) shape at levels left) = vector_front (count ds) shape at left
front_of L unknown (tree_spot d shape at levels left) = rest_of (meant L unknown d shape at levels left)
front_of L unknown (bare_spot r) = r

-- ---- one part after another

-- Parts are read one after another, from number k on: what one leaves is what the next begins with.
abbrev pub read_all : {A S : Type 0} → (ℕ → A → S → Result S JsonFault) → ℕ → List A → S → Result S JsonFault
read_all reader k [] s = Ok s
read_all reader k (x ∷ xs) s = reader k x s >>= λ next. read_all reader (k + 1) xs next

-- Part k is where y is: no part before it is refused, and it begins with what they leave.
pub record Reaches {A S : Type 0} (reader : ℕ → A → S → Result S JsonFault) (xs : List A) (start : S) (k : ℕ)
    (spot : A → S → Spot) (y : Spot) : Type 0 where
  pub part : A
  pub rest : S
  pub there : slice_get xs k ≡ Some part
  pub before : read_all reader 0 (take k xs) start ≡ Ok rest
  pub leads : y ≡ spot part rest

-- ---- slots

-- a slot: the code that it tells or passes on, and the cells that are left after it
abbrev pub slot_reader : LaidSchema → Look → ℕ → ℕ → ℕ → DeclaredField → ℕ × ℕ → Result (ℕ × ℕ) JsonFault
slot_reader L look t levels k f s =
    code_after L.schema look (slot_place t k) s.0 f.deprecated f.name f.shape >>= λ c.
    entry_meant L look f (slot_place t k) c levels s.1 >>= λ e.
    Ok (c, e.1)

-- the shape under which a slot's member is read: of a union's value, the table that the code names
abbrev pub read_shape : LaidSchema → ℕ → Shape → Option Shape
read_shape L code (One (Code u)) = None
read_shape L code (One (Union u)) = option_map (λ t. One (Table (record { 0 = t }))) (member_by_code L u.0 code)
read_shape L code shape = Some shape

-- the tree that is read, or what is given without one
abbrev pub shaped_spot : Data → Option Shape → Place → ℕ → ℕ → Result ℕ JsonFault → Spot
shaped_spot d None at levels left r = bare_spot r
shaped_spot d (Some shape) at levels left r = tree_spot d shape at levels left

abbrev pub member_spot : Option (Data × Meaner) → Option Shape → Place → ℕ → ℕ → Result ℕ JsonFault → Spot
member_spot None shape at levels left r = bare_spot r
member_spot (Some x) shape at levels left r =
    if is_null x.0 then bare_spot r else shaped_spot x.0 shape at levels left r

abbrev pub entry_spot : LaidSchema → Look → DeclaredField → Place → ℕ → ℕ → ℕ → Spot
entry_spot L look f at code levels left =
    let r = rest_of (entry_meant L look f at code levels left) in
    if f.deprecated then bare_spot r else member_spot (look f.name) (read_shape L code f.shape) at levels left r

-- a slot that tells no code has no entry
abbrev pub told_spot : Result ℕ JsonFault → (ℕ → Spot) → Spot
told_spot (Ok c) spot = spot c
told_spot (Err f) spot = bare_spot (Err f)

abbrev pub slot_spot : LaidSchema → Look → DeclaredField → Place → ℕ → ℕ → ℕ → Spot
slot_spot L look f at code levels left =
    told_spot (code_after L.schema look at code f.deprecated f.name f.shape) (λ c. entry_spot L look f at c levels left)

abbrev pub ToSlot : LaidSchema → Look → TypeId → List DeclaredField → ℕ → ℕ → JsonStep → Spot → Type 0
ToSlot L look t fs levels cells (Slot owner k) y =
    (owner ≡ t) × Reaches (slot_reader L look t.0 levels) fs (0, cells) k
    (λ f s. slot_spot L look f (slot_place t.0 k) s.0 levels s.1) y
ToSlot L look t fs levels cells _ y = ⊥

-- ---- fields of structs

abbrev pub field_reader : Look → ℕ → ℕ → ℕ → DeclaredField → ℕ → Result ℕ JsonFault
field_reader look s levels k f left = rest_of (part_meant (look f.name) f.shape (slot_place s k) levels left)

abbrev pub field_spot : Option (Data × Meaner) → Shape → Place → ℕ → ℕ → Spot
field_spot None shape at levels left = bare_spot (Err (MissingMember at))
field_spot (Some x) shape at levels left = tree_spot x.0 shape at levels left

abbrev pub ToField : Look → TypeId → List DeclaredField → ℕ → ℕ → JsonStep → Spot → Type 0
ToField look s fs levels left (Field owner k) y =
    (owner ≡ s) × Reaches (field_reader look s.0 levels) fs left k
    (λ f rest. field_spot (look f.name) f.shape (slot_place s.0 k) levels rest) y
ToField look s fs levels left _ y = ⊥

-- ---- elements

abbrev pub elements_of : Items → List Data
elements_of no_items = []
elements_of (item d ds) = d ∷ elements_of ds

abbrev pub element_reader : LaidSchema → Bool → Kind → Place → ℕ → ℕ → Data → ℕ → Result ℕ JsonFault
element_reader L unknown kind at levels i d left = rest_of (meant L unknown d (One kind) at levels left)

abbrev pub ToElement : LaidSchema → Bool → Kind → Place → List Data → ℕ → ℕ → JsonStep → Spot → Type 0
ToElement L unknown kind at ds levels left (Element i) y =
    Reaches (element_reader L unknown kind at levels) ds left i (λ d rest. tree_spot d (One kind) at levels rest) y
ToElement L unknown kind at ds levels left _ y = ⊥

-- ---- paths

-- the step from a place that breaks nothing itself, and leaves these cells for its parts
abbrev pub StepsTo : LaidSchema → Bool → Spot → ℕ → JsonStep → Spot → Type 0
StepsTo L unknown (tree_spot (object ms) (One (Table t)) at levels left) cells step y =
    ToSlot L (look L unknown ms) t (slots_in (body_at L.schema t.0)) (levels - 1) cells step y
StepsTo L unknown (tree_spot (object ms) (One (Struct s)) at levels left) cells step y =
    ToField (look L unknown ms) s (parts_in (body_at L.schema s.0)) levels cells step y
StepsTo L unknown (tree_spot (array ds) (Many kind) at levels left) cells step y =
    ToElement L unknown kind at (elements_of ds) levels cells step y
StepsTo L unknown _ cells step y = ⊥

-- The first fault from x is at the end of these steps: what the last leads to breaks a rule or a limit itself, and
-- nothing that is read before it on the way has a fault.
abbrev pub IsFirstAt : LaidSchema → Bool → Spot → List JsonStep → JsonFault → Type 0
IsFirstAt L unknown x [] f = front_of L unknown x ≡ Err f
IsFirstAt L unknown x (step ∷ steps) f =
    (cells : ℕ) × (front_of L unknown x ≡ Ok cells) × (y : Spot) × StepsTo L unknown x cells step y
    × IsFirstAt L unknown y steps f

abbrev pub root_spot : LaidSchema → Bounds → Data → Spot
root_spot L most t = tree_spot t (root_shape L.schema.root) (type_place L.schema.root) most.depth most.cells

-- These are the steps from the root to the tree's first fault.
abbrev pub LeadsToFirst : LaidSchema → Bounds → Bool → Data → List JsonStep → Type 0
LeadsToFirst L most unknown t steps =
    (f : JsonFault) × IsFirst L most unknown t f × IsFirstAt L unknown (root_spot L most t) steps f

-- ---- the walk

-- The same after a first step to one of some parts.
abbrev pub IsFirstIn : LaidSchema → Bool → (JsonStep → Spot → Type 0) → List JsonStep → JsonFault → Type 0
IsFirstIn L unknown To [] f = ⊥
IsFirstIn L unknown To (step ∷ steps) f = (y : Spot) × To step y × IsFirstAt L unknown y steps f

-- A walk that was refused put the steps to the fault in front of what its trail had, if that keeps steps.
abbrev pub Trails : {A : Type 0} → Result A JsonFault → Option (List JsonStep) → Option (List JsonStep)
    → (List JsonStep → JsonFault → Type 0) → Type 0
Trails (Ok x) old new IsPath = new ≡ old
Trails (Err f) old new IsPath =
    f ≢ Memory → (steps : List JsonStep) × (new ≡ option_map (λ rest. steps ++ rest) old) × IsPath steps f
