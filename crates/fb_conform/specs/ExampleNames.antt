-- Names that are moved, names that are kept, and JSON texts that name what is kept: rows worked by hand.
use Rattle.std.proofs.Common.{◌≡◌, ℕ, zero, suc, Bool, true, false, cond, List, [], ◌∷◌, None, Some, option_map}
use Rattle.std.proofs.Common.{bytes_eq, pos, refl, arith}
use Rattle.std.proofs.lemmas.Slice.Eq.{bytes_eq-Decides}
use Rattle.serde_json.specs.Data.{Data, unsigned, number, object, no_members, member}
use Rattle.fb_schema.specs.declared.kinds.Kind.TheVariants.{Table}
use Rattle.fb_schema.specs.declared.kinds.Shape.TheVariants.{One}
use Rattle.fb_schema.specs.Schema.{Name, DeclaredField, table_body, body_at}
use Rattle.fb_layout.specs.Laid.{LaidSchema}
use Rattle.fb_value.specs.Datum.{Datum, a_number, a_table, no_entries, present_entry}
use Rattle.fb_json.specs.Meant.{names_known}
use Rattle.fb_conform.specs.declared.names.MovedName.{MovedName}
use Rattle.fb_conform.specs.Names.{slot_named, KeepsNames, IsMoved}
use Rattle.fb_conform.specs.NamesStay.{NamesStay}
use Rattle.fb_conform.specs.ExampleSchemas.{id, int_field, byte_field, one_table, with_union, with_struct, called}

-- a field of another name
abbrev pub named : ℕ → DeclaredField → DeclaredField
named letter f = record {
  name = letter ∷ [];
  shape = f.shape;
  default = f.default;
  optional = f.optional;
  required = f.required;
  deprecated = f.deprecated;
  slot = f.slot;
}

-- table T of ints that are called by these letters
abbrev pub ints : ℕ → List ℕ → List DeclaredField
ints k [] = []
ints k (letter ∷ letters) = named letter (int_field k) ∷ ints (suc k) letters

abbrev pub called_by : List ℕ → LaidSchema
called_by letters = one_table (ints 0 letters)

abbrev moved : ℕ → ℕ → MovedName
moved t k = record { type_id = id t; slot = k }

-- table T { h:int; m:int; } becomes table T { s:int; h:int; m:int; }: h was slot 0 and is slot 1
pub in_front_row : IsMoved (called_by (0x68 ∷ 0x6d ∷ [])) (called_by (0x73 ∷ 0x68 ∷ 0x6d ∷ [])) (moved 0 0)
in_front_row =
    record { name = 0x68 ∷ []; type = 0; slot = 1; twins = refl; old = refl; new = refl; moved = λ e. omega (arith, e) }

-- h and m change places
pub swapped_row : IsMoved (called_by (0x68 ∷ 0x6d ∷ [])) (called_by (0x6d ∷ 0x68 ∷ [])) (moved 0 1)
swapped_row =
    record { name = 0x6d ∷ []; type = 0; slot = 0; twins = refl; old = refl; new = refl; moved = λ e. omega (arith, e) }

-- h is removed, and s added after m
pub removed_row : IsMoved (called_by (0x68 ∷ 0x6d ∷ [])) (called_by (0x6d ∷ 0x73 ∷ [])) (moved 0 1)
removed_row =
    record { name = 0x6d ∷ []; type = 0; slot = 0; twins = refl; old = refl; new = refl; moved = λ e. omega (arith, e) }

-- struct S { x:ubyte; y:ubyte; } becomes struct S { y:ubyte; x:ubyte; }
abbrev pair_of : ℕ → ℕ → LaidSchema
pair_of first second = with_struct (named first (byte_field 0) ∷ named second (byte_field 1) ∷ [])
    (record { size = 2; align = 1; offsets = 0 ∷ 1 ∷ [] })

pub struct_row : IsMoved (pair_of 0x78 0x79) (pair_of 0x79 0x78) (moved 0 0)
struct_row =
    record { name = 0x78 ∷ []; type = 0; slot = 1; twins = refl; old = refl; new = refl; moved = λ e. omega (arith, e) }

-- union U { A, B } becomes union U { B:A, A:B }: A was code 1 and is code 2
abbrev a_and_b : List (Name × ℕ) → LaidSchema
a_and_b members = with_union 2 (called 0x41 (table_body []) ∷ called 0x42 (table_body []) ∷ []) members

pub union_row : IsMoved (a_and_b ((0x41 ∷ [], 0) ∷ (0x42 ∷ [], 1) ∷ []))
    (a_and_b ((0x42 ∷ [], 0) ∷ (0x41 ∷ [], 1) ∷ [])) (moved 2 1)
union_row =
    record { name = 0x41 ∷ []; type = 2; slot = 2; twins = refl; old = refl; new = refl; moved = λ e. omega (arith, e) }

-- h is called v where it is: names are kept, since the name h is gone
abbrev hm : LaidSchema
hm = called_by (0x68 ∷ 0x6d ∷ [])

abbrev vm : LaidSchema
vm = called_by (0x76 ∷ 0x6d ∷ [])

same_slot : (name : Name) (k j : ℕ) → slot_named (body_at hm.schema 0) name ≡ Some k
    → slot_named (body_at vm.schema 0) name ≡ Some j → j ≡ k
same_slot name k j old new = by (bytes_eq name (0x68 ∷ [])) (bytes_eq name (0x6d ∷ [])) refl refl old
  where
    by : (x y : Bool) → bytes_eq name (0x68 ∷ []) ≡ x → bytes_eq name (0x6d ∷ []) ≡ y
        → option_map (λ f. f.slot)
        (cond x (Some (named 0x68 (int_field 0))) (cond y (Some (named 0x6d (int_field 1))) None)) ≡ Some k → j ≡ k
    by true y is_h is_m e =
        let here = (bytes_eq-Decides name (0x68 ∷ [])).0 is_h in
        let gone : None ≡ Some j = rw here at new in
        absurd cc
    by false true is_h is_m e =
        let here = (bytes_eq-Decides name (0x6d ∷ [])).0 is_m in
        let is : Some 1 ≡ Some j = rw here at new in
        let was : Some 1 ≡ Some k = e in
        cc
    by false false is_h is_m e = absurd cc

pub renamed_row : KeepsNames hm vm
renamed_row zero u k j name twins old new =
    let first : Some 0 ≡ Some u = twins in
    let same : u ≡ 0 = cc in
    same_slot name k j old (rw same at new)
renamed_row (suc t) u k j name twins old new = let none : None ≡ Some u = twins in absurd cc

-- ---- JSON texts of a schema in which h was renamed

abbrev json_of : ℕ → ℕ → Data
json_of letter n = object (member (letter ∷ []) (number (unsigned n)) no_members)

abbrev hm_value : ℕ → ℕ → Datum
hm_value h m = a_table 0 (present_entry (a_number (pos h)) (present_entry (a_number (pos m)) no_entries))

-- {"m": 5} names nothing that is renamed
pub stays_row : NamesStay hm vm (json_of 0x6d 5) (One (Table (id 0))) (hm_value 0 5)
unfolding names_known
stays_row = (refl, (tt, (tt, tt)))

-- {"h": 30} does
pub gone_row : NamesStay hm vm (json_of 0x68 30) (One (Table (id 0))) (hm_value 30 0) → ⊥
unfolding names_known
gone_row stays = let bad : false ≡ true = stays.0 in cc
