use Rattle.std.proofs.Common.{◌≡◌, ◌≢◌, ℕ, ◌+◌, ◌<◌, ◌^◌, None, Some, Fits, refl, sym, ◌∙◌, arith}
use Rattle.std.specs.Int.{w64}
use Rattle.fb_schema.specs.declared.kinds.Shape.{Shape}
use Rattle.fb_schema.specs.declared.kinds.Kind.{Kind}
use Rattle.fb_read.proofs.stored.SlotNamesItsPlace.{slot_names, slot_names_one, slot_names_code, slot_names_none}
use Rattle.fb_read.proofs.stored.SlotNamesItsPlace.{slot_names_union, union_has_no_default}
use Rattle.fb_read.proofs.stored.stored_in.Goals as goal

-- what has a place is no default
has_place : {A B : Type 0} {x : A} → Some x ≡ None → B
has_place is = absurd cc

field_low : (at offset : ℕ) → at < 2 ^ 32 → offset < 2 ^ 16 → at + offset < 2 ^ 33
field_low at offset low small = omega arith

field_fits : (at offset : ℕ) → at < 2 ^ 32 → offset < 2 ^ 16 → Fits w64 (at + offset)
field_fits at offset low small = omega arith

field_behind : (at offset : ℕ) → offset ≢ 0 → at < at + offset
field_behind at offset some = omega arith

slot_low : (slot : ℕ) → slot < 2 ^ 15 → slot + 1 < 2 ^ 16
slot_low slot few = omega arith

this_low : (slot : ℕ) → slot < 2 ^ 15 → slot < 2 ^ 16
this_low slot few = omega arith

next_fits : (slot : ℕ) → slot < 2 ^ 15 → Fits w64 (slot + 1)
next_fits slot few = omega arith

table_low : (at : ℕ) → at < 2 ^ 32 → at < 2 ^ 33
table_low at low = omega arith

pub returns-then-field-clause-place : goal.returns-then-field-clause-place
returns-then-field-clause-place c = rw c.if-field.true refl

pub returns-then-field-clause-default : goal.returns-then-field-clause-default
returns-then-field-clause-default c none = rw c.if-field.true refl

pub slot_of-offset-requires-clause-vtable : goal.slot_of-offset-requires-clause-vtable
slot_of-offset-requires-clause-vtable c = c.requires.vtable.vtable_is

pub slot_of-offset-requires-clause-whole : goal.slot_of-offset-requires-clause-whole
slot_of-offset-requires-clause-whole c = c.requires.vtable.whole

pub slot_of-offset-requires-clause-within : goal.slot_of-offset-requires-clause-within
slot_of-offset-requires-clause-within c = c.requires.vtable.within

pub slot_of-offset-requires-clause-short : goal.slot_of-offset-requires-clause-short
slot_of-offset-requires-clause-short c = c.requires.short

pub slot_of-offset-requires-clause-few : goal.slot_of-offset-requires-clause-few
slot_of-offset-requires-clause-few c = this_low _ c.requires.few

pub returns-then-offset-eq0-clause-place : goal.returns-then-offset-eq0-clause-place
returns-then-offset-eq0-clause-place c = sym (slot_names_none c.args.layout.now c.args.bytes.now c.args.table.at
    c.args.slot c.slot_of-offset.result c.args.later.now
    c.args.field.now c.slot_of-offset.ensures.number c.if-offset-eq0.true)

pub returns-then-offset-eq0-clause-default : goal.returns-then-offset-eq0-clause-default
returns-then-offset-eq0-clause-default c none = c.default_of.ensures

pub overflow_add-result : goal.overflow_add-result
overflow_add-result c = field_fits _ _ c.requires.vtable.low c.slot_of-offset.ensures.small

pub overflow_add-result-in-One-Text : goal.overflow_add-result-in-One-Text
overflow_add-result-in-One-Text c = field_fits _ _ c.requires.vtable.low c.slot_of-offset.ensures.small

pub overflow_add-result-in-One-Table : goal.overflow_add-result-in-One-Table
overflow_add-result-in-One-Table c = field_fits _ _ c.requires.vtable.low c.slot_of-offset.ensures.small

pub overflow_add-at : goal.overflow_add-at
overflow_add-at c = field_fits _ _ c.requires.vtable.low c.slot_of-offset.ensures.small

pub overflow_add-result-in-One-Code : goal.overflow_add-result-in-One-Code
overflow_add-result-in-One-Code c = field_fits _ _ c.requires.vtable.low c.slot_of-offset.ensures.small

pub overflow_add-result-in-One-Scalar : goal.overflow_add-result-in-One-Scalar
overflow_add-result-in-One-Scalar c = field_fits _ _ c.requires.vtable.low c.slot_of-offset.ensures.small

pub overflow_add-result-in-One-Enum : goal.overflow_add-result-in-One-Enum
overflow_add-result-in-One-Enum c = field_fits _ _ c.requires.vtable.low c.slot_of-offset.ensures.small

pub overflow_add-result-in-One-Struct : goal.overflow_add-result-in-One-Struct
overflow_add-result-in-One-Struct c = field_fits _ _ c.requires.vtable.low c.slot_of-offset.ensures.small

pub union_code-code-requires-clause-vtable : goal.union_code-code-requires-clause-vtable
union_code-code-requires-clause-vtable c = c.requires.vtable.vtable_is

pub union_code-code-requires-clause-whole : goal.union_code-code-requires-clause-whole
union_code-code-requires-clause-whole c = c.requires.vtable.whole

pub union_code-code-requires-clause-within : goal.union_code-code-requires-clause-within
union_code-code-requires-clause-within c = c.requires.vtable.within

pub union_code-code-requires-clause-short : goal.union_code-code-requires-clause-short
union_code-code-requires-clause-short c = c.requires.short

pub union_code-code-requires-clause-low : goal.union_code-code-requires-clause-low
union_code-code-requires-clause-low c = table_low _ c.requires.vtable.low

pub union_code-code-requires-clause-few : goal.union_code-code-requires-clause-few
union_code-code-requires-clause-few c = this_low _ c.requires.few

pub stored_member-requires : goal.stored_member-requires
stored_member-requires c = record { low = field_low _ _ c.requires.vtable.low c.slot_of-offset.ensures.small }

pub overflow_add-slot : goal.overflow_add-slot
overflow_add-slot c = next_fits _ c.requires.few

pub is_stored-requires-clause-vtable : goal.is_stored-requires-clause-vtable
is_stored-requires-clause-vtable c = c.requires.vtable.vtable_is

pub is_stored-requires-clause-whole : goal.is_stored-requires-clause-whole
is_stored-requires-clause-whole c = c.requires.vtable.whole

pub is_stored-requires-clause-within : goal.is_stored-requires-clause-within
is_stored-requires-clause-within c = c.requires.vtable.within

pub is_stored-requires-clause-short : goal.is_stored-requires-clause-short
is_stored-requires-clause-short c = c.requires.short

pub is_stored-requires-clause-few : goal.is_stored-requires-clause-few
is_stored-requires-clause-few c = slot_low _ c.requires.few

pub returns-in-Many-clause-place : goal.returns-in-Many-clause-place
returns-in-Many-clause-place c = sym (slot_names c.args.layout.now c.args.bytes.now c.args.table.at c.args.slot
    c.slot_of-offset.result c.args.later.now c.args.field.now (Shape.Many c.in-Many.kind) c.if-field.false c.in-Many.is
    c.slot_of-offset.ensures.number c.if-offset-eq0.false refl)

pub returns-in-Many-clause-default : goal.returns-in-Many-clause-default
returns-in-Many-clause-default c is = has_place is

pub returns-in-Many-clause-low : goal.returns-in-Many-clause-low
returns-in-Many-clause-low c = field_low _ _ c.requires.vtable.low c.slot_of-offset.ensures.small

pub returns-in-Many-clause-behind : goal.returns-in-Many-clause-behind
returns-in-Many-clause-behind c = field_behind _ _ c.if-offset-eq0.false

pub returns-in-One-Text-clause-place : goal.returns-in-One-Text-clause-place
returns-in-One-Text-clause-place c = sym (slot_names_one c.args.layout.now c.args.bytes.now c.args.table.at
    c.args.slot c.slot_of-offset.result c.args.later.now
    c.args.field.now c.in-One-Text.field-0 (Kind.Text) c.if-field.false c.in-One-Text.is
    (rw c.in-One-Text.is at c.in-One-Text.field-0-is) c.slot_of-offset.ensures.number c.if-offset-eq0.false refl)

pub returns-in-One-Text-clause-default : goal.returns-in-One-Text-clause-default
returns-in-One-Text-clause-default c is = has_place is

pub returns-in-One-Text-clause-low : goal.returns-in-One-Text-clause-low
returns-in-One-Text-clause-low c = field_low _ _ c.requires.vtable.low c.slot_of-offset.ensures.small

pub returns-in-One-Text-clause-behind : goal.returns-in-One-Text-clause-behind
returns-in-One-Text-clause-behind c = field_behind _ _ c.if-offset-eq0.false

pub returns-in-One-Table-clause-place : goal.returns-in-One-Table-clause-place
returns-in-One-Table-clause-place c = sym (slot_names_one c.args.layout.now c.args.bytes.now c.args.table.at
    c.args.slot c.slot_of-offset.result c.args.later.now
    c.args.field.now c.in-One-Table.field-0 (Kind.Table c.in-One-Table.table) c.if-field.false c.in-One-Table.is
    (rw c.in-One-Table.is at c.in-One-Table.field-0-is) c.slot_of-offset.ensures.number c.if-offset-eq0.false refl)

pub returns-in-One-Table-clause-default : goal.returns-in-One-Table-clause-default
returns-in-One-Table-clause-default c is = has_place is

pub returns-in-One-Table-clause-low : goal.returns-in-One-Table-clause-low
returns-in-One-Table-clause-low c = field_low _ _ c.requires.vtable.low c.slot_of-offset.ensures.small

pub returns-in-One-Table-clause-behind : goal.returns-in-One-Table-clause-behind
returns-in-One-Table-clause-behind c = field_behind _ _ c.if-offset-eq0.false

pub returns-in-One-Scalar-clause-place : goal.returns-in-One-Scalar-clause-place
returns-in-One-Scalar-clause-place c = sym (slot_names_one c.args.layout.now c.args.bytes.now c.args.table.at
    c.args.slot c.slot_of-offset.result c.args.later.now
    c.args.field.now c.in-One-Scalar.field-0 (Kind.Scalar c.in-One-Scalar.base) c.if-field.false c.in-One-Scalar.is
    (rw c.in-One-Scalar.is at c.in-One-Scalar.field-0-is) c.slot_of-offset.ensures.number c.if-offset-eq0.false refl)

pub returns-in-One-Scalar-clause-default : goal.returns-in-One-Scalar-clause-default
returns-in-One-Scalar-clause-default c is = has_place is

pub returns-in-One-Scalar-clause-low : goal.returns-in-One-Scalar-clause-low
returns-in-One-Scalar-clause-low c = field_low _ _ c.requires.vtable.low c.slot_of-offset.ensures.small

pub returns-in-One-Scalar-clause-behind : goal.returns-in-One-Scalar-clause-behind
returns-in-One-Scalar-clause-behind c = field_behind _ _ c.if-offset-eq0.false

pub returns-in-One-Struct-clause-place : goal.returns-in-One-Struct-clause-place
returns-in-One-Struct-clause-place c = sym (slot_names_one c.args.layout.now c.args.bytes.now c.args.table.at
    c.args.slot c.slot_of-offset.result c.args.later.now
    c.args.field.now c.in-One-Struct.field-0 (Kind.Struct c.in-One-Struct.structure) c.if-field.false c.in-One-Struct.is
    (rw c.in-One-Struct.is at c.in-One-Struct.field-0-is) c.slot_of-offset.ensures.number c.if-offset-eq0.false refl)

pub returns-in-One-Struct-clause-default : goal.returns-in-One-Struct-clause-default
returns-in-One-Struct-clause-default c is = has_place is

pub returns-in-One-Struct-clause-low : goal.returns-in-One-Struct-clause-low
returns-in-One-Struct-clause-low c = field_low _ _ c.requires.vtable.low c.slot_of-offset.ensures.small

pub returns-in-One-Struct-clause-behind : goal.returns-in-One-Struct-clause-behind
returns-in-One-Struct-clause-behind c = field_behind _ _ c.if-offset-eq0.false

pub returns-in-One-Enum-clause-place : goal.returns-in-One-Enum-clause-place
returns-in-One-Enum-clause-place c = rw c.base_of.ensures (sym (slot_names_one c.args.layout.now c.args.bytes.now
    c.args.table.at c.args.slot c.slot_of-offset.result c.args.later.now
    c.args.field.now c.in-One-Enum.field-0 (Kind.Enum c.in-One-Enum.values) c.if-field.false c.in-One-Enum.is
    (rw c.in-One-Enum.is at c.in-One-Enum.field-0-is) c.slot_of-offset.ensures.number c.if-offset-eq0.false refl))

pub returns-in-One-Enum-clause-default : goal.returns-in-One-Enum-clause-default
returns-in-One-Enum-clause-default c is = has_place is

pub returns-in-One-Enum-clause-low : goal.returns-in-One-Enum-clause-low
returns-in-One-Enum-clause-low c = field_low _ _ c.requires.vtable.low c.slot_of-offset.ensures.small

pub returns-in-One-Enum-clause-behind : goal.returns-in-One-Enum-clause-behind
returns-in-One-Enum-clause-behind c = field_behind _ _ c.if-offset-eq0.false

pub returns-in-One-Code-clause-place : goal.returns-in-One-Code-clause-place
returns-in-One-Code-clause-place c = rw (c.is_first_required.ensures c.args.layout.now, c.is_stored.ensures) (sym
    (slot_names_code c.args.layout.now c.args.bytes.now c.args.table.at c.args.slot c.slot_of-offset.result
    c.args.later.now c.args.field.now
    c.in-One-Code.field-0 c.in-One-Code.union c.if-field.false c.in-One-Code.is
    (rw c.in-One-Code.is at c.in-One-Code.field-0-is) c.slot_of-offset.ensures.number c.if-offset-eq0.false))

pub returns-in-One-Code-clause-default : goal.returns-in-One-Code-clause-default
returns-in-One-Code-clause-default c is = has_place is

pub returns-in-One-Code-clause-low : goal.returns-in-One-Code-clause-low
returns-in-One-Code-clause-low c = field_low _ _ c.requires.vtable.low c.slot_of-offset.ensures.small

pub returns-in-One-Code-clause-behind : goal.returns-in-One-Code-clause-behind
returns-in-One-Code-clause-behind c = field_behind _ _ c.if-offset-eq0.false

pub returns-in-One-Union-clause-place : goal.returns-in-One-Union-clause-place
returns-in-One-Union-clause-place c = c.stored_member.ensures.place ∙ sym (slot_names_union c.args.layout.now
    c.args.bytes.now c.args.table.at c.args.slot c.slot_of-offset.result c.args.later.now c.args.field.now
    c.in-One-Union.field-0 c.in-One-Union.union c.union_code-code.result c.if-field.false c.in-One-Union.is
    (rw c.in-One-Union.is at c.in-One-Union.field-0-is) c.slot_of-offset.ensures.number c.if-offset-eq0.false
    c.union_code-code.ensures)

pub returns-in-One-Union-clause-default : goal.returns-in-One-Union-clause-default
returns-in-One-Union-clause-default c none = c.stored_member.ensures.default
    ∙ sym (rw (c.in-One-Union.is, rw c.in-One-Union.is at c.in-One-Union.field-0-is)
    (union_has_no_default c.args.field.now.deprecated c.args.field.now.optional c.args.field.now.default
    c.in-One-Union.union.0))

pub returns-in-One-Union-clause-low : goal.returns-in-One-Union-clause-low
returns-in-One-Union-clause-low c = c.stored_member.ensures.low

pub returns-in-One-Union-clause-behind : goal.returns-in-One-Union-clause-behind
returns-in-One-Union-clause-behind c = c.stored_member.ensures.behind _ (field_behind _ _ c.if-offset-eq0.false)
