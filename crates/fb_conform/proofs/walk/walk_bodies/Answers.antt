use Rattle.std.proofs.Common.{◌≡◌, ◌↔◌, ℕ, ℤ, List, map, All, Contains, IsTrue, Some, string_bytes, ◌∙◌, refl, sym, ap}
use Rattle.std.proofs.Common.{subst, rules, arith}
use Rattle.fb_schema.specs.Schema.{Name, enum_body, union_body, body_at, values_in}
use Rattle.fb_schema.specs.Found.{member_coded}
use Rattle.fb_schema.specs.Seen.{body_seen}
use Rattle.fb_conform.specs.declared.breaches.Breach.TheVariants.{KindChanged, StructChanged, EnumChanged, UnionChanged}
use Rattle.fb_conform.specs.declared.difference.Difference.TheVariants.{Breach as Broken}
use Rattle.fb_conform.specs.Conforms.{SameStruct, KeepsValues, KeepsMembers, CodeKept}
use Rattle.fb_conform.proofs.walk.DifferencesAreReportedInOrder.{reported}
use Rattle.fb_conform.proofs.walk.EachPlaceIsWalked.{body_walked}
use Rattle.fb_conform.proofs.walk.OtherBreachesAreKept.{own_number, twin_decides, struct_decides, enum_decides}
use Rattle.fb_conform.proofs.walk.OtherBreachesAreKept.{both_passed, one_failed, kind_stands}
use Rattle.fb_conform.proofs.walk.walk_bodies.Goals as goal
use Rattle.fb_conform.proofs.walk.walk_bodies.Goals.{then-same_numbers, else-same_numbers}

pub returns-in-Struct-Struct : goal.returns-in-Struct-Struct
returns-in-Struct-Struct g c =
    let A = c.args.old.now in
    let B = c.args.new.now in
    let t = c.args.type_id.0 in
    let u = c.args.twin.0 in
    let twins = c.requires.twins in
    let was = sym c.body_of-was.ensures.body
    ∙ ap body_seen c.in-Struct-Struct.is-0 in
    let is = sym c.body_of-is.ensures.body
    ∙ ap body_seen c.in-Struct-Struct.is-1 in
    let own : own_number (body_at A.schema t) (body_at B.schema u) ≡ 94 = rw (was, is) refl in
    let kept = twin_decides A B t u twins c.same_struct-kept.result
    (λ v. SameStruct A B t v (body_at A.schema t) (body_at B.schema v))
    (struct_decides A B t u twins c.same_struct-kept.result _ _ own c.same_struct-kept.ensures) in
    body_walked A B g.H.DifferenceHearer.wants _ t _ _ c.report_unless.result u twins (StructChanged c.args.type_id)
    refl refl
    (omega arith) own c.requires.before (c.report_unless.ensures A B kept)

pub returns-after-same_numbers : goal.returns-after-same_numbers
returns-after-same_numbers g c =
    let A = c.args.old.now in
    let B = c.args.new.now in
    let t = c.args.type_id.0 in
    let u = c.args.twin.0 in
    let twins = c.requires.twins in
    let e = c.in-Enum-Enum in
    let values : List (Name × ℤ) = map (λ v. (string_bytes v.0, v.1)) e.values.items in
    let others : List (Name × ℤ) = map (λ v. (string_bytes v.0, v.1)) e.field-2-1.items in
    let was : body_at A.schema t ≡ enum_body e.base e.flags values =
    sym c.body_of-was.ensures.body
    ∙ ap body_seen e.is-0 in
    let is : body_at B.schema u ≡ enum_body e.other e.marks others =
    sym c.body_of-is.ensures.body
    ∙ ap body_seen e.is-1 in
    let told : IsTrue c.if-same_numbers.kept
    ↔ ((e.other ≡ e.base) × (e.marks ≡ e.flags) × All (Contains (values_in (body_at B.schema u))) values) =
    elim c.if-same_numbers.branch [
      | then-same_numbers w ↦ both_passed _ _ _ c.same_numbers.result w.has_values-kept.result c.if-same_numbers.kept
          c.same_numbers.ensures
          (subst (λ (vs : List (Name × ℤ)). IsTrue w.has_values-kept.result
          ↔ All (Contains (values_in (body_at B.schema u))) vs)
          (ap (λ vs. map (λ v. (string_bytes v.0, v.1)) vs) w.deref.ensures.value) w.has_values-kept.ensures)
          w.if-same_numbers.true w.kept-is
      | else-same_numbers w ↦ one_failed _ _ _ c.same_numbers.result c.if-same_numbers.kept c.same_numbers.ensures
          w.if-same_numbers.false (w.kept-is ∙ w.if-same_numbers.false)
    ]
    in
    let kept = twin_decides A B t u twins c.if-same_numbers.kept
    (λ v. KeepsValues (body_at A.schema t) (body_at B.schema v))
    (enum_decides c.if-same_numbers.kept _ _ e.base e.other e.flags e.marks values others was is told) in
    let own : own_number (body_at A.schema t) (body_at B.schema u) ≡ 101 = rw (was, is) refl in
    body_walked A B g.H.DifferenceHearer.wants _ t _ _ c.report_unless-in-Enum-Enum.result u twins
    (EnumChanged c.args.type_id)
    refl refl (omega arith) own c.requires.before (c.report_unless-in-Enum-Enum.ensures A B kept)

pub returns-in-Union-Union : goal.returns-in-Union-Union
returns-in-Union-Union g c =
    let A = c.args.old.now in
    let B = c.args.new.now in
    let t = c.args.type_id.0 in
    let u = c.args.twin.0 in
    let twins = c.requires.twins in
    let e = c.in-Union-Union in
    let members : List (Name × ℕ) = map (λ m. (string_bytes m.0, m.1.0)) e.members.items in
    let others : List (Name × ℕ) = map (λ m. (string_bytes m.0, m.1.0)) e.field-0-1.items in
    let was : body_at A.schema t ≡ union_body members =
    sym c.body_of-was.ensures.body
    ∙ ap body_seen e.is-0 in
    let is : body_at B.schema u ≡ union_body others =
    sym c.body_of-is.ensures.body
    ∙ ap body_seen e.is-1 in
    let kept = c.keeps_codes-kept.result in
    let told : IsTrue kept
    ↔ ((k m : ℕ) → member_coded (union_body members) k ≡ Some m → CodeKept A.schema B.schema (body_at B.schema u) k
    m) =
    subst (λ (ms : List (Name × ℕ)). IsTrue kept
    ↔ ((k m : ℕ) → member_coded (union_body ms) k ≡ Some m → CodeKept A.schema B.schema (body_at B.schema u) k m))
    (ap (λ ms. map (λ m. (string_bytes m.0, m.1.0)) ms) c.deref-in-Union-Union.ensures.value) c.keeps_codes-kept.ensures
    in
    let members_kept : IsTrue kept ↔ KeepsMembers A.schema B.schema (body_at A.schema t) (body_at B.schema u) =
    rw (was, is) (rw is at told) in
    let own : own_number (body_at A.schema t) (body_at B.schema u) ≡ 102 = rw (was, is) refl in
    body_walked A B g.H.DifferenceHearer.wants _ t _ _ c.report_unless-in-Union-Union.result u twins
    (UnionChanged c.args.type_id)
    refl refl (omega arith) own c.requires.before
    (c.report_unless-in-Union-Union.ensures A B (twin_decides A B t u twins kept
    (λ v. KeepsMembers A.schema B.schema (body_at A.schema t) (body_at B.schema v)) members_kept))

pub returns-in_default : goal.returns-in_default
returns-in_default g c =
    let A = c.args.old.now in
    let B = c.args.new.now in
    let t = c.args.type_id.0 in
    let u = c.args.twin.0 in
    let twins = c.requires.twins in
    let was = sym c.body_of-was.ensures.body in
    let is = sym c.body_of-is.ensures.body in
    let seen : own_number (body_seen c.body_of-was.result.now) (body_seen c.body_of-is.result.now) ≡ 93 =
    search rules in
    let own : own_number (body_at A.schema t) (body_at B.schema u) ≡ 93 = rw (was, is) seen in
    body_walked A B g.H.DifferenceHearer.wants _ t _ _ c.hear.result u twins (KindChanged c.args.type_id) refl refl
    (omega arith)
    own
    c.requires.before (reported A B g.H.DifferenceHearer.wants _ (Broken (KindChanged c.args.type_id)) _ _ c.hear.result
    (kind_stands A B t u twins own) c.hear.ensures.kept c.hear.ensures.ignored c.hear.ensures.stopped)

pub walk_slots-requires-clause-tables : goal.walk_slots-requires-clause-tables
walk_slots-requires-clause-tables g c =
    let was = sym c.body_of-was.ensures.body ∙ ap body_seen c.in-Table-Table.is-0 in
    let is = sym c.body_of-is.ensures.body ∙ ap body_seen c.in-Table-Table.is-1 in
    record { twins = c.requires.twins; old = rw was refl; new = rw is refl }

pub returns-in-Table-Table : goal.returns-in-Table-Table
returns-in-Table-Table g c = c.walk_slots.ensures
