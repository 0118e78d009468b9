use Rattle.std.proofs.Common.{◌≡◌, ◌+◌, true, Some, Result, Ok, Err, MatchResult, is_ok, refl, sym, ◌∙◌, rules}
use Rattle.fb_schema.specs.declared.kinds.Base.{Base}
use Rattle.fb_layout.specs.Laid.{StoredKind, scalar_kind, struct_kind, table_kind, union_kind, code_kind, text_kind}
use Rattle.fb_layout.specs.Laid.{stored_kind}
use Rattle.fb_value.specs.Bounds.{Bounds}
use Rattle.fb_value.specs.Places.{inline_place}
use Rattle.fb_value.specs.Nth.{slot_place}
use Rattle.fb_read.specs.Kinds.{base_wanted}
use Rattle.fb_read.specs.Visits.{slot_seen}
use Rattle.fb_read.specs.Walks.{place}
use Rattle.fb_read.proofs.visit_tables.PartsAddUp.{parts_none}
use Rattle.fb_read.proofs.visit_tables.StaysWhole.{inline_at}
use Rattle.fb_read.proofs.visit_tables.VisitsOnePlaceAfterAnother.{visit_inline}
use Rattle.fb_read.proofs.visit_leaves.is_settled.Goals as goal

-- what holds of an Ok
of_ok : {T E : Type 0} (r : Result T E) (P : Type 0) (Q : E → Type 0) → MatchResult r (λ _. P) Q → is_ok r ≡ true → P
of_ok (Ok x) P Q holds fine = holds
of_ok (Err e) P Q holds fine = cc

-- only a number's kind has a basic type
number_kind : (kind : StoredKind) (base : Base) → base_wanted kind ≡ Some base → kind ≡ scalar_kind base
number_kind (scalar_kind b) base is = cc
number_kind (struct_kind s) base is = cc
number_kind (table_kind t) base is = cc
number_kind (union_kind u) base is = cc
number_kind (code_kind u) base is = cc
number_kind text_kind base is = cc

pub returns-clause-visit : goal.returns-clause-visit
returns-clause-visit c fine fs tables spent =
    let L = c.args.buffer.now.layout.now in
    let b = c.args.buffer.now.bytes.now in
    let most : Bounds = record { depth = c.args.buffer.now.most_depth; cells = c.args.buffer.now.most_cells } in
    let keeps = of_ok c.check_number.result _ _ (c.check_number.ensures.rules L) (sym c.is_ok.ensures.value ∙ fine) in
    let number : stored_kind L.schema c.in-One.kind ≡ scalar_kind c.in-Some.base =
    number_kind _ _ (sym c.in-Some.ensures) in
    let named : slot_place L b c.args.table.at c.args.slot fs (slot_seen L c.args.field.now)
    ≡ Some (record {
      sort = inline_place (scalar_kind c.in-Some.base);
      at =
          c.args.table.at + c.held_slot-offset.result;
    }) = search rules in
    rw named (visit_inline L b most (scalar_kind c.in-Some.base) (c.args.table.at + c.held_slot-offset.result) tables
    spent keeps)

pub returns-clause-parts : goal.returns-clause-parts
returns-clause-parts c fine fs =
    let L = c.args.buffer.now.layout.now in
    let b = c.args.buffer.now.bytes.now in
    let number : stored_kind L.schema c.in-One.kind ≡ scalar_kind c.in-Some.base =
    number_kind _ _ (sym c.in-Some.ensures) in
    let named : slot_place L b c.args.table.at c.args.slot fs (slot_seen L c.args.field.now)
    ≡ Some (record {
      sort = inline_place (scalar_kind c.in-Some.base);
      at =
          c.args.table.at + c.held_slot-offset.result;
    }) = search rules in
    rw named (parts_none L b (place (inline_place (scalar_kind c.in-Some.base)) (c.args.table.at
    + c.held_slot-offset.result)) refl refl)

pub returns-clause-whole : goal.returns-clause-whole
returns-clause-whole c fine fs =
    let L = c.args.buffer.now.layout.now in
    let b = c.args.buffer.now.bytes.now in
    let number : stored_kind L.schema c.in-One.kind ≡ scalar_kind c.in-Some.base =
    number_kind _ _ (sym c.in-Some.ensures) in
    let named : slot_place L b c.args.table.at c.args.slot fs (slot_seen L c.args.field.now)
    ≡ Some (record {
      sort = inline_place (scalar_kind c.in-Some.base);
      at =
          c.args.table.at + c.held_slot-offset.result;
    }) = search rules in
    rw named (inline_at c.args.buffer.now (scalar_kind c.in-Some.base) (c.args.table.at + c.held_slot-offset.result))
