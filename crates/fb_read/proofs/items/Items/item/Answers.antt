use mir.Facts.{to_z-of_z}
use Rattle.std.proofs.Common.{◌≡◌, Some, refl, sym, ap, ◌∙◌, arith, rules}
use Rattle.std.specs.Prelude.{FitsSigned}
use Rattle.std.specs.Int.{w128}
use Rattle.fb_schema.specs.declared.kinds.Kind.{Kind}
use Rattle.fb_layout.specs.Laid.{stored_kind, size_of}
use Rattle.fb_read.specs.Kinds.{base_wanted, structure_wanted, table_wanted, is_text}
use Rattle.fb_read.specs.Stored.{text_behind}
use Rattle.fb_read.proofs.placed.PartsLieInTheirPlaces.{item_within, item_number, item_text_sure, item_text}
use Rattle.fb_read.proofs.placed.PartsLieInTheirPlaces.{item_table_lies, item_table, item_struct, base_fits}
use Rattle.fb_read.proofs.entry.EntryIsWhatWasFound.{number_told, text_told, table_told, struct_told}
use Rattle.fb_read.proofs.view.WholeViewsHaveWholeChildren.{item_whole}
use Rattle.fb_read.proofs.items.Items.item.Goals as goal

pub number_at-requires : goal.number_at-requires
number_at-requires c =
    let L = c.args.self.layout.now in
    let kind = stored_kind L.schema c.args.self.kind in
    let wanted = ap (λ (k : Kind). base_wanted (stored_kind L.schema k)) c.in-Scalar.is in
    rw (c.position-at.ensures, base_fits L kind c.in-Scalar.base wanted)
    (item_within c.args.self.at c.args.self.len (size_of L kind) _ c.args.i c.requires c.args.self.within)

pub returns-in-Scalar : goal.returns-in-Scalar
returns-in-Scalar c =
    let L = c.args.self.layout.now in
    let kind = stored_kind L.schema c.args.self.kind in
    let wanted = ap (λ (k : Kind). base_wanted (stored_kind L.schema k)) c.in-Scalar.is in
    let fits : FitsSigned w128 c.number_at.result = search (rules, c.number_at.type_inv) in
    record {
      shows = λ ds lies.
          number_told _ _ (sym (rw (
            to_z-of_z {w = w128} {z = c.number_at.result} fits,
            c.number_at.ensures,
            c.position-at.ensures,
          ) (item_number L c.args.self.bytes.now kind c.args.self.at c.args.self.len c.args.i
          c.requires ds c.in-Scalar.base lies wanted)));
      lighter = omega arith;
    }

pub returns-in-Enum-clause-shows : goal.returns-in-Enum-clause-shows
returns-in-Enum-clause-shows c ds lies =
    let L = c.args.self.layout.now in
    let kind = stored_kind L.schema c.args.self.kind in
    let wanted : base_wanted kind ≡ Some c.base_of.result =
    ap (λ (k : Kind). base_wanted (stored_kind L.schema k)) c.in-Enum.is ∙ ap Some (sym c.base_of.ensures) in
    let fits : FitsSigned w128 c.number_at-in-Enum.result = search (rules, c.number_at-in-Enum.type_inv) in
    number_told _ _ (sym (rw (
      to_z-of_z {w = w128} {z = c.number_at-in-Enum.result} fits,
      c.number_at-in-Enum.ensures,
      c.position-at.ensures,
    ) (item_number L c.args.self.bytes.now kind c.args.self.at c.args.self.len c.args.i
    c.requires ds c.base_of.result lies wanted)))

pub text_behind-requires : goal.text_behind-requires
text_behind-requires c =
    let L = c.args.self.layout.now in
    rw c.position-at.ensures (item_text_sure L c.args.self.bytes.now (stored_kind L.schema c.args.self.kind)
    c.args.self.at c.args.self.len c.args.i c.requires c.args.self.lies
    (ap (λ (k : Kind). is_text (stored_kind L.schema k)) c.in-Text.is))

pub returns-in-Text : goal.returns-in-Text
returns-in-Text c =
    let L = c.args.self.layout.now in
    record {
      shows = λ ds lies. text_told _ _ (sym (ap Some (c.text_behind.ensures
          ∙ ap (text_behind c.args.self.bytes.now) c.position-at.ensures)
          ∙ item_text L c.args.self.bytes.now (stored_kind L.schema c.args.self.kind) c.args.self.at c.args.self.len
          c.args.i c.requires ds lies (ap (λ (k : Kind). is_text (stored_kind L.schema k)) c.in-Text.is)));
      lighter = omega arith;
    }

pub returns-in-Struct-clause-shows : goal.returns-in-Struct-clause-shows
returns-in-Struct-clause-shows c ds lies =
    let L = c.args.self.layout.now in
    let found = item_struct L c.args.self.bytes.now (stored_kind L.schema c.args.self.kind) c.args.self.at
    c.args.self.len c.args.i c.requires ds c.in-Struct.structure.0 lies
    (ap (λ (k : Kind). structure_wanted (stored_kind L.schema k)) c.in-Struct.is) in
    rw c.position-at.ensures (refl, found.0, struct_told _ found.0 found.1, found.2)

pub vtable_in-requires-clause-lies : goal.vtable_in-requires-clause-lies
vtable_in-requires-clause-lies c =
    let L = c.args.self.layout.now in
    rw (c.u32_at.ensures, c.position-at.ensures)
    (item_table_lies L c.args.self.bytes.now (stored_kind L.schema c.args.self.kind) c.args.self.at
    c.args.self.len c.args.i c.requires c.args.self.lies c.in-Table.table.0
    (ap (λ (k : Kind). table_wanted (stored_kind L.schema k)) c.in-Table.is))

pub invariant_of-result-in-Table : goal.invariant_of-result-in-Table
invariant_of-result-in-Table c =
    let L = c.args.self.layout.now in
    record {
      short = c.args.self.short;
      lies = rw (c.u32_at.ensures, c.position-at.ensures)
          (item_table_lies L c.args.self.bytes.now (stored_kind L.schema c.args.self.kind) c.args.self.at
          c.args.self.len c.args.i c.requires c.args.self.lies c.in-Table.table.0
          (ap (λ (k : Kind). table_wanted (stored_kind L.schema k)) c.in-Table.is));
      vtable = c.vtable_in.ensures.vtable;
      vtable_whole = c.vtable_in.ensures.whole;
      vtable_within = c.vtable_in.ensures.within;
      known = rw (c.u32_at.ensures, c.position-at.ensures) (λ known. item_whole L c.args.self.bytes.now
          (stored_kind L.schema c.args.self.kind) c.args.self.at c.args.self.len c.args.i c.requires c.args.self.lies
          (c.args.self.known known) c.in-Table.table.0
          (ap (λ (k : Kind). table_wanted (stored_kind L.schema k)) c.in-Table.is));
    }

pub returns-in-Table : goal.returns-in-Table
returns-in-Table c =
    let L = c.args.self.layout.now in
    let there = c.position-at.ensures in
    record {
      shows = λ ds lies.
          let found = item_table L c.args.self.bytes.now (stored_kind L.schema c.args.self.kind) c.args.self.at
          c.args.self.len c.args.i c.requires ds c.in-Table.table.0 lies
          (ap (λ (k : Kind). table_wanted (stored_kind L.schema k)) c.in-Table.is) in
          rw (c.u32_at.ensures, c.position-at.ensures) (refl, found.0, table_told _ found.0 found.1, found.2);
      lighter = omega (arith, there);
    }
