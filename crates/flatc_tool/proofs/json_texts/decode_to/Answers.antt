use Rattle.std.proofs.Common.{◌≡◌, ◌<◌, ℕ, List, Bool, false, Option, All, Ok, Err, refl, arith, subst}
use Rattle.std.proofs.lemmas.List.Elements.{All-from_get_or}
use Rattle.fb_layout.specs.Laid.{LaidSchema}
use Rattle.fb_value.specs.Datum.{Datum}
use Rattle.fb_json.specs.Meant.{type_place}
use Rattle.fb_text.specs.Noted.{write_failed, writer_of}
use Rattle.fb_text.specs.Printed.{IfUnnamed, IsPrinted, TellsFailure as LayerTells}
use Rattle.fb_text.specs.Texts.{spaced_text}
use Rattle.fb_text.specs.declared.faults.WriteFault.{WriteFault}
use Rattle.fb_text.specs.declared.faults.WriteFault.TheVariants.{NoMemberName, WriteFailed}
use Rattle.fb_text.specs.declared.indents.Spacing.{Spacing}
use Rattle.fb_faults.specs.declared.faults.ToolFault.TheVariants.{Write}
use Rattle.flatc_tool.specs.Jobs.{spacing_of}
use Rattle.flatc_tool.specs.Prints.{IfUnwritten, TellsFailure}
use Rattle.flatc_tool.proofs.json_texts.PrintedIsTheJsonText.{at_layout, bytes_exclude, sent, unsent, unsent_excludes}
use Rattle.flatc_tool.proofs.json_texts.decode_to.Goals as goal

-- what is refused of a text that is spaced as it is said
at_spacing : (L : LaidSchema) (v : Datum) (defaults : Bool) (start known : Option (List ℕ)) (fault : WriteFault)
    {sp to : Spacing} → sp ≡ to
    → IsPrinted {A = Unit {0}} (type_place L.schema.root) v (spaced_text sp L defaults v) start known (Err fault)
    → IsPrinted {A = Unit {0}} (type_place L.schema.root) v (spaced_text to L defaults v) start known (Err fault)
at_spacing L v defaults start known fault e printed =
    subst (λ (sp : Spacing). IsPrinted {A = Unit {0}} (type_place L.schema.root) v (spaced_text sp L defaults v) start
    known (Err fault)) e printed

pub returns-in-Err-clause-exact : goal.returns-in-Err-clause-exact
returns-in-Err-clause-exact g c rule = bytes_exclude c.args.options.now.size_prefixed
    c.args.layout.now c.args.bytes.now c.args.options.now.limits
    c.args.options.now.raw_binary c.in-Err.fault c.in-Err.ensures.fault

pub returns-in-Ok-write_spaced-clause-printed : goal.returns-in-Ok-write_spaced-clause-printed
returns-in-Ok-write_spaced-clause-printed g c =
    let L = c.args.layout.now in
    let held = c.in-Ok.ensures.held in
    let view = c.in-Ok.view in
    let start = g.W.Write.contents (writer_of c.args.out.now) in
    let known = g.W.Write.contents (writer_of c.write_spaced.new.out) in
    let printed = (rw c.spacing_of.ensures at c.in-Ok-write_spaced.ensures.printed) held.0 (c.in-Ok.ensures.stands
    held.0 held.1) in
    let small : All (λ x. x < 256) c.args.bytes.now =
    All-from_get_or (λ x. x < 256) c.args.bytes.now 0 (λ i less. (let fits = c.type_inv.bytes i in omega arith)) in
    let root = at_layout (spacing_of c.args.options.now.compact) L view.layout.now view.table.0
    c.args.options.now.defaults_json held.0 start known (Ok tt)
    c.in-Ok.ensures.root.0 c.in-Ok.ensures.root.1 printed in
    sent c.layer_laws.ensures.laws c.args.options.now.compact c.args.options.now.size_prefixed c.args.bytes.now
    c.args.options.now.limits c.args.options.now.raw_binary
    c.args.options.now.defaults_json L held.0 held.1 start known tt c.layout_is_well_made.ensures
    c.spaced_texts_are_utf8.ensures small
    root

pub returns-in-Err-write_spaced-clause-refused : goal.returns-in-Err-write_spaced-clause-refused
returns-in-Err-write_spaced-clause-refused g c =
    let L = c.args.layout.now in
    let held = c.in-Ok.ensures.held in
    let view = c.in-Ok.view in
    let fault = c.in-Err-write_spaced.fault in
    let start = g.W.Write.contents (writer_of c.args.out.now) in
    let known = g.W.Write.contents (writer_of c.write_spaced.new.out) in
    let printed = c.in-Err-write_spaced.ensures.printed held.0 (c.in-Ok.ensures.stands held.0 held.1) in
    let root = at_spacing L held.0 c.args.options.now.defaults_json start known fault c.spacing_of.ensures
    (at_layout c.spacing_of.result L view.layout.now view.table.0 c.args.options.now.defaults_json held.0 start known
    (Err fault) c.in-Ok.ensures.root.0 c.in-Ok.ensures.root.1 printed) in
    unsent c.layer_laws.ensures.laws c.args.options.now.compact c.args.options.now.size_prefixed c.args.bytes.now
    c.args.options.now.limits c.args.options.now.raw_binary
    c.args.options.now.defaults_json L held.0 held.1 start known fault root

pub returns-in-Err-write_spaced-clause-exact : goal.returns-in-Err-write_spaced-clause-exact
returns-in-Err-write_spaced-clause-exact g c rule =
    let L = c.args.layout.now in
    let held = c.in-Ok.ensures.held in
    let view = c.in-Ok.view in
    let fault = c.in-Err-write_spaced.fault in
    let start = g.W.Write.contents (writer_of c.args.out.now) in
    let known = g.W.Write.contents (writer_of c.write_spaced.new.out) in
    let printed = c.in-Err-write_spaced.ensures.printed held.0 (c.in-Ok.ensures.stands held.0 held.1) in
    let root = at_spacing L held.0 c.args.options.now.defaults_json start known fault c.spacing_of.ensures
    (at_layout c.spacing_of.result L view.layout.now view.table.0 c.args.options.now.defaults_json held.0 start known
    (Err fault) c.in-Ok.ensures.root.0 c.in-Ok.ensures.root.1 printed) in
    unsent_excludes c.layer_laws.ensures.laws c.args.options.now.compact c.args.options.now.size_prefixed
    c.args.bytes.now c.args.options.now.limits
    c.args.options.now.raw_binary c.args.options.now.defaults_json L held.0 held.1 start known fault root rule

pub returns-in-Err-clause-refused : goal.returns-in-Err-clause-refused
returns-in-Err-clause-refused g c = c.in-Err.ensures.fault

pub returns-in-Err-clause-failed : goal.returns-in-Err-clause-failed
returns-in-Err-clause-failed g c = c.requires.fresh

pub returns-in-Err-clause-untouched : goal.returns-in-Err-clause-untouched
returns-in-Err-clause-untouched g c = refl

-- what is told of a failed write, and what one that isn't tried leaves
module _ (failed : Bool) (P : Type 0) where
  failure_told : (f : WriteFault) → LayerTells {A = Unit {0}} failed (Err f) → (P → failed ≡ false)
      → IfUnnamed {A = Unit {0}} (Err f) P → TellsFailure {A = Unit {0}} failed (Err (Write f))
  failure_told (NoMemberName at) told kept same = kept same
  failure_told (WriteFailed n) told kept same = told

  kept_unwritten : (f : WriteFault) → IfUnnamed {A = Unit {0}} (Err f) P → IfUnwritten {A = Unit {0}} (Err (Write f)) P
  kept_unwritten (NoMemberName at) same = same
  kept_unwritten (WriteFailed n) same = tt

pub returns-in-Err-write_spaced-clause-failed : goal.returns-in-Err-write_spaced-clause-failed
returns-in-Err-write_spaced-clause-failed g c =
    let told = c.in-Err-write_spaced.ensures in
    failure_told (write_failed c.write_spaced.new.out) (c.write_spaced.new.out ≡ c.args.out.now)
    c.in-Err-write_spaced.fault told.failed (λ same. rw same c.requires.fresh) told.untouched

pub returns-in-Err-write_spaced-clause-untouched : goal.returns-in-Err-write_spaced-clause-untouched
returns-in-Err-write_spaced-clause-untouched g c =
    kept_unwritten (write_failed c.write_spaced.new.out) (c.write_spaced.new.out ≡ c.args.out.now)
    c.in-Err-write_spaced.fault c.in-Err-write_spaced.ensures.untouched
