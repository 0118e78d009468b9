use Rattle.std.proofs.Common.{◌≡◌, ℕ, ◌+◌, ◌-◌, ◌^◌, ◌<◌, List, length, map, None, Some, slice_get}
use Rattle.std.proofs.Common.{slice_index, slice_index_or, sym, ap, ◌∙◌, arith}
use Rattle.std.proofs.lemmas.Option.{slice_get_within}
use Rattle.fb_schema.specs.declared.types.FieldInfo.{FieldInfo}
use Rattle.fb_schema.specs.Schema.{DeclaredField, body_at, parts_in}
use Rattle.fb_schema.specs.Seen.{field_seen}
use Rattle.fb_layout.specs.Laid.{struct_at}
use Rattle.fb_value.specs.Datum.{a_struct}
use Rattle.fb_value.specs.Nth.{nth_part}
use Rattle.fb_text.proofs.values.MemberIsItsCodeAndValue.{seen_there, seen_long}
use Rattle.fb_text.proofs.nested.FieldHasItsBytes.{has_byte}
use Rattle.fb_text.proofs.nested.inner_at.Goals as goal

-- the field that was found is the one that has the byte
field_is : (fields : List FieldInfo) (parts : List DeclaredField) (next k : ℕ) (x : FieldInfo) (f : DeclaredField)
    → map field_seen fields ≡ parts → next ≡ k → next < length fields → x ≡ slice_index_or fields next x
    → slice_get parts k ≡ Some f → field_seen x ≡ f
field_is fields parts next k x f seen same less is there =
    let here = rw (seen, same) at (seen_there fields next x less is) in
    let both : Some (field_seen x) ≡ Some f = sym here ∙ there in
    cc

seen_long_as : (fields : List FieldInfo) (parts : List DeclaredField) → map field_seen fields ≡ parts
    → length fields ≡ length parts
seen_long_as fields parts seen = sym (seen_long fields) ∙ ap length seen

pub returns-then-k-fields-clause-inner : goal.returns-then-k-fields-clause-inner
returns-then-k-fields-clause-inner g c ds k u es more shown has less begin =
    let L = c.args.layout.now in
    let t = c.args.here.structure in
    let at : slice_index (struct_at L t.0).offsets k + more ≡ c.args.byte - c.args.here.at = omega (arith, begin) in
    let byte = rw (at ∙ sym c.saturating_sub.ensures) at
    (has_byte L c.layout_is_well_made.ensures t ds k u es has more less) in
    let same = c.field_at-next.ensures.found k has.field has.there byte in
    let within = slice_get_within (parts_in (body_at L.schema t.0)) k has.field has.there in
    let long = seen_long_as c.parts_of-fields.result.now _ c.parts_of-fields.ensures.parts in
    absurd (omega (arith, same, within, long, c.from-k.ensures, c.if-k-fields.true))

pub returns-in-Some-clause-inner : goal.returns-in-Some-clause-inner
returns-in-Some-clause-inner g c ds k u es more shown has less begin =
    let L = c.args.layout.now in
    let t = c.args.here.structure in
    let fields = c.parts_of-fields.result.now in
    let x = c.index-fields-k.result in
    let next = c.field_at-next.result in
    let at : slice_index (struct_at L t.0).offsets k + more ≡ c.args.byte - c.args.here.at = omega (arith, begin) in
    let byte = rw (at ∙ sym c.saturating_sub.ensures) at
    (has_byte L c.layout_is_well_made.ensures t ds k u es has more less) in
    let same : next ≡ k = c.field_at-next.ensures.found k has.field has.there byte in
    let within : next < length fields = omega (arith, c.from-k.ensures, c.if-k-fields.false) in
    let is : x ≡ slice_index_or fields next x = rw c.from-k.ensures at c.index-fields-k.is in
    let field = field_is fields _ next k x has.field c.parts_of-fields.ensures.parts same within is has.there in
    let shape = ap (λ (f : FieldInfo). f.shape) (sym c.index-fields-k.is)
    ∙ (ap (λ (f : DeclaredField). f.shape) field ∙ has.shape) in
    let part = rw (ap (nth_part ds) same ∙ has.part) at
    (rw c.from-k.ensures at (c.child-part.ensures.shows L (Some (a_struct ds)) shown)) in
    let found : Some c.in-Some.structure ≡ Some u = c.in-Some.ensures.known u es shape (c.head.ensures.top L _ part) in
    let offset : slice_index (struct_at L t.0).offsets next ≡ slice_index (struct_at L t.0).offsets k =
    ap (slice_index (struct_at L t.0).offsets) same in
    let fits : c.args.byte < 2 ^ 32 = c.ranges.byte.fits in
    record {
      structure = cc;
      shown = part;
      begin = omega (arith, offset, begin, c.offset_of.ensures, c.saturating_add.ensures, fits);
    }

pub returns-in-None-clause-inner : goal.returns-in-None-clause-inner
returns-in-None-clause-inner g c ds k u es more shown has less begin =
    let L = c.args.layout.now in
    let t = c.args.here.structure in
    let fields = c.parts_of-fields.result.now in
    let x = c.index-fields-k.result in
    let next = c.field_at-next.result in
    let at : slice_index (struct_at L t.0).offsets k + more ≡ c.args.byte - c.args.here.at = omega (arith, begin) in
    let byte = rw (at ∙ sym c.saturating_sub.ensures) at
    (has_byte L c.layout_is_well_made.ensures t ds k u es has more less) in
    let same : next ≡ k = c.field_at-next.ensures.found k has.field has.there byte in
    let within : next < length fields = omega (arith, c.from-k.ensures, c.if-k-fields.false) in
    let is : x ≡ slice_index_or fields next x = rw c.from-k.ensures at c.index-fields-k.is in
    let field = field_is fields _ next k x has.field c.parts_of-fields.ensures.parts same within is has.there in
    let shape = ap (λ (f : FieldInfo). f.shape) (sym c.index-fields-k.is)
    ∙ (ap (λ (f : DeclaredField). f.shape) field ∙ has.shape) in
    let part = rw (ap (nth_part ds) same ∙ has.part) at
    (rw c.from-k.ensures at (c.child-part.ensures.shows L (Some (a_struct ds)) shown)) in
    let found : None ≡ Some u = c.in-None.ensures.known u es shape (c.head.ensures.top L _ part) in
    absurd (cc)
