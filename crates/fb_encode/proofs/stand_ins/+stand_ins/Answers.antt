use Rattle.std.proofs.Common.{◌≡◌, ◌∙◌, ◌-◌, ◌<◌, ℕ, Some, map, length, slice_get, arith, inr, ap, sym}
use Rattle.std.proofs.Common.{IfSome, None, Option}
use Rattle.std.proofs.lemmas.List.{length-map}
use Rattle.std.proofs.lemmas.Option.{slice_get_within}
use Rattle.serde_json.specs.Data.{object}
use Rattle.serde_json.specs.View.{members_view, view as tree_view}
use Rattle.serde_json.proofs.Views.{view-Object}
use Rattle.fb_schema.specs.Schema.{DeclaredField, body_at, parts_in as fields_of_struct}
use Rattle.fb_schema.specs.Seen.{field_seen}
use Rattle.fb_json.proofs.slots.OneSlotOrFieldMore.{slot_at}
use Rattle.fb_pieces.specs.CutTexts.{member_texts}
use Rattle.fb_encode.specs.MembersRead.{object_read}
use Rattle.fb_encode.proofs.objects.CutObjectIsRead.{members_are_read}
use Rattle.fb_encode.proofs.objects.TextIsOfItsSlot.{member_of, own_text, read_more}
use Rattle.fb_encode.proofs.outlines.OutlineMeansTheSame.{stands_in}
use Rattle.fb_encode.proofs.slot_texts.PiecesAreRead.{inner_is_read}
use Rattle.fb_encode.proofs.stand_ins.FieldsArePut.{field_put, field_read, field_used, no_field_put, same_alike}
use Rattle.fb_encode.proofs.stand_ins.FieldsArePut.{tree_stands_in}
use Rattle.fb_encode.proofs.stand_ins.OwnFieldsMeanTheSame.{own_fields_alike, unknown_alike}
use Rattle.fb_encode.proofs.stand_ins.+stand_ins.Goals as goal

-- ---- what is in the place of a text

pub stand_in-returns-in-Some-2 : goal.stand_in-returns-in-Some-2
stand_in-returns-in-Some-2 t c =
    stands_in c.args.source.layout.now c.args.source.unknown c.args.excerpt.brackets c.args.excerpt.text.now
    c.args.shape (tree_view c.in-Some-2.tree) (rw c.in-Some-2.is at c.in_ok-tree-2.ensures)

pub stand_in-returns : goal.stand_in-returns
stand_in-returns t c =
    tree_stands_in c.args.source.layout.now c.args.source.unknown c.args.excerpt.brackets c.args.excerpt.text.now
    c.args.shape c.in_ok-string_tree.field-0 c.in_ok-string_tree.ensures

pub field_tree-returns : goal.field_tree-returns
field_tree-returns t c =
    let text = c.args.text in
    let tree = tree_view c.in-Some-innermost.tree.now in
    record {
      tree = tree;
      read = inner_is_read c.text_is_read_without_brackets.ensures text.brackets text.text.now c.requires.brackets
          c.in_ok-read.ensures.utf8 c.in_ok-read.read c.in-Some-innermost.tree.now c.in_ok-read.ensures.tree
          c.in-Some-innermost.ensures;
      alike = same_alike c.args.source.layout.now c.args.source.unknown c.args.shape tree _ c.in_ok-clone.ensures.cases;
    }

-- ---- the fields of a struct

pub own_fields-texts_by_slot-requires-clause-slots :
    goal.own_fields-texts_by_slot-requires-clause-slots
own_fields-texts_by_slot-requires-clause-slots t c = inr c.parts_of-fields.ensures.parts

pub own_fields-index-requires : goal.own_fields-index-requires
own_fields-index-requires t c =
    let texts = rw c.as_slice.ensures.value at c.in_ok-texts.ensures.texts in
    omega (
      arith,
      texts.all,
      length-map c.parts_of-fields.result.now field_seen,
      c.loop-k-test.true,
      c.in_ok-texts.field-0.texts.ok.0,
    )

pub own_fields-loop-k-init : goal.own_fields-loop-k-init
own_fields-loop-k-init t c = record {
  put = no_field_put c.args.source.layout.now c.args.source.unknown c.args.structure.0 _ _
      (ap members_view c.new-object.ensures.empty);
  read = λ j e low at. absurd (omega (arith, low));
}

pub own_fields-put_field-requires : goal.own_fields-put_field-requires
own_fields-put_field-requires t c =
    let fields = c.parts_of-fields.result.now in
    let k = c.loop-k.k in
    let f = c.index-fields-k.result in
    let at = slot_at fields k f c.loop-k-test.true c.index-fields-k.is in
    let texts = rw c.as_slice.ensures.value at c.in_ok-texts.ensures.texts in
    let within : k < length c.in_ok-texts.field-0.texts.items =
    omega (arith, texts.all, length-map fields field_seen, c.loop-k-test.true) in
    let own = own_text c.in_ok-texts.field-0.texts.items k c.index.result.now within c.index.ensures
    (c.args.excerpt.brackets - 1) (map field_seen fields)
    (map (member_texts c.args.excerpt.text.now) c.in-Some.members.items) texts c.args.source.layout.now
    c.args.source.unknown (field_seen f) at in
    (omega (arith, c.decreases, own.low, c.requires.some), own.few (omega (arith, c.requires.brackets)))

pub own_fields-loop-k-preserved : goal.own_fields-loop-k-preserved
own_fields-loop-k-preserved t c =
    let L = c.args.source.layout.now in
    let unknown = c.args.source.unknown in
    let fields = c.parts_of-fields.result.now in
    let inner = c.args.excerpt.brackets - 1 in
    let ms = map (member_texts c.args.excerpt.text.now) c.in-Some.members.items in
    let k = c.loop-k.k in
    let f = c.index-fields-k.result in
    let o = c.index.result.now in
    let at = slot_at fields k f c.loop-k-test.true c.index-fields-k.is in
    let there = rw c.parts_of-fields.ensures.parts at at in
    let texts = rw c.as_slice.ensures.value at c.in_ok-texts.ensures.texts in
    let within : k < length c.in_ok-texts.field-0.texts.items =
    omega (arith, texts.all, length-map fields field_seen, c.loop-k-test.true) in
    let declared = c.layout_is_well_made.ensures.declared in
    let used = field_used L.schema c.args.structure.0 declared k (field_seen f) there in
    let found = member_of c.in_ok-texts.field-0.texts.items k o within c.index.ensures inner (map field_seen fields) ms
    texts (field_seen f) at used in
    record {
      put = field_put L unknown c.args.structure.0 declared (object_read inner ms) _ k (field_seen f) there
          c.loop-k.invariant.put o found _ c.in_ok-put_field.ensures;
      read = read_more c.in_ok-texts.field-0.texts.items k o within c.index.ensures
          (field_read L unknown (field_seen f) o _ _ c.in_ok-put_field.ensures) c.loop-k.invariant.read;
    }

if_some_then : {A : Type 0} (o : Option A) (P Q : A → Type 0) → ((x : A) → P x → Q x) → IfSome o P → IfSome o Q
if_some_then None P Q then h = tt
if_some_then (Some x) P Q then h = then x h

pub own_fields-returns-then-is_err : goal.own_fields-returns-then-is_err
own_fields-returns-then-is_err t c =
    let L = c.args.source.layout.now in
    let unknown = c.args.source.unknown in
    let excerpt = c.args.excerpt in
    let members = c.in-Some.members.items in
    let read = object_read (excerpt.brackets - 1) (map (member_texts excerpt.text.now) members) in
    let texts = rw c.as_slice.ensures.value at c.in_ok-texts.ensures in
    let of = rw c.in-Some.is at c.in_ok-members.ensures in
    let err = sym c.is_err.ensures.value ∙ c.if-is_err.true in
    if_some_then c.in_ok-unknown_member.field-0 _ _ (λ tree is. record {
      tree = object read;
      read = members_are_read c.cut_object_is_read.ensures c.cut_object_is_utf8.ensures excerpt.brackets
          excerpt.text.now members of.cut of.some c.requires.some c.in_ok-texts.field-0.texts.items
          c.parts_of-fields.result.now texts.texts texts.names texts.values c.loop-k.k c.loop-k-test.false
          c.loop-k.invariant.read;
      alike = rw is.1 (unknown_alike L unknown c.args.structure read c.in_ok-texts.field-0.known texts.known err is.0
          is.2);
    }) c.in_ok-unknown_member.ensures

pub own_fields-returns : goal.own_fields-returns
own_fields-returns t c =
    let L = c.args.source.layout.now in
    let unknown = c.args.source.unknown in
    let excerpt = c.args.excerpt in
    let fields = c.parts_of-fields.result.now in
    let members = c.in-Some.members.items in
    let read = object_read (excerpt.brackets - 1) (map (member_texts excerpt.text.now) members) in
    let texts = rw c.as_slice.ensures.value at c.in_ok-texts.ensures in
    let of = rw c.in-Some.is at c.in_ok-members.ensures in
    let ok = sym c.is_err.ensures.value ∙ c.if-is_err.false in
    let all : (j : ℕ) (f : DeclaredField)
    → slice_get (fields_of_struct (body_at L.schema c.args.structure.0)) j ≡ Some f → j < c.loop-k.k =
    λ j f there.
    let in_fields = rw (← c.parts_of-fields.ensures.parts) at there in
    omega (
      arith,
      slice_get_within (map field_seen fields) j f in_fields,
      length-map fields field_seen,
      c.loop-k-test.false,
    ) in
    record {
      tree = object read;
      read = members_are_read c.cut_object_is_read.ensures c.cut_object_is_utf8.ensures excerpt.brackets
          excerpt.text.now members of.cut of.some c.requires.some c.in_ok-texts.field-0.texts.items fields
          texts.texts texts.names texts.values c.loop-k.k c.loop-k-test.false c.loop-k.invariant.read;
      alike = rw (view-Object c.loop-k.object) (own_fields_alike L unknown c.args.structure read
          c.in_ok-texts.field-0.known texts.known ok (members_view c.loop-k.object.entries) c.loop-k.k
          c.loop-k.invariant.put all);
    }
