use Rattle.std.proofs.Common.{◌≡◌, ℕ, ◌<◌, false, true, length, map, List, option_map, slice_get, get_or, Some, refl}
use Rattle.std.proofs.Common.{ap, ◌∙◌, arith}
use Rattle.std.proofs.lemmas.List.{length-map}
use Rattle.std.proofs.lemmas.Option.{slice_get-map, slice_get-get_or, slice_get_read}
use Rattle.fb_schema.specs.declared.types.FieldInfo.{FieldInfo}
use Rattle.fb_schema.specs.Seen.{field_seen}
use Rattle.fb_conform.proofs.structs.OneFieldMore.{same_more, same_all, same_there, same_length}
use Rattle.fb_conform.proofs.structs.same_fields.Goals as goal

at : (fs : List FieldInfo) (i : ℕ) (f : FieldInfo) → i < length fs
    → slice_get (map field_seen fs) i ≡ Some (field_seen (get_or fs i f))
at fs i f less = slice_get-map field_seen fs i ∙ ap (option_map field_seen) (slice_get-get_or fs i f less)

pub returns-then-was-is : goal.returns-then-was-is
returns-then-was-is c =
    let was = length-map c.args.was.now field_seen in
    let is = length-map c.args.is.now field_seen in (
      λ (e : false ≡ true). cc,
      λ same. let long = same_length c.args.old.now c.args.new.now _ _ same in
          absurd (c.if-was-is.true (omega (arith, was, is, long))),
    )

pub returns-then-not-same_shape : goal.returns-then-not-same_shape
returns-then-not-same_shape c =
    let S = c.args.old.now in
    let T = c.args.new.now in
    let was = slice_get-map field_seen c.args.was.now c.loop-i.i ∙ ap (option_map field_seen)
    (slice_get_read c.args.was.now
    (length c.args.was.now) c.loop-i.i c.index-was-i.result refl c.loop-i-test.true c.index-was-i.is) in
    let is = at c.args.is.now c.loop-i.i c.index-is-i.result (omega arith) in
    (λ (e : false ≡ true). cc, λ same. c.if-not-same_shape.ensures.1 (same_there S T _ _ c.loop-i.i _ _ was is same))

pub loop-i-preserved : goal.loop-i-preserved
loop-i-preserved c =
    let S = c.args.old.now in
    let T = c.args.new.now in
    let was = slice_get-map field_seen c.args.was.now c.loop-i.i ∙ ap (option_map field_seen)
    (slice_get_read c.args.was.now
    (length c.args.was.now) c.loop-i.i c.index-was-i.result refl c.loop-i-test.true c.index-was-i.is) in
    let is = at c.args.is.now c.loop-i.i c.index-is-i.result (omega arith) in
    same_more S T (map field_seen c.args.was.now) (map field_seen c.args.is.now) c.loop-i.i _ _ was is
    (c.if-not-same_shape.ensures.0 refl) c.loop-i.invariant

pub returns : goal.returns
returns c =
    let S = c.args.old.now in
    let T = c.args.new.now in
    let was = length-map c.args.was.now field_seen in
    let is = length-map c.args.is.now field_seen in (
      λ (e : true ≡ true). same_all S T (map field_seen c.args.was.now) (map field_seen c.args.is.now) c.loop-i.i
          (omega arith) (omega (arith, c.loop-i-test.false)) c.loop-i.invariant,
      λ same. refl,
    )
