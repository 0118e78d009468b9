use Rattle.std.proofs.Common.{◌≡◌, ◌∙◌, ap, sym, ℕ, ◌+◌, ◌-◌, ◌/◌, ◌<◌, ◌≤◌, List, length, map, slice_index}
use Rattle.std.proofs.Common.{arith}
use Rattle.std.proofs.lemmas.List.{length-map}
use Rattle.std.proofs.lemmas.Option.{slice_get_within}
use Rattle.fb_schema.specs.Schema.{body_at, parts_in}
use Rattle.fb_layout.specs.Laid.{struct_at}
use Rattle.fb_text.proofs.nested.FieldHasItsBytes.{begins_before, begins_behind}
use Rattle.fb_text.proofs.nested.field_at.Goals as goal

as_long : {A B : Type 0} (view : A → B) (xs : List A) (ys : List B) → map view xs ≡ ys → length ys ≡ length xs
as_long view xs ys seen = sym (ap length seen) ∙ length-map xs view

none_over : (n m : ℕ) → m ≡ n → n ≤ m
none_over n m same = omega arith

from_none : (k : ℕ) → 0 ≤ k
from_none k = omega arith

some : 0 < 65535
some = omega arith

pub loop-low-init : goal.loop-low-init
loop-low-init c =
    let fields = parts_in (body_at c.args.layout.now.schema c.args.structure.0) in
    let long = as_long _ c.parts_of-high.result.now fields c.parts_of-high.ensures.parts in
    record {
      few = none_over _ _ long;
      small = c.parts_of-high.ensures.few;
      start = some;
      found = λ k f at has. (from_none k, rw long at (slice_get_within fields k f at));
    }

pub loop-low-preserved-then-offset_of-byte : goal.loop-low-preserved-then-offset_of-byte
loop-low-preserved-then-offset_of-byte c =
    let L = c.args.layout.now in
    let t = c.args.structure in
    let middle = c.loop-low.low + (c.loop-low.high - c.loop-low.low) / 2 in
    let small : middle < c.loop-low.high = omega arith in
    let within : middle < length (parts_in (body_at L.schema t.0)) = omega (arith, small, c.loop-low.invariant.few) in
    let begins : slice_index (struct_at L t.0).offsets middle ≤ c.args.byte =
    omega (arith, c.offset_of.ensures, c.if-offset_of-byte.true) in
    record {
      few = c.loop-low.invariant.few;
      small = c.loop-low.invariant.small;
      start = omega (arith, small, c.loop-low.invariant.small);
      found = λ k f at has. (
        begins_before L c.layout_is_well_made.ensures t middle k f c.args.byte within at has begins,
        (c.loop-low.invariant.found k f at has).1,
      );
    }

pub loop-low-preserved : goal.loop-low-preserved
loop-low-preserved c =
    let L = c.args.layout.now in
    let t = c.args.structure in
    let middle = c.loop-low.low + (c.loop-low.high - c.loop-low.low) / 2 in
    let small : middle < c.loop-low.high = omega arith in
    let within : middle < length (parts_in (body_at L.schema t.0)) = omega (arith, small, c.loop-low.invariant.few) in
    let begins : c.args.byte < slice_index (struct_at L t.0).offsets middle =
    omega (arith, c.offset_of.ensures, c.if-offset_of-byte.false) in
    record {
      few = omega (arith, within);
      small = omega (arith, small, c.loop-low.invariant.small);
      start = c.loop-low.invariant.start;
      found = λ k f at has. (
        (c.loop-low.invariant.found k f at has).0,
        begins_behind L c.layout_is_well_made.ensures t middle k f c.args.byte within at has begins,
      );
    }
