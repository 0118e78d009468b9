use Rattle.std.proofs.Common.{◌≡◌, ℕ, Bor, List, length, get_or, map, Option, slice_get, is_some, nat_lt, sym, ap, ◌∙◌}
use Rattle.std.proofs.Common.{arith}
use Rattle.std.specs.Option.{option_copied, option_map, IfSome}
use Rattle.std.proofs.lemmas.Option.{slice_get-map}
use Rattle.fb_schema.specs.Schema.{DeclaredField}
use Rattle.fb_schema.specs.Seen.{field_seen}
use Rattle.fb_schema.specs.declared.types.FieldInfo.{FieldInfo}
use Rattle.fb_schema.proofs.Got.{got}
use Rattle.fb_conform.proofs.walk.EachPlaceIsWalked.{tables_start, slots_end}
use Rattle.fb_conform.proofs.walk.walk_slots.Goals as goal

pub loop-i-init : goal.loop-i-init
loop-i-init g c =
    tables_start c.args.old.now c.args.new.now g.H.DifferenceHearer.wants c.args.type_id.0 c.args.twin.0 _
    c.requires.tables
    c.requires.before

pub loop-i-preserved : goal.loop-i-preserved
loop-i-preserved g c = c.in_ok-walk_slot.ensures

pub returns : goal.returns
returns g c =
    slots_end c.args.old.now c.args.new.now g.H.DifferenceHearer.wants c.args.type_id.0 c.loop-i.i _ c.args.twin.0
    c.slots_of-was.result.now
    c.slots_of-is.result.now c.requires.tables c.slots_of-was.ensures.slots c.slots_of-is.ensures.slots
    (omega (arith, c.max-i-end.ensures, c.loop-i-test.false)) (omega (arith, c.max-i-end.ensures, c.loop-i-test.false))
    c.loop-i.invariant

-- the field in a slot, if there is one
slot_there : (slots : List FieldInfo) (declared : List DeclaredField) (k : ℕ) (o : Option (Bor FieldInfo))
    → map field_seen slots ≡ declared → is_some o ≡ nat_lt k (length slots)
    → IfSome o (λ x. x.now ≡ get_or slots k x.now) → slice_get declared k ≡ option_map field_seen (option_copied o)
slot_there slots declared k o all found at =
    ap (λ (ds : List DeclaredField). slice_get ds k) (sym all)
    ∙ slice_get-map field_seen slots k
    ∙ ap (option_map field_seen) (sym (got slots k o found at))

pub overflow_cast-at : goal.overflow_cast-at
overflow_cast-at g c = omega (arith, c.slots_of-was.ensures.few, c.slots_of-is.ensures.few, c.max-i-end.ensures)

pub walk_slot-requires-clause-slot : goal.walk_slot-requires-clause-slot
walk_slot-requires-clause-slot g c = record {
  type = c.args.twin.0;
  tables = c.requires.tables;
  old = slot_there c.slots_of-was.result.now _ c.loop-i.i c.get.result c.slots_of-was.ensures.slots
      c.get.ensures.lookup.0 c.get.ensures.lookup.1;
  new = slot_there c.slots_of-is.result.now _ c.loop-i.i c.get-in-loop-i.result c.slots_of-is.ensures.slots
      c.get-in-loop-i.ensures.lookup.0 c.get-in-loop-i.ensures.lookup.1;
}

pub walk_slot-requires-clause-before : goal.walk_slot-requires-clause-before
walk_slot-requires-clause-before g c = c.loop-i.invariant
