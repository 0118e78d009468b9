use Rattle.std.proofs.Common.{rules, arith, refl, ◌≡◌, ◌++◌, ◌∷◌, ◌∙◌, [], suc, length, map, subst, sym, ap}
use Rattle.std.proofs.Common.{append_assoc}
use Rattle.std.specs.List.{AllZip}
use Rattle.std.proofs.lemmas.List.{append-nil, map-append, nil_from_length}
use Rattle.fb_schema.specs.Seen.{type_seen}
use Rattle.fb_declare.specs.Declares.{AreBuildable, IsType}
use Rattle.fb_declare.proofs.types.types_of.Goals as goal

pub type_of-requires : goal.type_of-requires
type_of-requires c = subst AreBuildable c.in-Some.ensures.steps.0 c.loop-read.invariant.left 0 _ refl

pub loop-read-preserved : goal.loop-read-preserved
loop-read-preserved c =
    let types = map type_seen c.loop-read.made.items in
    let type = type_seen c.in_ok-type_of.field-0 in
    let split = c.in-Some.ensures.steps.0 in
    let pushed : map type_seen c.push_reserved.new.self.items ≡ types ++ type ∷ [] =
    ap (map type_seen) c.push_reserved.ensures.items
    ∙ map-append type_seen c.loop-read.made.items (c.in_ok-type_of.field-0 ∷ []) in
    record {
      room = grind (arith, c.loop-read.invariant.room);
      left = λ t r e. subst AreBuildable split c.loop-read.invariant.left (suc t) r e;
      so_far = λ later zip. subst (AllZip IsType c.args.resolved.items)
          (sym (ap (λ ts. ts ++ later) pushed ∙ append_assoc types (type ∷ []) later))
          (c.loop-read.invariant.so_far (type ∷ later) (rw split (c.in_ok-type_of.ensures, zip)));
    }

pub returns : goal.returns
returns c =
    let left : length c.loop-read.read-iterator.rest.items ≡ 0 = search (rules, c.in-None.ensures.steps.0) in
    subst (AllZip IsType c.args.resolved.items) (append-nil (map type_seen c.loop-read.made.items))
    (c.loop-read.invariant.so_far [] (rw (nil_from_length c.loop-read.read-iterator.rest.items left) tt))
