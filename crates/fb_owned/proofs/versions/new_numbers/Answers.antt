use Rattle.std.proofs.Common.{◌≡◌, ◌<◌, ◌++◌, ◌∷◌, [], length, map, sym, ap, ◌∙◌, arith}
use Rattle.std.specs.Option.{unwrap_or}
use Rattle.std.proofs.lemmas.List.{length-append, length-map}
use Rattle.fb_schema.specs.Schema.{DeclaredSchema}
use Rattle.fb_schema.specs.Seen.{type_seen}
use Rattle.fb_conform.specs.Twins.{twin, to_new}
use Rattle.fb_owned.proofs.versions.NewNumbersAreListedInOrder.{numbered_more, numbered_all}
use Rattle.fb_owned.proofs.versions.new_numbers.Goals as goal

pub loop-i-init : goal.loop-i-init
loop-i-init c =
    let none : c.in_ok-numbers.numbers.items ≡ [] = c.in_ok-numbers.ensures.items in
    record {
      many = ap length none;
      numbered = rw none (λ t less. let bad : t < 0 = less in absurd (omega (arith, bad)));
    }

pub loop-i-preserved : goal.loop-i-preserved
loop-i-preserved c =
    let xs = c.loop-i.numbers.items in
    let x = c.number_in_new.result in
    let more : c.push.new.self.items ≡ xs ++ x ∷ [] = c.in_ok-push.ensures.items in
    let long = length-append xs (x ∷ []) in
    let A = c.args.old.now in
    let B = c.args.new.now in
    let i = c.loop-i.i in
    let number : x.0 ≡ to_new A B (length xs) =
    c.number_in_new.ensures
    ∙ ap (λ (S : DeclaredSchema). unwrap_or (twin S c.schema-is.result.now i) 0) c.schema-was.ensures.schema
    ∙ ap (λ (T : DeclaredSchema). unwrap_or (twin A.schema T i) 0) c.schema-is.ensures.schema
    ∙ ap (λ t. to_new A B t) (sym c.loop-i.invariant.many)
    in
    record {
      many = ap length more ∙ omega (arith, long, c.loop-i.invariant.many);
      numbered = rw more (numbered_more c.args.old.now c.args.new.now xs x number c.loop-i.invariant.numbered);
    }

pub returns : goal.returns
returns c =
    let long = length-map c.types-types.result.now type_seen in
    let types : map type_seen c.types-types.result.now ≡ c.schema-was.result.now.types = c.types-types.ensures.types in
    let all : length c.schema-was.result.now.types ≡ length c.args.old.now.schema.types =
    ap (λ (S : DeclaredSchema). length S.types) c.schema-was.ensures.schema in
    numbered_all c.args.old.now c.args.new.now c.loop-i.numbers.items
    (omega (arith, long, ap length types, all, c.loop-i.invariant.many, c.loop-i-test.false, c.loop-i.auto))
    c.loop-i.invariant.numbered
