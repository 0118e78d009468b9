use Rattle.std.proofs.Common.{slice_get, Some, ◌≡◌, ℤ, false, true, length, map, Contains, option_map, string_bytes}
use Rattle.std.proofs.Common.{refl, ap, ◌∙◌, arith}
use Rattle.std.proofs.lemmas.List.{length-map}
use Rattle.std.proofs.lemmas.Option.{slice_get-map, slice_get_read}
use Rattle.fb_schema.specs.Schema.{Name, body_at, values_in}
use Rattle.fb_conform.proofs.members.OneMemberMore.{there_more, there_all, there_each}
use Rattle.fb_conform.proofs.members.has_values.Goals as goal

pub returns-then-not-has_value : goal.returns-then-not-has_value
returns-then-not-has_value c =
    let xs = c.args.values.now in
    let i = c.loop-value.value-index in
    let x = c.value-item.result in
    let at : slice_get {X = Name × ℤ} (map (λ v. (string_bytes v.0, v.1)) xs) i ≡ Some (string_bytes x.0, x.1) =
    slice_get-map (λ v. (string_bytes v.0, v.1)) xs i ∙ ap (option_map (λ v. (string_bytes v.0, v.1)))
    (slice_get_read xs (length xs) i c.value-item.result refl c.loop-value-test.true c.value-item.is) in
    let told : Contains (values_in (body_at c.args.layout.now.schema c.args.enumeration.0)) (string_bytes x.0, x.1)
    → false ≡ true = c.if-not-has_value.ensures.1 in (
      λ (e : false ≡ true). cc,
      λ all. told (there_each (values_in (body_at c.args.layout.now.schema c.args.enumeration.0))
          (map (λ v. (string_bytes v.0, v.1)) xs) i (string_bytes x.0, x.1) at all),
    )

pub loop-value-preserved : goal.loop-value-preserved
loop-value-preserved c =
    let xs = c.args.values.now in
    let i = c.loop-value.value-index in
    let x = c.value-item.result in
    let at : slice_get {X = Name × ℤ} (map (λ v. (string_bytes v.0, v.1)) xs) i ≡ Some (string_bytes x.0, x.1) =
    slice_get-map (λ v. (string_bytes v.0, v.1)) xs i ∙ ap (option_map (λ v. (string_bytes v.0, v.1)))
    (slice_get_read xs (length xs) i c.value-item.result refl c.loop-value-test.true c.value-item.is) in
    let told : Contains (values_in (body_at c.args.layout.now.schema c.args.enumeration.0)) (string_bytes x.0, x.1) =
    c.if-not-has_value.ensures.0 refl in
    there_more (values_in (body_at c.args.layout.now.schema c.args.enumeration.0))
    (map (λ v. (string_bytes v.0, v.1)) xs) i (string_bytes x.0, x.1) at told c.loop-value.invariant

pub returns : goal.returns
returns c =
    let xs = c.args.values.now in
    let long : length {A = Name × ℤ} (map (λ v. (string_bytes v.0, v.1)) xs) ≡ length xs = length-map xs _ in (
      λ (e : true ≡ true). there_all (values_in (body_at c.args.layout.now.schema c.args.enumeration.0))
          (map (λ v. (string_bytes v.0, v.1)) xs) c.loop-value.value-index
          (omega (arith, long, c.loop-value-test.false)) c.loop-value.invariant,
      λ all. refl,
    )
