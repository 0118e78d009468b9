use Rattle.std.proofs.Common.{slice_get, Some, ◌≡◌, ℕ, false, true, length, map, option_map, string_bytes, refl}
use Rattle.std.proofs.Common.{ap, ◌∙◌, arith}
use Rattle.std.proofs.lemmas.List.{length-map}
use Rattle.std.proofs.lemmas.Option.{slice_get-map, slice_get_read}
use Rattle.fb_schema.specs.Schema.{Name, body_at}
use Rattle.fb_conform.proofs.members.OneMemberMore.{kept_more, kept_all, kept_each}
use Rattle.fb_conform.proofs.members.keeps_codes.Goals as goal

pub returns-then-not-keeps_code : goal.returns-then-not-keeps_code
returns-then-not-keeps_code c =
    let xs = c.args.members.now in
    let m = c.index-members-i.result in
    let at : slice_get {X = Name × ℕ} (map (λ m. (string_bytes m.0, m.1.0)) xs) c.loop-i.i
    ≡ Some (string_bytes m.0, m.1.0) = slice_get-map (λ m. (string_bytes m.0, m.1.0)) xs c.loop-i.i
    ∙ ap (option_map (λ m. (string_bytes m.0, m.1.0)))
    (slice_get_read xs (length xs) c.loop-i.i m refl c.loop-i-test.true c.index-members-i.is) in (
      λ (e : false ≡ true). cc,
      λ kept. c.if-not-keeps_code.ensures.1
          (kept_each c.args.old.now.schema c.args.new.now.schema _ (body_at c.args.new.now.schema c.args.union.0)
          c.loop-i.i _ at kept),
    )

pub loop-i-preserved : goal.loop-i-preserved
loop-i-preserved c =
    let xs = c.args.members.now in
    let m = c.index-members-i.result in
    let at : slice_get {X = Name × ℕ} (map (λ m. (string_bytes m.0, m.1.0)) xs) c.loop-i.i
    ≡ Some (string_bytes m.0, m.1.0) = slice_get-map (λ m. (string_bytes m.0, m.1.0)) xs c.loop-i.i
    ∙ ap (option_map (λ m. (string_bytes m.0, m.1.0)))
    (slice_get_read xs (length xs) c.loop-i.i m refl c.loop-i-test.true c.index-members-i.is) in
    kept_more c.args.old.now.schema c.args.new.now.schema (map (λ m. (string_bytes m.0, m.1.0)) xs)
    (body_at c.args.new.now.schema c.args.union.0) c.loop-i.i _ at (c.if-not-keeps_code.ensures.0 refl)
    c.loop-i.invariant

pub returns : goal.returns
returns c =
    let xs = c.args.members.now in
    let long : length {A = Name × ℕ} (map (λ m. (string_bytes m.0, m.1.0)) xs) ≡ length xs = length-map xs _ in (
      λ (e : true ≡ true). kept_all c.args.old.now.schema c.args.new.now.schema
          (map (λ m. (string_bytes m.0, m.1.0)) xs)
          (body_at c.args.new.now.schema c.args.union.0) c.loop-i.i (omega (arith, long, c.loop-i-test.false))
          c.loop-i.invariant,
      λ kept. refl,
    )
