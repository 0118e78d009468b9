use borrow.Author.Count.{below_more}
use Rattle.std.proofs.Common.{◌≡◌, ◌≢◌, ◌∙◌, ℕ, Bool, true, false, List, length, get_or, bytes_eq, arith, ap, refl, sym}
use Rattle.std.proofs.lemmas.List.{ext_get_or}
use Rattle.std.proofs.lemmas.Slice.Eq.{bytes_eq-Decides}
use Rattle.fb_schema.proofs.few_names.is_same.Goals as goal

apart : (a b : List ℕ) → a ≢ b → false ≡ bytes_eq a b
apart a b differ = by (bytes_eq a b) refl
  where
    by : (x : Bool) → bytes_eq a b ≡ x → false ≡ x
    by true e = absurd (differ ((bytes_eq-Decides a b).0 e))
    by false e = refl

pub loop-k-preserved : goal.loop-k-preserved
loop-k-preserved c =
    below_more (λ j. get_or c.as_bytes-one.result.now j 0 ≡ get_or c.as_bytes-other.result.now j 0) c.loop-k.k
    c.loop-k.invariant c.if-one-k.false

pub returns : goal.returns
returns c =
    let same : c.as_bytes-one.result.now ≡ c.as_bytes-other.result.now =
    ext_get_or 0 c.as_bytes-one.result.now c.as_bytes-other.result.now c.if-one-other.false
    (λ j less. c.loop-k.invariant j (omega arith)) in
    sym ((bytes_eq-Decides c.args.one.now c.args.other.now).1
    (sym c.as_bytes-one.ensures.value ∙ (same ∙ c.as_bytes-other.ensures.value)))

pub returns-then-one-other : goal.returns-then-one-other
returns-then-one-other c = apart c.args.one.now c.args.other.now (λ e. c.if-one-other.true
    (ap length (c.as_bytes-one.ensures.value ∙ (e ∙ sym c.as_bytes-other.ensures.value))))

pub returns-then-one-k : goal.returns-then-one-k
returns-then-one-k c = apart c.args.one.now c.args.other.now (λ e. c.if-one-k.true
    (ap (λ l. get_or l c.loop-k.k 0) (c.as_bytes-one.ensures.value ∙ (e ∙ sym c.as_bytes-other.ensures.value))))
