use Rattle.std.proofs.Common.{◌≡◌, ◌↔◌, inl, inr, List, [], Result, Ok, Err, IfErr, refl, arith, rules}
use Rattle.std.specs.Bool.{⊤}
use Rattle.std.specs.Prelude.{IsOk}
use Rattle.fb_layout.specs.Laid.{LaidSchema}
use Rattle.fb_conform.specs.declared.breaches.Breach.{Breach}
use Rattle.fb_conform.specs.declared.difference.Difference.{Difference}
use Rattle.fb_conform.specs.declared.difference.Difference.TheVariants.{Breach as Broken}
use Rattle.fb_conform.specs.Conforms.{Conforms}
use Rattle.fb_conform.specs.Listed.{Walks, is_breach, IsAny}
use Rattle.fb_conform.specs.Order.{IsFirst}
use Rattle.fb_conform.proofs.comparison.conform.Goals as goal

abbrev StopsAtOnce : List Difference → Difference → Breach → Type 0
StopsAtOnce before difference error = (before ≡ []) × (difference ≡ Broken error)

module _ (A B : LaidSchema) where
  exact : (result : Result ⊤ Breach) → Walks A B is_breach StopsAtOnce IsAny [] result → IsOk result ↔ Conforms A B
  exact (Ok done) walked = (
    λ ok r. elim (walked.all (Broken r) tt) [ inl there ↦ absurd (omega (arith, there.1)) | inr miss ↦ miss refl ],
    λ conforms. refl,
  )
  exact (Err breach) walked = search rules

  first : (result : Result ⊤ Breach) → Walks A B is_breach StopsAtOnce IsAny [] result → IfErr result (IsFirst A B)
  first (Ok done) walked = tt
  first (Err breach) walked = record {
    stands = rw walked.stopped.1 at walked.differs;
    first = λ r earlier. elim ((rw walked.stopped.1 at walked.before).all (Broken r) earlier) [
      | inl there ↦ absurd (omega (arith, (rw walked.stopped.0 at there).1))
      | inr miss ↦ miss refl
    ];
  }

pub returns-clause-exact : goal.returns-clause-exact
returns-clause-exact c = exact c.args.old.now c.args.new.now c.walk.result c.walk.ensures

pub returns-clause-first : goal.returns-clause-first
returns-clause-first c = first c.args.old.now c.args.new.now c.walk.result c.walk.ensures
