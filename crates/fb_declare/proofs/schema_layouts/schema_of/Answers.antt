use Rattle.std.proofs.Common.{◌≡◌, rules, Result, Ok, Err, refl, ap, sym, ◌∙◌}
use Rattle.std.specs.Result.{MatchResult, IsErrAnd, IfOk, IfErr}
use Rattle.std.proofs.lemmas.Result.{err_from_is_err_and, MatchResult-at_err, MatchResult-at_ok, IfErr-at_err}
use Rattle.std.proofs.lemmas.Result.{IfOk-at_ok}
use Rattle.fb_syntax.specs.declared.faults.SyntaxFault.{SyntaxFault}
use Rattle.fb_syntax.specs.declared.faults.SyntaxFault.TheVariants.{NotUtf8}
use Rattle.fb_declare.specs.declared.schema_layouts.SchemaTextFault.{SchemaTextFault}
use Rattle.fb_declare.specs.declared.schema_layouts.SchemaTextFault.TheVariants.{Syntax, Layout}
use Rattle.fb_declare.proofs.SchemaTextHasOneLayout.{none_least, syntax_refused}
use Rattle.fb_declare.proofs.schema_layouts.schema_of.Goals as goal

-- the error that `map_err` was given
mapped_err : {T E D : Type 0} (Q : E → D → Type 0) (r : Result T E) (m : Result T D) (f : D)
    → MatchResult r (λ x. m ≡ Ok x) (λ e. IsErrAnd m (Q e)) → m ≡ Err f → (e : E) × (r ≡ Err e) × Q e f
mapped_err Q (Ok x) m f h is = absurd (cc)
mapped_err Q (Err e) m f h is = (e, refl, rw is at h)

-- the value that it let pass
mapped_ok : {T E D : Type 0} (Q : E → D → Type 0) (r : Result T E) (m : Result T D) (x : T)
    → MatchResult r (λ x. m ≡ Ok x) (λ e. IsErrAnd m (Q e)) → m ≡ Ok x → r ≡ Ok x
mapped_ok Q (Ok y) m x h is = cc
mapped_ok Q (Err e) m x h is = absurd (rw is at h)

by_ok : {T E : Type 0} (m : Result T E) (P : T → Type 0) → ((x : T) → m ≡ Ok x → P x) → IfOk m P
by_ok (Ok x) P f = f x refl
by_ok (Err e) P f = tt

by_err : {T E : Type 0} (m : Result T E) (P : E → Type 0) → ((e : E) → m ≡ Err e → P e) → IfErr m P
by_err (Ok x) P f = tt
by_err (Err e) P f = f e refl

same_fault : {A : Type 0} (f g : SyntaxFault) → ◌≡◌ {A = Result A SchemaTextFault} (Err (Syntax f)) (Err (Syntax g))
    → f ≡ g
same_fault f g e = cc

same_err : {A : Type 0} (f g : SyntaxFault) (r : Result A SyntaxFault) → r ≡ Err f → r ≡ Err g → f ≡ g
same_err f g r a b = cc

pub returns-in_err-decls-clause-refused : goal.returns-in_err-decls-clause-refused
returns-in_err-decls-clause-refused c =
    let from = mapped_err _ c.parse.result c.map_err.result c.in_err-decls.field-0.0 c.map_err.ensures.cases
    c.in_err-decls.was in
    let p = err_from_is_err_and c.from_residual.result c.from_residual.ensures.1 in
    rw (p.1, p.2, from.2) (syntax_refused c.args.text.now from.0
    (λ at e. (c.parse.ensures.not_utf8 at).0 (from.1 ∙ ap Err e)) (IfErr-at_err _ from.1 c.parse.ensures.utf8)
    (IfErr-at_err _ from.1 c.parse.ensures.spelled_by_none) (IfErr-at_err _ from.1 c.parse.ensures.spelled)
    (IfErr-at_err _ from.1 c.parse.ensures.within)
    (λ d parses. MatchResult-at_err _ _ from.0 from.1 (c.parse.ensures.exact d parses)))

pub returns-in_err-decls-clause-not_utf8 : goal.returns-in_err-decls-clause-not_utf8
returns-in_err-decls-clause-not_utf8 c at =
    let from = mapped_err _ c.parse.result c.map_err.result c.in_err-decls.field-0.0 c.map_err.ensures.cases
    c.in_err-decls.was in
    let p = err_from_is_err_and c.from_residual.result c.from_residual.ensures.1 in
    let is : c.from_residual.result ≡ Err (Syntax from.0) = p.1 ∙ ap Err (p.2 ∙ from.2) in (
      λ e. (c.parse.ensures.not_utf8 at).0 (from.1 ∙ ap Err (same_fault from.0 (NotUtf8 at) (sym is ∙ e))),
      λ h. is ∙ ap (λ (f : SyntaxFault). Err (Syntax f))
          (same_err from.0 (NotUtf8 at) c.parse.result from.1 ((c.parse.ensures.not_utf8 at).1 h)),
    )

pub returns-in_err-decls-clause-exact : goal.returns-in_err-decls-clause-exact
returns-in_err-decls-clause-exact c =
    by_err c.from_residual.result _ (λ f is no_want L accepted. c.refused_text_has_no_layout.ensures
    c.args.text.now f (IfErr-at_err _ is (returns-in_err-decls-clause-refused c)) no_want L accepted)

pub returns-in_err-schema-clause-exact : goal.returns-in_err-schema-clause-exact
returns-in_err-schema-clause-exact c =
    let from = mapped_err _ c.declare.result c.map_err-2.result c.in_err-schema.field-0.0 c.map_err-2.ensures.cases
    c.in_err-schema.was in
    let parsed = mapped_ok _ c.parse.result c.map_err.result c.in_ok-decls.decls c.map_err.ensures.cases
    c.in_ok-decls.was in
    let p = err_from_is_err_and c.from_residual-in_err-schema.result c.from_residual-in_err-schema.ensures.1 in
    rw (p.1, p.2, from.2) (λ no_want L accepted.
    let same = MatchResult-at_ok _ _ c.in_ok-decls.decls parsed (c.parse.ensures.exact accepted.decls accepted.parsed) in
    none_least accepted.decls L.schema from.0 accepted.declared
    (rw same at (IfErr-at_err _ from.1 c.declare.ensures.least no_want)))

pub returns-clause-accepted : goal.returns-clause-accepted
returns-clause-accepted c =
    let parsed = mapped_ok _ c.parse.result c.map_err.result c.in_ok-decls.decls c.map_err.ensures.cases
    c.in_ok-decls.was in
    let declared = mapped_ok _ c.declare.result c.map_err-2.result c.in_ok-schema.schema c.map_err-2.ensures.cases
    c.in_ok-schema.was in
    by_ok c.map_err-3.result _ (λ L is.
    let laid = mapped_ok _ c.lay.result c.map_err-3.result L c.map_err-3.ensures.cases is in
    record {
      decls = c.in_ok-decls.decls;
      parsed = IfOk-at_ok _ parsed c.parse.ensures.parses;
      declared = rw (IfOk-at_ok _ laid c.lay.ensures.schema) (IfOk-at_ok _ declared c.declare.ensures.declared);
      made = IfOk-at_ok _ laid c.lay.ensures.made;
    })

pub returns-clause-refused : goal.returns-clause-refused
returns-clause-refused c =
    let parsed = mapped_ok _ c.parse.result c.map_err.result c.in_ok-decls.decls c.map_err.ensures.cases
    c.in_ok-decls.was in
    let declared = mapped_ok _ c.declare.result c.map_err-2.result c.in_ok-schema.schema c.map_err-2.ensures.cases
    c.in_ok-schema.was in
    by_err c.map_err-3.result _ (λ f is.
    let from = mapped_err _ c.lay.result c.map_err-3.result f c.map_err-3.ensures.cases is in
    let told : f ≡ Layout from.0.0 = search rules in
    rw told (
      c.in_ok-decls.decls,
      c.in_ok-schema.schema,
      IfOk-at_ok _ parsed c.parse.ensures.parses,
      IfOk-at_ok _ declared c.declare.ensures.declared,
      IfErr-at_err _ from.1 c.lay.ensures.fault,
    ))

pub returns-clause-not_utf8 : goal.returns-clause-not_utf8
returns-clause-not_utf8 c at =
    let parsed = mapped_ok _ c.parse.result c.map_err.result c.in_ok-decls.decls c.map_err.ensures.cases
    c.in_ok-decls.was in (
      λ e.
          let from = mapped_err _ c.lay.result c.map_err-3.result (Syntax (NotUtf8 at)) c.map_err-3.ensures.cases e in
          let told : Syntax (NotUtf8 at) ≡ Layout from.0.0 = search rules in
          absurd cc,
      λ h. let other = (c.parse.ensures.not_utf8 at).1 h in absurd (cc (parsed, other)),
    )

pub returns-clause-exact : goal.returns-clause-exact
returns-clause-exact c =
    by_err c.map_err-3.result _ (λ f is no_want L accepted. c.refused_text_has_no_layout.ensures
    c.args.text.now f (IfErr-at_err _ is (returns-clause-refused c)) no_want L accepted)
