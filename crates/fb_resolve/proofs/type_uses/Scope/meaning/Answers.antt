use Rattle.std.proofs.Common.{◌≡◌, ℕ, List, [], get_or, Option, ap, ◌∙◌, subst}
use Rattle.std.specs.Option.{option_copied}
use Rattle.std.proofs.lemmas.Option.{get_or_from_slice_get, slice_get_within}
use Rattle.fb_schema.specs.Schema.{Name}
use Rattle.fb_resolve.specs.Words.{Path, words}
use Rattle.fb_resolve.specs.PathTree.{paths}
use Rattle.fb_resolve.specs.Scopes.{tree_of, names_of, AreScopes, IsUse}
use Rattle.fb_resolve.specs.InnermostTypes.{innermost_type}
use Rattle.fb_resolve.specs.declared.namespaces.scopes.Scopes.{Scopes}
use Rattle.fb_resolve.specs.Outline.{TypeRead}
use Rattle.fb_resolve.specs.Meaning.{meaning_of, use_of_type, words_of_scope, paths_of_types}
use Rattle.fb_resolve.specs.Paths.{IsPath, IsNoted}
use Rattle.fb_resolve.specs.declared.meanings.Meaning.{Meaning}
use Rattle.fb_resolve.specs.declared.outline.TypeUse.TheVariants.{Named}
use Rattle.fb_resolve.proofs.type_uses.Scope.meaning.Goals as goal

-- what the type of a number that is meant by a name's number is used for
named_meant : (scopes : Scopes) (types : List TypeRead) (scope : Option Name) (path used : ℕ) (number : Option ℕ)
    (result : Meaning) (name : Name) → IsPath (tree_of scopes) path (words_of_scope scope)
    → AreScopes scopes (paths_of_types types)
    → ((ts : List Path) (n : Name) → AreScopes scopes ts → IsUse (names_of scopes) used n
    → number ≡ innermost_type ts (get_or (paths (tree_of scopes)) path []) (words n))
    → result ≡ use_of_type types number → IsNoted (names_of scopes) (Named used) name
    → result ≡ meaning_of types scope name
unfolding meaning_of
named_meant scopes types scope path used number result name here are meant is noted = rw noted.0
    (is ∙ ap (use_of_type types)
    (meant (paths_of_types types) name are noted.1
    ∙ ap (λ p. innermost_type (paths_of_types types) p (words name))
    (get_or_from_slice_get (paths (tree_of scopes)) path (words_of_scope scope) [] here)))

pub resolve-requires-clause-path : goal.resolve-requires-clause-path
resolve-requires-clause-path c = slice_get_within _ _ _ c.args.self.here

pub resolve-requires-clause-used : goal.resolve-requires-clause-used
resolve-requires-clause-used c =
    let noted = subst (λ u. IsNoted (names_of c.args.self.names.now.scopes) u c.requires.noted.0) c.in-Named.is
    c.requires.noted.1 in
    slice_get_within _ _ _ noted.1

pub returns-in-Basic : goal.returns-in-Basic
unfolding meaning_of
returns-in-Basic c = λ name noted.
    let named = subst (λ u. IsNoted (names_of c.args.self.names.now.scopes) u name) c.in-Basic.is noted in
    rw named (c.meaning.ensures _)

pub returns-in-Named : goal.returns-in-Named
returns-in-Named c = λ name noted.
    named_meant c.args.self.names.now.scopes c.args.self.types.now (option_copied c.args.self.name) c.args.self.path
    c.in-Named.used c.resolve.result c.meaning_of_type.result name c.args.self.here c.requires.scopes c.resolve.ensures
    c.meaning_of_type.ensures
    (subst (λ u. IsNoted (names_of c.args.self.names.now.scopes) u name) c.in-Named.is noted)
