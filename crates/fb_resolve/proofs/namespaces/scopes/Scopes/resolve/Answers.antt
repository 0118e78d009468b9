use Rattle.std.proofs.Common.{◌≢◌, ◌<◌, ℕ, zero, suc, ◌∷◌, sym, arith, ◌∙◌, [], get_or, reverse, ap}
use Rattle.std.proofs.lemmas.List.{reverse-reverse}
use Rattle.std.proofs.lemmas.Option.{get_or_from_slice_get, same_Some}
use Rattle.fb_resolve.specs.PathTree.{paths, IsTree}
use Rattle.fb_resolve.specs.declared.namespaces.path_tree.PathTree.{PathTree}
use Rattle.fb_resolve.specs.Scopes.{IsUse}
use Rattle.fb_schema.specs.Schema.{Name}
use Rattle.fb_resolve.specs.Words.{words}
use Rattle.fb_resolve.specs.InnermostTypes.{innermost_type}
use Rattle.fb_resolve.proofs.namespaces.scopes.Scopes.resolve.Goals as goal

words_some : (s : Name) → words s ≢ []
words_some [] = λ e. cc
words_some (c ∷ cs) = grind (arith, words_some cs)

-- no used name is the first, which is empty
use_some : (used : PathTree) → IsTree used → (name : Name) (n : ℕ) → IsUse used n name → 0 < n
use_some used is name zero at = absurd (words_some name
    (sym (reverse-reverse (words name)) ∙ ap reverse (same_Some _ _ (sym at ∙ is.first))))
use_some used is name (suc n) at = omega arith

pub returns : goal.returns
returns c = λ types name scopes at.
    let ks = paths c.args.self.now.used in
    let n = c.args.used in
    c.get.ensures ∙ scopes.noted c.args.path n c.requires.path
    (use_some c.args.self.now.used scopes.used name n at) c.requires.used
    ∙ ap (innermost_type types (get_or (paths c.args.self.now.tree) c.args.path []))
    (ap reverse (get_or_from_slice_get ks n (reverse (words name)) [] at) ∙ reverse-reverse (words name))
