use Rattle.std.proofs.Common.{◌≡◌, ◌==◌, ◌++◌, ◌+◌, ◌∙◌, ℕ, List, [], ◌∷◌, drop, map, refl, sym, ap, rules}
use Rattle.std.proofs.Common.{arith}
use Rattle.std.specs.List.{AllZip, list_any}
use Rattle.std.specs.Str.{bytes_eq}
use Rattle.std.proofs.lemmas.Bool.Decides.{nat_tests}
use Rattle.std.proofs.lemmas.List.{drop_more, drop_all}
use Rattle.std.proofs.lemmas.Slice.Eq.{bytes_eq-Decides}
use Rattle.std.proofs.lemmas.Slice.Zip.{all_zipped_more}
use Rattle.fb_resolve.specs.Words.{words}
use Rattle.fb_resolve.specs.PathTree.{IsTree}
use Rattle.fb_resolve.specs.declared.namespaces.path_tree.PathTree.{PathTree}
use Rattle.fb_resolve.proofs.namespaces.WordsOf.{words-inj}
use Rattle.fb_schema.specs.Schema.{Name}
use Rattle.fb_resolve.specs.Outline.{TypeRead, name_of_type, outline_behind}
use Rattle.fb_resolve.specs.Paths.{IsPath, walk_read}
use Rattle.fb_resolve.specs.RepeatedNames.{again_behind}
use Rattle.fb_resolve.proofs.PathsKept.{names_numbered}
use Rattle.fb_resolve.proofs.walk.DeclarationWalk.pass_all.Goals as goal

-- Types of one full name are those of one path's number.

abbrev AreNamed : PathTree → List ℕ → List TypeRead → Type 0
AreNamed tree ns rs = AllZip (λ n r. IsPath tree n (words (name_of_type r))) ns rs

-- one name is another exactly where its path's number is
same_number : (tree : PathTree) → IsTree tree → (m n : ℕ) (a b : Name) → IsPath tree m (words a)
    → IsPath tree n (words b) → (n == m) ≡ bytes_eq b a
same_number tree is m n a b at there = grind (arith, nat_tests, is.apart n m, words-inj b a, bytes_eq-Decides b a)

-- a number is among those of types exactly where its path's name is among theirs
same_among : (tree : PathTree) → IsTree tree → (n : ℕ) (name : Name) → IsPath tree n (words name)
    → (ns : List ℕ) (rs : List TypeRead) → AreNamed tree ns rs
    → list_any (λ m. n == m) (map (λ m. m) ns) ≡ list_any (bytes_eq name) (map name_of_type rs)
same_among tree is n name there [] [] zipped = refl
same_among tree is n name there [] (r ∷ rs) zipped = absurd zipped
same_among tree is n name there (m ∷ ns) [] zipped = absurd zipped
same_among tree is n name there (m ∷ ns) (r ∷ rs) zipped =
    rw (same_number tree is m n (name_of_type r) name zipped.0 there, same_among tree is n name there ns rs zipped.1)
    refl

-- types of repeated numbers are those of repeated names
names_repeated : (tree : PathTree) → IsTree tree → (ms : List ℕ) (qs : List TypeRead) → AreNamed tree ms qs
    → (ns : List ℕ) (rs : List TypeRead) → AreNamed tree ns rs
    → again_behind (λ n m. n == m) (λ n. n) ms ns ≡ again_behind bytes_eq name_of_type qs rs
names_repeated tree is ms qs before [] [] zipped = refl
names_repeated tree is ms qs before [] (r ∷ rs) zipped = absurd zipped
names_repeated tree is ms qs before (n ∷ ns) [] zipped = absurd zipped
names_repeated tree is ms qs before (n ∷ ns) (r ∷ rs) zipped =
    rw (
      same_among tree is n (name_of_type r) zipped.0 ms qs before,
      names_repeated tree is (ms ++ n ∷ []) (qs ++ r ∷ [])
          (all_zipped_more (λ n r. IsPath tree n (words (name_of_type r))) ms qs n r before zipped.0) ns rs zipped.1,
    ) refl

pub loop-declaration-preserved : goal.loop-declaration-preserved
loop-declaration-preserved c =
    let i = c.loop-declaration.declaration-index in
    let items = c.args.declarations.now in
    let d = c.declaration-item.result in
    let next : drop i items ≡ d ∷ drop (i + 1) items = drop_more items i d c.loop-declaration-test.true
    ∙ ap (λ d. d ∷ drop (i + 1) items) (sym c.declaration-item.is) in
    record {
      placed = c.in_ok-pass.ensures.placed;
      passed = λ len. c.in_ok-pass.ensures.passed (drop (i + 1) items) len
          ∙ ap (λ ds. outline_behind (walk_read c.loop-declaration.self) ds len) (sym next)
          ∙ c.loop-declaration.invariant.passed len;
    }

pub repeated_numbers-requires : goal.repeated_numbers-requires
repeated_numbers-requires c = let w = c.loop-declaration.self in
    rw (c.as_slice.ensures.value, c.len.ensures) (names_numbered w.tree w.full_names.items w.types.items
    c.loop-declaration.invariant.placed.full_names).0

pub returns-clause-passed : goal.returns-clause-passed
returns-clause-passed c = λ len.
    let read = walk_read c.loop-declaration.self in
    let none = drop_all c.loop-declaration.declaration-index c.args.declarations.now c.loop-declaration-test.false in
    let passed = ap (λ ds. outline_behind read ds len) (sym none) ∙ c.loop-declaration.invariant.passed len in
    grind (rules, passed)

pub returns-clause-repeats : goal.returns-clause-repeats
returns-clause-repeats c =
    let w = c.loop-declaration.self in
    let placed = c.loop-declaration.invariant.placed in
    rw (
      c.as_slice.ensures.value,
      names_repeated w.tree placed.tree [] [] tt w.full_names.items w.types.items placed.full_names,
    ) at c.repeated_numbers.ensures
