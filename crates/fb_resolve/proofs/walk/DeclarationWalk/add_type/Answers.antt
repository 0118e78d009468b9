use Rattle.std.proofs.Common.{refl, rules}
use Rattle.std.proofs.lemmas.List.{map_push}
use Rattle.fb_resolve.specs.EnumValues.{enum_values_of}
use Rattle.std.specs.Option.{option_copied}
use Rattle.std.proofs.lemmas.Option.{slice_get_within}
use Rattle.std.proofs.lemmas.Slice.Zip.{all_zipped_more}
use Rattle.fb_resolve.specs.PathTree.{paths}
use Rattle.fb_resolve.specs.Words.{words}
use Rattle.fb_resolve.specs.Outline.{TypeRead, word_of, name_of_type}
use Rattle.fb_resolve.specs.Paths.{IsPath, AreNotesOf}
use Rattle.fb_resolve.proofs.PathsKept.{path_inside, placed_grown}
use Rattle.fb_resolve.proofs.walk.DeclarationWalk.add_type.Goals as goal

pub insert_words-requires-clause-inside : goal.insert_words-requires-clause-inside
insert_words-requires-clause-inside c =
    let w = c.args.self.now in slice_get_within (paths w.tree) w.path _ c.requires.placed.scope

pub returns-clause-placed : goal.returns-clause-placed
returns-clause-placed c =
    let w = c.args.self.now in
    let tree = c.insert_words.new.self in
    let used = c.uses_of.new.used in
    let noted = c.in_ok-uses.ensures in
    let made = c.in_ok-full_name.ensures in
    let one : TypeRead = record { scope = option_copied w.scope; declaration = c.args.declaration.now } in
    let full_name = c.in_ok-full_name.full_name in
    let placed = c.requires.placed in
    let grown = placed_grown w tree used w.scope w.path made.tree made.kept noted.tree noted.kept
    (made.kept w.path _ placed.scope) placed in
    let named : IsPath tree full_name (words (name_of_type one)) =
    path_inside w.tree tree w.path full_name one.scope (word_of one.declaration).bytes placed.scope
    (grind (rules, made.path)) in
    record {
      tree = grown.tree;
      used = grown.used;
      scope = grown.scope;
      notes = rw (c.in_ok-push-3.ensures.items, c.in_ok-push-4.ensures.items)
          (all_zipped_more (AreNotesOf tree used) w.notes.items w.types.items _ one grown.notes
          (record { namespace = grown.scope; uses = noted.uses }));
      values = λ types. rw (
        c.in_ok-push-2.ensures.items,
        c.in_ok-push-4.ensures.items,
        map_push (enum_values_of types) w.types.items one,
        grown.values types,
        c.in_ok-values.ensures types one.scope,
      )
          refl;
      full_names = rw (c.in_ok-push.ensures.items, c.in_ok-push-4.ensures.items)
          (all_zipped_more (λ n r. IsPath tree n (words (name_of_type r))) w.full_names.items w.types.items full_name
          one grown.full_names named);
      root = grown.root;
    }

pub of-requires : goal.of-requires
of-requires c = (c.uses_of.new.used, rw c.as_slice.ensures.value c.in_ok-uses.ensures.uses)

pub returns-clause-added : goal.returns-clause-added
returns-clause-added c = rw c.in_ok-push-4.ensures.items refl
