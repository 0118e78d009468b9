use Rattle.std.proofs.Common.{rules, ◌≡◌}
use Rattle.serde_json.specs.Data.{string}
use Rattle.serde_json.specs.View.{view as tree_view}
use Rattle.serde_json.specs.declared.value.Value.{String, the_lemmas}
use Rattle.fb_encode.proofs.reader.Reader.string_tree.Goals as goal

pub returns-in_ok-from_str-in-Some : goal.returns-in_ok-from_str-in-Some
returns-in_ok-from_str-in-Some c = λ brackets.
    let found = rw c.in-Some.is at c.in_ok-string.ensures in
    let same : tree_view (String c.in_ok-from_str-in-Some.field-0) ≡ string c.in-Some.string.now =
    search (rules, the_lemmas) in
    rw same (found brackets)
