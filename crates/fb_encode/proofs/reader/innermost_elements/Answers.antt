use Rattle.std.proofs.Common.{◌≡◌, ◌∙◌, Some, ap, sym, arith}
use Rattle.std.proofs.lemmas.Bool.Decides.{nat_tests}
use Rattle.serde_json.specs.Data.{Data, null, boolean, number, string, array, object, Items}
use Rattle.serde_json.specs.Find.{as_array}
use Rattle.serde_json.specs.View.{view as tree_view, items_view}
use Rattle.fb_pieces.specs.InBrackets.{in_arrays}
use Rattle.fb_encode.proofs.reader.innermost_elements.Goals as goal

array_by : (t : Data) (ds : Items) → Some ds ≡ as_array t → t ≡ array ds
array_by null ds is = cc
array_by (boolean b) ds is = cc
array_by (number n) ds is = cc
array_by (string s) ds is = cc
array_by (object ms) ds is = cc
array_by (array es) ds is = let same : ds ≡ es = cc in ap array (sym same)

pub returns-in-Some : goal.returns-in-Some
returns-in-Some c =
    let trees = c.deref.result.now in
    let filled = sym c.is_empty.ensures ∙ c.if-not-is_empty.true in
    record {
      are = c.in_ok-innermost.ensures ∙ ap (in_arrays c.args.arrays)
          (array_by (tree_view c.in_ok-innermost.field-0.now) (items_view trees)
          (rw c.deref.ensures.value c.in-Some.ensures));
      some = grind (arith, nat_tests, filled, c.deref.ensures.len);
    }
