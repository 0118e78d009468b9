-- What a text is read as is what it is named to be.
use Rattle.std.proofs.Common.{◌≡◌, ◌∙◌, ◌-◌, ◌≤◌, ℕ, List, Some, IsUtf8, ap, unwrap_or}
use Rattle.serde_json.specs.Data.{Data, null, string}
use Rattle.serde_json.specs.Read.{read}
use Rattle.serde_json.specs.View.{view as tree_view}
use Rattle.serde_json.specs.declared.value.Value.{Value as Json}
use Rattle.fb_pieces.specs.InBrackets.{TextIsReadWithoutBrackets, in_arrays, in_brackets}
use Rattle.fb_encode.specs.MembersRead.{bytes_in, name_read, tree_read}
use Rattle.fb_encode.specs.TextsRead.{IsRead, IsReadAs}
use Rattle.fb_encode.proofs.reader.TextInBrackets.{read_without}

-- in brackets of its own
module _ (law : TextIsReadWithoutBrackets) (brackets : ℕ) (text : List ℕ) (low : brackets ≤ 127) (utf8 : IsUtf8 text)
    (tree inner : Json) (is : read (in_brackets (127 - brackets) text) ≡ Some (tree_view tree))
    (within : tree_view tree ≡ in_arrays (127 - brackets) (tree_view inner)) where
  pub inner_is_read : IsReadAs brackets text (tree_view inner)
  inner_is_read = record {
    utf8 = utf8;
    read = read_without law brackets text (tree_view inner) low (is ∙ ap Some within);
  }

pub name_is : (brackets : ℕ) (text s : List ℕ) → IsReadAs brackets text (string s) → name_read brackets text ≡ s
unfolding name_read
name_is brackets text s is = ap bytes_in is.read

pub name_is_read : (brackets : ℕ) (text s : List ℕ) → IsReadAs brackets text (string s)
    → IsReadAs brackets text (string (name_read brackets text))
name_is_read brackets text s is =
    rw (name_is brackets text s is) is

pub tree_is : (brackets : ℕ) (text : List ℕ) (t : Data) → IsReadAs brackets text t → tree_read brackets text ≡ t
unfolding tree_read
tree_is brackets text t is = ap (λ o. unwrap_or o null) is.read

pub tree_is_read : (brackets : ℕ) (text : List ℕ) → IsRead brackets text
    → IsReadAs brackets text (tree_read brackets text)
tree_is_read brackets text (t, is) =
    rw (tree_is brackets text t is) is
