-- A text is noted, as its tree gives it.
use Rattle.std.proofs.Common.{◌≡◌, ◌+◌, ◌∷◌, [], ℕ, Bool, true, false, List, Ok, length, refl, ap, subst}
use Rattle.std.proofs.Common.{nat_lt, IsUtf8}
use Rattle.serde_json.specs.Data.{Data, null, boolean, number, string, array, object}
use Rattle.serde_json.specs.View.{view as tree_view}
use Rattle.serde_json.specs.declared.value.Value.{Value as Json}
use Rattle.fb_layout.specs.Laid.{LaidSchema, one_of, text_kind}
use Rattle.fb_value.specs.Datum.{a_text}
use Rattle.fb_value.specs.Places.{text_part}
use Rattle.fb_tape.specs.Tapes.{Taped}
use Rattle.fb_json.specs.declared.faults.Place.{Place}
use Rattle.fb_json.specs.Leaves.{text_meant}
use Rattle.fb_json.proofs.texts.TreeTextsAreUtf8.{TreeHasUtf8, tree_utf8}
use Rattle.fb_build.specs.Noted.{AddsParts}
use Rattle.fb_encode.proofs.entries.SlotStoresNothing.{given_or}
use Rattle.fb_encode.specs.TreesNoted.{IsNoted}

text_utf8 : (t : Data) (s : List ℕ) (at : Place) (left rest : ℕ) → TreeHasUtf8 t
    → text_meant t at left ≡ Ok (a_text s, rest) → IsUtf8 s
unfolding text_meant
text_utf8 null s at left rest utf8 given = cc
text_utf8 (boolean b) s at left rest utf8 given = cc
text_utf8 (number n) s at left rest utf8 given = cc
text_utf8 (array ts) s at left rest utf8 given = cc
text_utf8 (object ms) s at left rest utf8 given = cc
text_utf8 (string r) s at left rest utf8 given = by_room (nat_lt left (1 + length r)) refl
  where
    by_room : (b : Bool) → nat_lt left (1 + length r) ≡ b → IsUtf8 s
    by_room true over = let bad = rw over at given in cc
    by_room false over =
        let kept = rw over at given in
        let whole : a_text r ≡ a_text s = ap (given_or (a_text s)) kept in
        let same : r ≡ s = cc in
        subst IsUtf8 same utf8

pub text_noted : (L : LaidSchema) (t : Json) (s : List ℕ) (at : Place) (left rest : ℕ) (a b : Taped)
    → text_meant (tree_view t) at left ≡ Ok (a_text s, rest)
    → AddsParts a b (record { target = text_part; value = a_text s } ∷ []) (length s + 8)
    → IsNoted L (one_of text_kind) (text_meant (tree_view t) at left) a b rest
text_noted L t s at left rest a b given adds = record {
  value = a_text s;
  given_is = given;
  fits = text_utf8 (tree_view t) s at left rest (tree_utf8 t) given;
  whole = refl;
  adds = adds;
}
