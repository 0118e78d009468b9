-- A cut object whose members' names and values are read is read as the object of them.
use Rattle.std.proofs.Common.{◌≡◌, ◌-◌, ◌≤◌, ◌<◌, ◌∷◌, [], ℕ, suc, List, Option, Some, length, map, slice_get, subst}
use Rattle.std.proofs.Common.{arith, IsUtf8}
use Rattle.std.specs.List.{All}
use Rattle.std.proofs.lemmas.List.Elements.{All-cons, All-head, All-nil, All-tail}
use Rattle.std.proofs.lemmas.List.{length-map}
use Rattle.std.proofs.lemmas.Option.{slice_get_within}
use Rattle.serde_json.specs.Data.{object, string}
use Rattle.fb_schema.specs.declared.types.FieldInfo.{FieldInfo}
use Rattle.fb_schema.specs.Seen.{field_seen}
use Rattle.fb_pieces.specs.declared.cut.Member.{Member}
use Rattle.fb_pieces.specs.CutTexts.{member_texts}
use Rattle.fb_pieces.specs.CutTextsAreUtf8.{CutObjectIsUtf8}
use Rattle.fb_pieces.specs.ObjectOfMembers.{ReadMembers}
use Rattle.fb_pieces.specs.ReadByPieces.{CutObjectIsRead, IsCutIntoMembers}
use Rattle.fb_encode.specs.declared.reader.JsonExcerpt.{JsonExcerpt}
use Rattle.fb_encode.specs.MembersRead.{AreNamesRead, AreValuesRead, members_read, name_read, object_read}
use Rattle.fb_encode.specs.SlotTexts.{AreTextsOf, AreTextsRead}
use Rattle.fb_encode.specs.TextsRead.{IsRead, IsReadAs}
use Rattle.fb_encode.proofs.slot_texts.PiecesAreRead.{tree_is_read}

abbrev IsNameRead : ℕ → List ℕ × List ℕ → Type 0
IsNameRead brackets m = IsReadAs brackets m.0 (string (name_read brackets m.0))

abbrev IsValueRead : ℕ → List ℕ × List ℕ → Type 0
IsValueRead brackets m = IsRead brackets m.1

read_each : (brackets : ℕ) (ms : List (List ℕ × List ℕ)) → AreNamesRead brackets ms → AreValuesRead brackets ms
    → ReadMembers brackets ms (members_read brackets ms)
read_each brackets [] names values = tt
read_each brackets (m ∷ ms) names values = (
  (All-head (IsNameRead brackets) m ms names).read,
  (tree_is_read brackets m.1 (All-head (IsValueRead brackets) m ms values)).read,
  read_each brackets ms (All-tail (IsNameRead brackets) m ms names) (All-tail (IsValueRead brackets) m ms values),
)

utf8_each : (brackets : ℕ) (ms : List (List ℕ × List ℕ)) → AreNamesRead brackets ms → AreValuesRead brackets ms
    → All (λ m. IsUtf8 m.0 × IsUtf8 m.1) ms
utf8_each brackets [] names values = All-nil (λ m. IsUtf8 m.0 × IsUtf8 m.1)
utf8_each brackets (m ∷ ms) names values = All-cons (λ m. IsUtf8 m.0 × IsUtf8 m.1) m ms
    ((All-head (IsNameRead brackets) m ms names).utf8, (All-head (IsValueRead brackets) m ms values).1.utf8)
    (utf8_each brackets ms (All-tail (IsNameRead brackets) m ms names) (All-tail (IsValueRead brackets) m ms values))

cut_is_read : CutObjectIsRead → CutObjectIsUtf8 → (brackets : ℕ) (text : List ℕ) (members : List Member)
    → IsCutIntoMembers text members → 0 < length members → 0 < brackets
    → AreNamesRead (brackets - 1) (map (member_texts text) members)
    → AreValuesRead (brackets - 1) (map (member_texts text) members)
    → IsReadAs brackets text (object (object_read (brackets - 1) (map (member_texts text) members)))
cut_is_read law utf8 brackets text [] cut some within names values = absurd (omega (arith, some))
cut_is_read law utf8 brackets text (m ∷ ms) cut some within names values =
    let all = map (member_texts text) (m ∷ ms) in
    let one : suc (brackets - 1) ≡ brackets = omega arith in
    subst (λ (b : ℕ). IsReadAs b text (object (object_read (brackets - 1) all))) one (record {
      utf8 = utf8 text m ms cut (utf8_each (brackets - 1) all names values);
      read = law (brackets - 1) text m ms (members_read (brackets - 1) all) cut
          (read_each (brackets - 1) all names values);
    })

-- the same where the texts at the slots before a place are read, which is past all
pub members_are_read : CutObjectIsRead → CutObjectIsUtf8 → (brackets : ℕ) (text : List ℕ) (members : List Member)
    → IsCutIntoMembers text members → 0 < length members → 0 < brackets → (texts : List (Option JsonExcerpt))
    → (slots : List FieldInfo)
    → AreTextsOf (brackets - 1) texts (map field_seen slots) (map (member_texts text) members)
    → AreNamesRead (brackets - 1) (map (member_texts text) members)
    → (AreTextsRead texts → AreValuesRead (brackets - 1) (map (member_texts text) members)) → (k : ℕ)
    → length slots ≤ k
    → ((j : ℕ) (e : JsonExcerpt) → j < k → slice_get texts j ≡ Some (Some e) → IsRead e.brackets e.text.now)
    → IsReadAs brackets text (object (object_read (brackets - 1) (map (member_texts text) members)))
members_are_read law utf8 brackets text members cut some within texts slots are names values k past read =
    cut_is_read law utf8 brackets text members cut some within names (values (λ j e at. read j e
    (omega (arith, slice_get_within texts j (Some e) at, are.all, length-map slots field_seen, past)) at))
