-- The next member of a text is put at its slot.
use Rattle.std.proofs.Common.{◌≡◌, ◌∙◌, ◌+◌, ◌<◌, ◌||◌, ◌++◌, ◌∷◌, [], ℕ, List, Bool, Option, Result, Err, IfSome}
use Rattle.std.proofs.Common.{length}
use Rattle.std.proofs.Common.{get_or, map, take, if◌then◌else◌, ap, sym}
use Rattle.std.proofs.lemmas.List.{map-append, take_more}
use Rattle.serde_json.specs.Data.{string}
use Rattle.fb_schema.specs.Schema.{DeclaredField, DeclaredSchema, body_at}
use Rattle.fb_schema.specs.Found.{field_named}
use Rattle.fb_schema.specs.WellDeclared.{IsDeclared}
use Rattle.fb_json.specs.declared.faults.JsonFault.{JsonFault}
use Rattle.fb_json.specs.declared.faults.JsonFault.TheVariants.{UnknownMember}
use Rattle.fb_json.specs.Meant.{is_used, type_place}
use Rattle.fb_json.specs.SlotMembers.{AreFieldsOf}
use Rattle.fb_pieces.specs.declared.cut.Member.{Member}
use Rattle.fb_pieces.specs.CutTexts.{member_texts, piece_text}
use Rattle.fb_encode.specs.declared.reader.JsonExcerpt.{JsonExcerpt}
use Rattle.fb_encode.specs.MembersRead.{name_read}
use Rattle.fb_encode.specs.SlotTexts.{text_over, texts_with}
use Rattle.fb_encode.specs.TextsRead.{IsRead, IsReadAs}
use Rattle.fb_encode.proofs.slot_texts.TextsAreAtTheirSlots.{ArePutSoFar, one_more}

abbrev texts_before : List ℕ → List Member → ℕ → List (List ℕ × List ℕ)
texts_before text members i = map (member_texts text) (take i members)

members_more : (text : List ℕ) (members : List Member) (i : ℕ) (d : Member) → i < length members
    → texts_before text members i ++ member_texts text (get_or members i d) ∷ []
    ≡ texts_before text members (i + 1)
members_more text members i d within =
    sym (ap (map (member_texts text)) (take_more members i d within)
    ∙ map-append (member_texts text) (take i members) (get_or members i d ∷ []))

module _ (S : DeclaredSchema) (t : ℕ) (declared : IsDeclared S) (fs : List DeclaredField)
    (of : AreFieldsOf fs (body_at S t)) (unknown : Bool) (brackets : ℕ)
    (texts : List (Option JsonExcerpt)) (known : Result (Unit {0}) JsonFault) (text : List ℕ) (members : List Member)
    (i : ℕ) (d : Member) (within : i < length members)
    (so_far : ArePutSoFar S t fs unknown brackets texts known (texts_before text members i)) (name value : JsonExcerpt)
    (name_is : name.text.now ≡ piece_text text (get_or members i d).name) (name_in : name.brackets ≡ brackets)
    (value_is : value.text.now ≡ piece_text text (get_or members i d).value) (value_in : value.brackets ≡ brackets)
    (named : IsReadAs name.brackets name.text.now (string (name_read name.brackets name.text.now)))
    (o : Option DeclaredField) (found : o ≡ field_named (body_at S t) (name_read name.brackets name.text.now)) where
  named_here : IsReadAs brackets (member_texts text (get_or members i d)).0
      (string (name_read brackets (member_texts text (get_or members i d)).0))
  named_here =
      rw (← name_is) (rw (← name_in) named)

  found_here : o ≡ field_named (body_at S t) (name_read brackets (member_texts text (get_or members i d)).0)
  found_here =
      found ∙ (ap (λ (b : ℕ). field_named (body_at S t) (name_read b name.text.now)) name_in
      ∙ ap (λ (n : List ℕ). field_named (body_at S t) (name_read brackets n)) name_is)

  pub next_put : IfSome (text_over texts o value) (λ x. IsRead x.brackets x.text.now)
      → ArePutSoFar S t fs unknown brackets (texts_with texts o value)
      (if unknown || is_used o then known else Err (UnknownMember (type_place t))) (texts_before text members (i + 1))
  next_put over =
      rw (← (members_more text members i d within))
      (one_more S t declared fs of unknown brackets texts known (texts_before text members i) so_far
      (member_texts text (get_or members i d)) value value_is value_in named_here o found_here over)
