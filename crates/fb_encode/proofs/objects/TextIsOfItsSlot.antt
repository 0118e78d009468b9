-- The text at a slot is that of the member which a look-up of its name finds.
use Rattle.std.proofs.Common.{◌≡◌, ◌∙◌, ◌+◌, ◌≤◌, ◌<◌, ◌∷◌, [], ℕ, zero, suc, Bool, true, false, List}
use Rattle.std.proofs.Common.{Option, None, Some, IfSome, drop, length}
use Rattle.std.proofs.Common.{get_or, option_map, slice_get, Ordering, Less, Equal, Greater, nat_cmp, refl, sym, ap}
use Rattle.std.proofs.Common.{◌==◌, arith}
use Rattle.std.specs.Ordering.{match_ordering}
use Rattle.std.specs.Cmp.Lexicographic.{slice_cmp}
use Rattle.std.proofs.lemmas.Bool.{eqb-false, eqb-true}
use Rattle.std.proofs.lemmas.Option.{slice_get-map, slice_get-get_or}
use Rattle.serde_json.specs.Data.{Data, Members, member, no_members}
use Rattle.serde_json.specs.Find.{get_member}
use Rattle.fb_schema.specs.Schema.{DeclaredField, Name}
use Rattle.fb_layout.specs.Laid.{LaidSchema}
use Rattle.fb_json.specs.Meant.{Meaner, look, meant}
use Rattle.fb_encode.specs.declared.reader.JsonExcerpt.{JsonExcerpt}
use Rattle.fb_encode.specs.MembersRead.{object_read}
use Rattle.fb_encode.specs.SlotTexts.{AreTextsOf, AreTextsRead, excerpt_tree, text_found}
use Rattle.fb_encode.specs.TextsRead.{IsRead}
use Rattle.fb_encode.proofs.objects.SlotsAreFound.{brackets_in}
use Rattle.fb_json.proofs.slots.MembersWithTheirMeaning.{looked}
use Rattle.fb_json.proofs.slots.MembersWithTheirMeaning.{with_meaning}

meaning_of : (L : LaidSchema) (unknown : Bool) (o : Option JsonExcerpt)
    → option_map (with_meaning L unknown) (option_map excerpt_tree o) ≡ text_found L unknown o
meaning_of L unknown None = refl
meaning_of L unknown (Some e) = refl

-- what is known of a slot's text
pub record IsOwnText (L : LaidSchema) (unknown : Bool) (brackets : ℕ) (ms : Members) (f : DeclaredField)
    (o : Option JsonExcerpt) : Type 0 where
  pub low : brackets_in o ≤ brackets
  pub few : brackets ≤ 127 → IfSome o (λ e. e.brackets ≤ 127)
  pub old : f.deprecated ≡ true → o ≡ None
  pub found : f.deprecated ≡ false → look L unknown ms f.name ≡ text_found L unknown o

-- the texts before a place are read, and the others too
pub all_read : (texts : List (Option JsonExcerpt)) (k : ℕ)
    → ((j : ℕ) (e : JsonExcerpt) → j < k → slice_get texts j ≡ Some (Some e) → IsRead e.brackets e.text.now)
    → AreTextsRead (drop k texts) → AreTextsRead texts
all_read texts zero before rest j e at = rest j e at
all_read [] (suc k) before rest j e at = cc
all_read (o ∷ texts) (suc k) before rest zero e at = before 0 e (omega arith) at
all_read (o ∷ texts) (suc k) before rest (suc j) e at =
    all_read texts k (λ i f low is. before (suc i) f (omega (arith, low)) is) rest j e at

module _ (texts : List (Option JsonExcerpt)) (k : ℕ) (o : Option JsonExcerpt) (within : k < length texts)
    (is : o ≡ get_or texts k o) where
  there : slice_get texts k ≡ Some o
  there = slice_get-get_or texts k o within ∙ ap Some (sym is)

  -- the texts before the next place are read
  pub read_more : IfSome o (λ e. IsRead e.brackets e.text.now)
      → ((j : ℕ) (e : JsonExcerpt) → j < k → slice_get texts j ≡ Some (Some e) → IsRead e.brackets e.text.now)
      → (j : ℕ) (e : JsonExcerpt) → j < k + 1 → slice_get texts j ≡ Some (Some e) → IsRead e.brackets e.text.now
  read_more here before j e low at = by (j == k) refl
    where
      by : (b : Bool) → (j == k) ≡ b → IsRead e.brackets e.text.now
      by true is =
          let same : j ≡ k = eqb-true j k is in
          let both : Some o ≡ Some (Some e) = sym there ∙ (ap (slice_get texts) (sym same) ∙ at) in
          let it : o ≡ Some e = cc in
          rw it at here
      by false is =
          let apart = eqb-false j k is in
          before j e (omega (arith, low, apart)) at

  module _ (brackets : ℕ) (fs : List DeclaredField) (ms : List (List ℕ × List ℕ))
      (are : AreTextsOf brackets texts fs ms) where
    text_in : (p : Option JsonExcerpt) → o ≡ p → IfSome p (λ e. e.brackets ≡ brackets)
    text_in None same = tt
    text_in (Some e) same = are.brackets_are k e (there ∙ ap Some same)

    low_of : (p : Option JsonExcerpt) → IfSome p (λ e. e.brackets ≡ brackets) → brackets_in p ≤ brackets
    low_of None h = omega arith
    low_of (Some e) h = omega (arith, h)

    few_of : (p : Option JsonExcerpt) → IfSome p (λ e. e.brackets ≡ brackets) → brackets ≤ 127
        → IfSome p (λ e. e.brackets ≤ 127)
    few_of None h few = tt
    few_of (Some e) h few = omega (arith, h, few)

    old_of : (f : DeclaredField) → slice_get fs k ≡ Some f → f.deprecated ≡ true → o ≡ None
    old_of f slot old =
        let both : Some o ≡ Some None = sym there ∙ are.old k f slot old in
        cc

    pub member_of : (f : DeclaredField) → slice_get fs k ≡ Some f → f.deprecated ≡ false
        → get_member f.name (object_read brackets ms) ≡ option_map excerpt_tree o
    member_of f slot used =
        let both : Some (option_map excerpt_tree o) ≡ Some (get_member f.name (object_read brackets ms)) =
        sym (slice_get-map (option_map excerpt_tree) texts k ∙ ap (option_map (option_map excerpt_tree)) there)
        ∙ are.each k f slot used in
        cc

    found_of : (L : LaidSchema) (unknown : Bool) (f : DeclaredField) → slice_get fs k ≡ Some f
        → f.deprecated ≡ false → look L unknown (object_read brackets ms) f.name ≡ text_found L unknown o
    found_of L unknown f slot used =
        looked L unknown (object_read brackets ms) f.name
        ∙ (ap (option_map (with_meaning L unknown)) (member_of f slot used) ∙ meaning_of L unknown o)

    pub own_text : (L : LaidSchema) (unknown : Bool) (f : DeclaredField) → slice_get fs k ≡ Some f
        → IsOwnText L unknown brackets (object_read brackets ms) f o
    own_text L unknown f slot = record {
      low = low_of o (text_in o refl);
      few = few_of o (text_in o refl);
      old = old_of f slot;
      found = found_of L unknown f slot;
    }
