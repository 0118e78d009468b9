-- Each member that a name's look-up finds a slot for is put there, and belongs to no other slot.
use Rattle.std.proofs.Common.{◌≡◌, ◌≢◌, ◌∙◌, ℕ, zero, suc, ◌<◌, Bool, true, false, List, ◌∷◌, length, map}
use Rattle.std.proofs.Common.{get_or, set, slice_get, replicate, Option, Some, None, option_map, bytes_eq, String}
use Rattle.std.proofs.Common.{BTreeMap, Global, Bor, All, string_bytes, string_cmp, refl, ap, sym, subst, arith}
use Rattle.std.specs.BTreeMap.{get}
use Rattle.std.specs.Option.{option_or}
use Rattle.std.proofs.lemmas.List.{get_or-set_other, get_or-set_same, get_or-replicate}
use Rattle.std.proofs.lemmas.List.{length-map, length-replicate, length-set}
use Rattle.std.proofs.lemmas.List.Elements.{All-head, All-tail}
use Rattle.std.proofs.lemmas.Option.{slice_get-get_or, slice_get_within}
use Rattle.std.proofs.lemmas.Slice.Eq.{bytes_eq-Decides}
use Rattle.serde_json.specs.declared.value.Value.{Value}
use Rattle.serde_json.specs.Data.{Data, Members, member, no_members}
use Rattle.serde_json.specs.Find.{get_member}
use Rattle.serde_json.specs.View.{view, members_view}
use Rattle.serde_json.proofs.Views.{Entry, view-lookup}
use Rattle.fb_schema.specs.Schema.{Name, DeclaredField}
use Rattle.fb_schema.specs.Schema.{DeclaredSchema, body_at}
use Rattle.fb_schema.specs.Found.{field_named}
use Rattle.fb_schema.specs.WellDeclared.{IsDeclared}
use Rattle.fb_json.specs.SlotMembers.{AreFieldsOf, AreMembersOf, tree_seen}
use Rattle.fb_json.proofs.slots.NamedSlotIsFound.{found_as, in_fields, number_is, passed_over}
use Rattle.fb_json.proofs.slots.NamedSlotIsFound.{named_at}

-- ---- one member more

-- of the members before these, each is at its slot
pub record ArePutSoFar (fs : List DeclaredField) (trees : List (Option Data)) (ms rest : Members) : Type 0 where
  pub all : length trees ≡ length fs
  pub each : (k : ℕ) (f : DeclaredField) → slice_get fs k ≡ Some f
      → get_member f.name ms ≡ option_or (get_or trees k None) (get_member f.name rest)

pub none_seen : (n : ℕ) → map tree_seen (replicate n None) ≡ replicate n None
none_seen zero = refl
none_seen (suc n) = ap (λ os. None ∷ os) (none_seen n)

pub none_put : (fs : List DeclaredField) (ms : Members) (n : ℕ) → n ≡ length fs
    → ArePutSoFar fs (replicate n None) ms ms
none_put fs ms n long = record {
  all = length-replicate n None ∙ long;
  each = λ k f there.
      let within : k < n = omega (arith, slice_get_within fs k f there, long) in
      ap (λ (o : Option Data). option_or o (get_member f.name ms)) (sym (get_or-replicate n k None None within));
}

module _ (S : DeclaredSchema) (t : ℕ) (declared : IsDeclared S) (fs : List DeclaredField)
    (of : AreFieldsOf fs (body_at S t)) (name : Name) (d : Data) (ms rest : Members)
    (trees : List (Option Data)) (so_far : ArePutSoFar fs trees ms (member name d rest)) where
  -- where its name finds no slot
  pub none_more : field_named (body_at S t) name ≡ None → ArePutSoFar fs trees ms rest
  none_more none = record {
    all = so_far.all;
    each = λ k f there.
        let apart : f.name ≢ name = λ same.
        let found = (found_as S t declared k f (in_fields fs (body_at S t) of k f there)).0 in
        let both : None ≡ Some f = sym none ∙ (ap (field_named (body_at S t)) (sym same) ∙ found) in
        cc in
        so_far.each k f there ∙ ap (option_or (get_or trees k None)) (passed_over f.name name d rest apart);
  }

  -- where its name finds a field
  pub one_more : (g : DeclaredField) → field_named (body_at S t) name ≡ Some g → get_member name ms ≡ Some d
      → ArePutSoFar fs (set trees g.slot (Some d)) ms rest
  one_more g found here = record {
    all = length-set trees g.slot (Some d) ∙ so_far.all;
    each = λ k f there. by k f there (bytes_eq f.name name) refl;
  }
    where
      by : (k : ℕ) (f : DeclaredField) → slice_get fs k ≡ Some f → (b : Bool)
          → bytes_eq f.name name ≡ b → get_member f.name ms
          ≡ option_or (get_or (set trees g.slot (Some d)) k None) (get_member f.name rest)
      by k f there true e =
          let same : f.name ≡ name = (bytes_eq-Decides f.name name).0 e in
          let is = found_as S t declared k f (in_fields fs (body_at S t) of k f there) in
          let both : Some g ≡ Some f = sym found ∙ (ap (field_named (body_at S t)) (sym same) ∙ is.0) in
          let at : k ≡ g.slot = number_is g f k both is.1 in
          let within : g.slot < length trees =
          omega (arith, slice_get_within fs k f there, so_far.all, at) in
          let put : get_or (set trees g.slot (Some d)) k None ≡ Some d =
          ap (λ n. get_or (set trees g.slot (Some d)) n None) at ∙ get_or-set_same trees g.slot (Some d) None within in
          ap (λ n. get_member n ms) same ∙ (here ∙ sym (ap (λ o. option_or o (get_member f.name rest)) put))
      by k f there false e =
          let apart : f.name ≢ name = λ same.
          let both : true ≡ false = sym ((bytes_eq-Decides f.name name).1 same) ∙ e in cc in
          let other : k ≢ g.slot = λ at. apart
          (named_at S t declared name g f k found (in_fields fs (body_at S t) of k f there) at) in
          so_far.each k f there
          ∙ (ap (option_or (get_or trees k None)) (passed_over f.name name d rest apart)
          ∙ ap (λ o. option_or o (get_member f.name rest)) (sym (get_or-set_other trees g.slot k (Some d) None other)))

or_none : (o : Option Data) → option_or o None ≡ o
or_none None = refl
or_none (Some d) = refl

pub all_put : (trees : List (Option (Bor Value))) (fs : List DeclaredField) (ms : Members)
    → ArePutSoFar fs (map tree_seen trees) ms no_members → AreMembersOf trees fs ms
all_put trees fs ms so_far = record {
  all = sym (length-map trees tree_seen) ∙ so_far.all;
  each = λ k f there.
      slice_get-get_or (map tree_seen trees) k None (omega (arith, slice_get_within fs k f there, so_far.all))
      ∙ ap Some (sym (so_far.each k f there ∙ or_none (get_or (map tree_seen trees) k None)));
}

-- ---- one turn of the walk over a map

-- the map finds each of its entries
abbrev pub AreFound : BTreeMap (String Global) Value → List Entry → Type 0
AreFound m = All (λ e. get string_cmp m e.0 ≡ Some e.1)

abbrev pub put_at : Option DeclaredField → List (Option Data) → Data → List (Option Data)
put_at None trees d = trees
put_at (Some g) trees d = set trees g.slot (Some d)

pub next_put : (S seen : DeclaredSchema) (t : ℕ) → IsDeclared S → (fs : List DeclaredField)
    → AreFieldsOf fs (body_at S t) → (m : BTreeMap (String Global) Value)
    (es : List Entry) (e : Entry) (rest : List Entry) (asked : Name) (o : Option DeclaredField)
    (trees : List (Option Data)) → seen ≡ S → asked ≡ string_bytes e.0 → o ≡ field_named (body_at seen t) asked
    → es ≡ e ∷ rest → AreFound m es
    → ArePutSoFar fs trees (members_view m.entries) (members_view es)
    → ArePutSoFar fs (put_at o trees (view e.1)) (members_view m.entries) (members_view rest)
next_put S seen t declared fs of m es e rest asked o trees same_schema same_name answer steps found so_far =
    let name = string_bytes e.0 in
    let ms = members_view m.entries in
    let looked : o ≡ field_named (body_at S t) name =
    answer ∙ (ap (λ (s : DeclaredSchema). field_named (body_at s t) asked) same_schema
    ∙ ap (field_named (body_at S t)) same_name) in
    let before : ArePutSoFar fs trees ms (member name (view e.1) (members_view rest)) =
    rw steps at so_far in
    let one : get string_cmp m e.0 ≡ Some e.1 =
    All-head (λ x. get string_cmp m x.0 ≡ Some x.1) e rest (subst (AreFound m) steps found) in
    let here : get_member name ms ≡ Some (view e.1) = sym (view-lookup name m.entries) ∙ ap (option_map view) one in
    by o looked (none_more S t declared fs of name (view e.1) ms (members_view rest) trees before)
    (λ g is. one_more S t declared fs of name (view e.1) ms (members_view rest) trees before g is here)
  where
    by : (x : Option DeclaredField) → x ≡ field_named (body_at S t) (string_bytes e.0)
        → (field_named (body_at S t) (string_bytes e.0) ≡ None
        → ArePutSoFar fs trees (members_view m.entries) (members_view rest))
        → ((g : DeclaredField) → field_named (body_at S t) (string_bytes e.0) ≡ Some g
        → ArePutSoFar fs (set trees g.slot (Some (view e.1))) (members_view m.entries)
        (members_view rest))
        → ArePutSoFar fs (put_at x trees (view e.1)) (members_view m.entries) (members_view rest)
    by None is none some = none (sym is)
    by (Some g) is none some = some g (sym is)

pub found_next : (m : BTreeMap (String Global) Value) (es : List Entry) (e : Entry) (rest : List Entry)
    → es ≡ e ∷ rest → AreFound m es → AreFound m rest
found_next m es e rest steps found =
    All-tail (λ x. get string_cmp m x.0 ≡ Some x.1) e rest (subst (AreFound m) steps found)
