-- What each variant of a `Value` is seen as. (x)
use Rattle.std.proofs.Common.{◌≡◌, ℕ, ℤ, Option, Vec, Box, String, Global, string_bytes, rules, List, [], ◌∷◌, length}
use Rattle.std.proofs.Common.{refl, sym, ap, ◌∙◌}
use Rattle.fb_schema.specs.declared.kinds.TypeId.{TypeId}
use Rattle.fb_value.specs.Datum.{a_number, a_text, a_vector, a_struct, a_table, a_member, an_unknown, Datum}
use Rattle.fb_value.specs.Datum.{count}
use Rattle.fb_value.specs.View.{view, view_step, parts_view, entries_view}
use Rattle.fb_value.specs.declared.values.Value.{Value, Number, Text, Items, Fixed, Fields, Member, Other, the_lemmas}
use Rattle.fb_value.specs.declared.values.Value.{fold-roll-Value}
use Rattle.fb_value.specs.declared.values.Value.TheOpen.{Value-F}
use Rattle.fb_value.specs.declared.values.Value.TheVariants.{rolls-Number, rolls-Text, rolls-Other, rolls-Member}

pub view-Number : (n : ℤ) → view (Number n) ≡ a_number n
view-Number n = ap view (sym (rolls-Number n)) ∙ fold-roll-Value Datum view_step (Value-F.Number n)

pub view-Text : (s : String Global) → view (Text s) ≡ a_text (string_bytes s)
view-Text s = ap view (sym (rolls-Text s)) ∙ fold-roll-Value Datum view_step (Value-F.Text s)

pub view-Items : (v : Vec Value Global) → view (Items v) ≡ a_vector (parts_view v.items)
view-Items v = search (rules, the_lemmas)

pub view-Fixed : (v : Vec Value Global) → view (Fixed v) ≡ a_struct (parts_view v.items)
view-Fixed v = search (rules, the_lemmas)

pub view-Fields : (type : TypeId) (v : Vec (Option Value) Global)
    → view (Fields type v) ≡ a_table type.0 (entries_view v.items)
view-Fields type v = search (rules, the_lemmas)

pub view-Member : (code : ℕ) (member : Box Value Global) → view (Member code member) ≡ a_member code (view member.value)
view-Member code member = ap view (sym (rolls-Member code member)) ∙ fold-roll-Value Datum view_step
    (Value-F.Member code member)

pub view-Other : (code : ℕ) → view (Other code) ≡ an_unknown code
view-Other code = ap view (sym (rolls-Other code)) ∙ fold-roll-Value Datum view_step (Value-F.Other code)

-- a vector's or a struct's view has as many parts
pub count-parts_view : (vs : List Value) → count (parts_view vs) ≡ length vs
count-parts_view [] = refl
count-parts_view (v ∷ vs) = let rest = count-parts_view vs in cc
