use Rattle.std.proofs.Common.{◌≡◌, ◌≤◌, ℕ, zero, suc, List, [], ◌∷◌, Option, None, Some, length, refl, sym, ap, ◌∙◌}
use Rattle.std.proofs.Common.{arith}
use Rattle.fb_value.specs.Datum.{count}
use Rattle.fb_value.specs.View.{view, parts_view, entries_view}
use Rattle.fb_value.specs.declared.values.Value.{Value}
use Rattle.fb_value.proofs.types.EachVariantHasItsView.{view-Items, view-Fixed, view-Fields, count-parts_view}
use Rattle.fb_read.specs.Tails.{entries_from}
use Rattle.fb_text.specs.Unnamed.{first_in_entries}
use Rattle.fb_text.proofs.texts.NothingBehindTheEnd.{parts_end}
use Rattle.fb_owned.proofs.shown_values.children_of.Goals as goal

-- where no entries are left
entries_over : (t j k : ℕ) (es : List (Option Value)) → length es ≤ k
    → None ≡ first_in_entries t j (entries_from k (entries_view es))
entries_over t j zero [] over = refl
entries_over t j (suc k) [] over = refl
entries_over t j zero (e ∷ es) over = absurd (omega (arith, over))
entries_over t j (suc k) (None ∷ es) over = entries_over t j k es (omega (arith, over))
entries_over t j (suc k) (Some v ∷ es) over = entries_over t j k es (omega (arith, over))

pub returns-in-Items-clause-behind : goal.returns-in-Items-clause-behind
returns-in-Items-clause-behind c at =
    let items = c.in-Items.items in
    let seen = ap view c.in-Items.is ∙ view-Items items in
    let over : count (parts_view items.items) ≤ c.len.result =
    omega (arith, count-parts_view items.items, c.len.ensures) in
    rw seen (sym (parts_end at c.len.result (parts_view items.items) over))

pub returns-in-Fixed-clause-behind : goal.returns-in-Fixed-clause-behind
returns-in-Fixed-clause-behind c at =
    let parts = c.in-Fixed.parts in
    let seen = ap view c.in-Fixed.is ∙ view-Fixed parts in
    let over : count (parts_view parts.items) ≤ c.len-in-Fixed.result =
    omega (arith, count-parts_view parts.items, c.len-in-Fixed.ensures) in
    rw seen (sym (parts_end at c.len-in-Fixed.result (parts_view parts.items) over))

pub returns-in-Fields-clause-behind : goal.returns-in-Fields-clause-behind
returns-in-Fields-clause-behind c at =
    let entries = c.in-Fields.entries in
    let owner = c.in-Fields.field-0 in
    let seen = ap view c.in-Fields.is ∙ view-Fields owner entries in
    let n = c.len-in-Fields.result in
    let over : length entries.items ≤ n = omega (arith, c.len-in-Fields.ensures) in
    rw seen (sym (entries_over owner.0 n n entries.items over))
