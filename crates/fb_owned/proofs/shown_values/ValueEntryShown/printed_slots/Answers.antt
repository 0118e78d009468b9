use Rattle.std.proofs.Common.{◌≤◌, length, sym, arith, refl}
use Rattle.std.proofs.lemmas.Option.{slice_get_past}
use Rattle.fb_value.specs.Datum.{a_table}
use Rattle.fb_owned.proofs.shown_values.PartsAreLighter.{seen_there, entry_past}
use Rattle.fb_text.proofs.texts.NothingBehindTheEnd.{there_within}
use Rattle.fb_owned.proofs.shown_values.ValueEntryShown.printed_slots.Goals as goal

pub returns-in-Some-clause-behind : goal.returns-in-Some-clause-behind
returns-in-Some-clause-behind c L t es k f shows all past there =
    let entries = c.entries_of.result.now in
    let is = c.entries_of.ensures t es (seen_there c.args.self.0 c.in-Some.value (a_table t es) c.in-Some.is shows)
    in
    let within = there_within _ k f there in
    let behind : length entries ≤ k = omega (arith, within, all, past, c.min.ensures) in
    let none = entry_past entries k (sym (slice_get_past entries k behind)) in
    rw (is, none) refl
