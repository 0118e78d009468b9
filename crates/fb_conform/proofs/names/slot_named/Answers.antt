use Rattle.std.proofs.Common.{sym, ap, ◌∙◌, option_map, option_copied}
use Rattle.fb_schema.specs.Seen.{field_seen}
use Rattle.fb_conform.proofs.names.NamesHaveOneSlot.{no_slot_at}
use Rattle.fb_conform.proofs.names.slot_named.Goals as goal

pub returns-then-code-eq0 : goal.returns-then-code-eq0
returns-then-code-eq0 c =
    let no_field = rw c.schema-schema.ensures.schema at c.field_by_name.ensures in
    let code = rw c.schema-schema.ensures.schema at c.code_of_name.ensures in
    sym (no_slot_at c.args.layout.now.schema c.schema-schema.ensures.made.declared c.args.owner.0 c.args.name.now
    (sym no_field ∙ ap (λ o. option_map field_seen (option_copied o)) c.in_default.is) c.in_ok-code.code
    (sym code ∙ c.in_ok-code.was) c.if-code-eq0.true)
