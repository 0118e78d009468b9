use Rattle.std.proofs.Common.{◌∙◌, Some, sym, ap}
use Rattle.fb_layout.specs.Laid.{stored_kind}
use Rattle.fb_read.specs.Stored.{text_behind}
use Rattle.fb_read.proofs.placed.PartsLieInTheirPlaces.{item_text_sure, item_text, item_no_text}
use Rattle.fb_read.proofs.items.Items.text.Goals as goal

pub text_behind-requires : goal.text_behind-requires
text_behind-requires c =
    rw c.position.ensures (item_text_sure c.args.self.layout.now c.args.self.bytes.now
    (stored_kind c.args.self.layout.now.schema c.args.self.kind) c.args.self.at c.args.self.len c.args.i c.requires
    c.args.self.lies (sym (c.is_text.ensures c.args.self.layout.now) ∙ c.if-not-is_text.false))

pub returns-then-not-is_text : goal.returns-then-not-is_text
returns-then-not-is_text c ds lies = item_no_text c.args.self.layout.now c.args.self.bytes.now
    (stored_kind c.args.self.layout.now.schema c.args.self.kind) c.args.self.at c.args.self.len c.args.i c.requires ds
    lies (sym (c.is_text.ensures c.args.self.layout.now) ∙ c.if-not-is_text.true)

pub returns : goal.returns
returns c ds lies =
    ap Some (c.text_behind.ensures ∙ ap (text_behind c.args.self.bytes.now) c.position.ensures)
    ∙ item_text c.args.self.layout.now c.args.self.bytes.now
    (stored_kind c.args.self.layout.now.schema c.args.self.kind) c.args.self.at c.args.self.len c.args.i c.requires ds
    lies (sym (c.is_text.ensures c.args.self.layout.now) ∙ c.if-not-is_text.false)
