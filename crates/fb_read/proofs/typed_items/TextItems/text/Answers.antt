use Rattle.std.proofs.Common.{arith}
use Rattle.fb_read.proofs.typed_items.TextItems.text.Goals as goal

pub text_behind-requires : goal.text_behind-requires
text_behind-requires c = c.args.self.texts c.args.i c.requires

pub overflow_add-self : goal.overflow_add-self
overflow_add-self c =
    let within = (c.args.self.texts c.args.i c.requires).reference in
    omega (arith, within, c.args.self.short)
