use Rattle.std.proofs.Common.{suc, append-nil}
use Rattle.fb_schema.specs.Schema.{body_at, parts_in}
use Rattle.fb_text.specs.Indents.{blanks, deeper}
use Rattle.fb_text.specs.Nested.{StandsIn, fields_text}
use Rattle.fb_text.proofs.noted.PiecesAddUp.{then}
use Rattle.fb_text.proofs.values.OneMemberMore.{parts_end}
use Rattle.fb_text.proofs.values.put_struct_end.Goals as goal

pub returns-clause-text : goal.returns-clause-text
returns-clause-text g c defaults ds es behind shows at =
    let L = c.args.layout.now in
    let indent = blanks c.args.indent.now in
    let u = c.args.here.structure in
    let depth = c.args.here.depth in
    let (around, rest, on, whole) = c.parent_of.ensures.parent defaults indent ds es behind shows at.1 in
    let end = parts_end L defaults (deeper (suc depth) indent) (deeper depth indent) c.args.here.some
    (parts_in (body_at L.schema u.0)) es c.args.here.next c.requires.end in
    let closed = rw (c.deeper.ensures, end) at (then c.put_closing.ensures c.put_str.ensures) in
    (around, rest, on, λ finish adds. then closed (rw whole adds))

pub returns-then-here-eq0-clause-text : goal.returns-then-here-eq0-clause-text
returns-then-here-eq0-clause-text g c defaults ds es behind shows at =
    let L = c.args.layout.now in
    let indent = blanks c.args.indent.now in
    let u = c.args.here.structure in
    let depth = c.args.here.depth in
    let first : StandsIn L defaults indent c.args.structure ds 0 c.args.here.at u es behind =
    rw c.if-here-eq0.true at at.1 in
    let end = parts_end L defaults (deeper (suc depth) indent) (deeper depth indent) c.args.here.some
    (parts_in (body_at L.schema u.0)) es c.args.here.next c.requires.end in
    let closed = rw (c.deeper.ensures, end) at (then c.put_closing.ensures c.put_str.ensures) in
    rw (first.3, append-nil (fields_text L defaults indent u es depth c.args.here.next c.args.here.some)) closed
