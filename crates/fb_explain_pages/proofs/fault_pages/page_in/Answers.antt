use Rattle.std.proofs.Common.{arith}
use Rattle.fb_explain_pages.proofs.lines.AsciiIsPlain.{page_of_ascii}
use Rattle.fb_explain_pages.proofs.fault_pages.InOrder.{page_at}
use Rattle.fb_explain_pages.proofs.fault_pages.page_in.Goals as goal

pub returns-clause-plain : goal.returns-clause-plain
returns-clause-plain c =
    let at = page_at c.args.first c.args.pages.now c.from.result c.args.number _ c.requires.pages
    (omega arith) (omega arith) in
    page_of_ascii _ at.printed

pub returns-clause-titled : goal.returns-clause-titled
returns-clause-titled c =
    let at = page_at c.args.first c.args.pages.now c.from.result c.args.number _ c.requires.pages
    (omega arith) (omega arith) in
    at.titled
