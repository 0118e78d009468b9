use Rattle.json.proofs.Printed.Plain.{escape_on_plain}
use Rattle.fb_text.proofs.plain.needs_no_escape.Goals as goal

pub returns : goal.returns
returns c = escape_on_plain c.is_all_plain.result c.args.text.now c.is_all_plain.ensures
