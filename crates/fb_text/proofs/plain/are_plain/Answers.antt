use Rattle.json.proofs.Printed.Plain.{plain_from_lanes}
use Rattle.fb_text.proofs.plain.are_plain.Goals as goal

pub returns : goal.returns
returns g c =
    plain_from_lanes c.args.text.now c.args.at g.row.N c.requires.within c.requires.few c.type_inv.text
