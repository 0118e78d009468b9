use Rattle.std.proofs.Common.{true, sym}
use Rattle.flatc_tool.proofs.headline.streams_are_split.Goals as goal

pub returns : goal.returns
returns c L json most unknown b rest made =
    let laws = c.layer_laws.ensures.laws in
    let is = laws.held_is_message L most true b made.value (made.holds true) in
    record {
      whole = laws.message_is_whole b rest is;
      alone = λ m more other same. let both = laws.one_message_in_front b m rest more is other same in
          (sym both.0, sym both.1);
    }
