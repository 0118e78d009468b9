use Rattle.std.proofs.Common.{rules, subst}
use Rattle.std.proofs.KnownBytes.{Appends-trans}
use Rattle.std.specs.Io.KnownBytes.{Appends}
use Rattle.flatc_tool.proofs.command.reports.WriterHasALineOrItsFront.{front_grows}
use Rattle.flatc_tool.proofs.command.reports.write_text.Goals as goal

pub loop-at-preserved : goal.loop-at-preserved
loop-at-preserved g c =
    let more = Appends-trans _ _ _ _ _ c.loop-at.invariant.got c.in-Ok.ensures.bytes in
    record {
      within = search rules;
      got = subst (Appends _ _) (front_grows c.as_bytes-bytes.result.now c.loop-at.at c.in-Ok.n) more;
    }
