use Rattle.std.proofs.Common.{ℕ, ◌≤◌, ◌∙◌, length, subst, take}
use Rattle.std.specs.Io.KnownBytes.{Appends}
use Rattle.flatc_tool.proofs.command.reports.WriterHasALineOrItsFront.{front_of_a_line}
use Rattle.flatc_tool.proofs.command.reports.write_line.Goals as goal

pub returns : goal.returns
returns g c =
    let start = g.E.Write.contents c.args.err.now in
    let known = g.E.Write.contents c.write_text-all.new.out in
    subst (λ line. (m : ℕ) × (m ≤ length line) × Appends start known (take m line))
    (c.as_str.ensures ∙ c.ended_line.ensures)
    (front_of_a_line c.as_str.result.now start known c.write_text-all.result c.write_text-all.ensures.all
    c.write_text-all.ensures.some)
