use Rattle.std.proofs.Common.{rules, leb}
use Rattle.std.proofs.lemmas.List.Sorted.{IsPartitionPoint-from_clause, IsPartitionedBy-leb}
use Rattle.fb_findings.proofs.line_starts.PointIsLine.{line_of_point}
use Rattle.fb_findings.proofs.line_starts.LineStarts.line_of.Goals as goal

pub returns : goal.returns
returns c = record {
  line = λ text same. line_of_point text c.args.offset c.partition_point.result c.deref.result.now
      (search (rules, same)) c.partition_point.ensures.bound
      (λ rising. IsPartitionPoint-from_clause (λ start. leb start c.args.offset) c.deref.result.now
      c.partition_point.result
      c.partition_point.ensures.partitioned (IsPartitionedBy-leb
      (λ start. start) c.deref.result.now c.args.offset rising)
      (λ a r f' k. search rules));
}
