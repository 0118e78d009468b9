use Rattle.std.proofs.Common.{string_bytes, ◌∙◌}
use Rattle.fb_explain_records.proofs.ObjectsEnd.{ended}
use Rattle.fb_explain_records.proofs.objects.object_line.Goals as goal

pub returns : goal.returns
returns c = record {
  ends = c.in_ok-words.words.end_column;
  message = string_bytes c.in_ok-words.words.message;
  rendered = string_bytes c.in_ok-words.words.rendered;
  spelled = ended _ _ _ _ _ _ _ c.in_ok-push.ensures.items c.into_inner-line.ensures.items
      c.in_ok-put_object.ensures.before (c.new-object.ensures.before ∙ c.new.ensures.items)
      c.in_ok-put_object.ensures.added c.new-object.ensures.tokens;
}
