use Rattle.serde_json.specs.Data.{string}
use Rattle.fb_encode.proofs.excerpts.NotedOrRefused.{if_found_then}
use Rattle.fb_encode.proofs.excerpts.note_at_once.Goals as goal

pub returns-in-Some-clause-noted : goal.returns-in-Some-clause-noted
returns-in-Some-clause-noted c =
    if_found_then c.note_string.result _ _ (λ r found. (
      string c.in-Some.text.now,
      (rw c.in-Some.is at c.in_ok-text.ensures) c.args.excerpt.brackets,
      found,
    )) c.note_string.ensures.noted
