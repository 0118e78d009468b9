-- The first fault of a text is a refusal.
use Rattle.std.proofs.Common.{ℕ, List, Bool}
use Rattle.serde_json.specs.Data.{Data}
use Rattle.fb_layout.specs.Laid.{LaidSchema}
use Rattle.fb_value.specs.Bounds.{Bounds}
use Rattle.fb_json.specs.Laws.{FirstFaultRefuses}
use Rattle.fb_json.specs.Outcome.{Fails}
use Rattle.fb_json.specs.Refuses.{root_meant}
use Rattle.fb_json.specs.declared.faults.JsonFault.{JsonFault}
use Rattle.fb_json.specs.declared.faults.JsonFault.TheVariants.{WrongShape, NotWhole, OutOfRange, UnknownName}
use Rattle.fb_json.specs.declared.faults.JsonFault.TheVariants.{UnknownMember, MissingMember, MissingRequired}
use Rattle.fb_json.specs.declared.faults.JsonFault.TheVariants.{UnionMismatch, TooDeep, TooManyCells, Memory}
use Rattle.fb_encode.specs.TextsEncoded.{IsJsonOf, IsUnread, first_fault}
use Rattle.fb_encode.proofs.trees.RefusalsComeInOrder.{breaks}

module _ (L : LaidSchema) (most : Bounds) (unknown : Bool) (json : List ℕ) (t : Data) (is : IsJsonOf json t)
    (law : FirstFaultRefuses) where
  pub text_refused : (f : JsonFault) → Fails f (root_meant L most unknown t)
      → IsUnread L most unknown json (first_fault f)
  text_refused Memory h prefixed = tt
  text_refused (WrongShape at) h prefixed = (t, is, breaks L most unknown t law _ h)
  text_refused (NotWhole at) h prefixed = (t, is, breaks L most unknown t law _ h)
  text_refused (OutOfRange at) h prefixed = (t, is, breaks L most unknown t law _ h)
  text_refused (UnknownName at) h prefixed = (t, is, breaks L most unknown t law _ h)
  text_refused (UnknownMember at) h prefixed = (t, is, breaks L most unknown t law _ h)
  text_refused (MissingMember at) h prefixed = (t, is, breaks L most unknown t law _ h)
  text_refused (MissingRequired at) h prefixed = (t, is, breaks L most unknown t law _ h)
  text_refused (UnionMismatch at) h prefixed = (t, is, breaks L most unknown t law _ h)
  text_refused (TooDeep at) h prefixed = (t, is, breaks L most unknown t law _ h)
  text_refused (TooManyCells at) h prefixed = (t, is, breaks L most unknown t law _ h)
