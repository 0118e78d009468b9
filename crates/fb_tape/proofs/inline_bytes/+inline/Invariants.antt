use Rattle.std.proofs.Common.{◌≡◌, length}
use Rattle.fb_tape.proofs.inline_bytes.StructFieldsAreAdded.{AddsFields}
use Rattle.fb_tape.proofs.inline_bytes.+inline.Given as goal

abbrev pub invariant-push_struct-loop-k : goal.invariant-push_struct-loop-k
invariant-push_struct-loop-k l = record {
  first : l.first ≡ length l.fn.bytes.items;
  added : AddsFields l.layout l.structure.0 l.k l.parts l.fn.bytes.items l.bytes.items;
}
