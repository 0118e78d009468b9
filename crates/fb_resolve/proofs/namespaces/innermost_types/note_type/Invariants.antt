use Rattle.std.proofs.Common.{◌+◌, [], ℕ, length, get_or, Option, None, Some}
use Rattle.fb_resolve.specs.PathTree.{paths}
use Rattle.fb_resolve.specs.NamedTypes.{type_at, HasRoom}
use Rattle.fb_resolve.proofs.namespaces.innermost_types.TypeIsNotedForEachUse.{Noting}
use Rattle.fb_resolve.proofs.namespaces.innermost_types.note_type.Given as goal

abbrev pub invariant-loop-next : goal.invariant-loop-next
invariant-loop-next l = record {
  room : HasRoom l.noted (length (paths l.tree)) (length (paths l.used));
  noting : Noting (paths l.tree) (paths l.used) (get_or (paths l.tree) l.full_name []) l.number
      (type_at l.initial.noted) (type_at l.noted) l.next;
}

abbrev pub left : Option (ℕ × ℕ) → ℕ
left None = 0
left (Some x) = x.0 + 1

abbrev pub decreases-loop-next : goal.decreases-loop-next
decreases-loop-next l = left l.next
