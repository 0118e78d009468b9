use Rattle.std.proofs.Common.{◌≡◌, ℕ, List, inl, inr, OnOk, Result}
use Rattle.std.specs.declared.alloc.AllocError.{AllocError}
use Rattle.fb_index.specs.declared.hash_key.HashKey.{HashKey}
use Rattle.fb_schema.specs.Schema.{Name}
use Rattle.fb_schema.specs.Indexed.{AreAt}
use Rattle.fb_schema.proofs.InnerNames.{table_names, struct_names, enum_names, union_names}
use Rattle.fb_schema.proofs.name_index.push_inner_names.Goals as goal

same : (r : Result (Unit {0}) AllocError) (keys : List ℕ) (key : HashKey) (first : ℕ) (ms ns : List Name) → ms ≡ ns
    → OnOk r (AreAt keys key first ns) → OnOk r (AreAt keys key first ms)
same r keys key first ms ns e h = rw e h

pub returns-in-Table-clause-at : goal.returns-in-Table-clause-at
returns-in-Table-clause-at c =
    let value = c.as_slice-in-Table.ensures.value in
    same _ _ _ _ _ _
    (elim c.in-Table.is [
      | inl is ↦ table_names _ _ _ value is
      | inr is ↦ struct_names _ _ _ value is.1
    ]) c.push_names-in-Table.ensures.at

pub returns-in-Enum-clause-at : goal.returns-in-Enum-clause-at
returns-in-Enum-clause-at c =
    same _ _ _ _ _ _ (enum_names _ _ _ c.as_slice.ensures.value c.in-Enum.is) c.push_names.ensures.at

pub returns-in-Union-clause-at : goal.returns-in-Union-clause-at
returns-in-Union-clause-at c =
    same _ _ _ _ _ _ (union_names _ _ _ c.as_slice-in-Union.ensures.value c.in-Union.is)
    c.push_names-in-Union.ensures.at
