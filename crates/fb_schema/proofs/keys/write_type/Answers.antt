use Rattle.std.proofs.Common.{◌≡◌, List, refl, ◌∙◌}
use Rattle.fb_index.specs.declared.hash_key.KeyDigest.{KeyDigest}
use Rattle.fb_schema.specs.Schema.{Name}
use Rattle.fb_schema.specs.Keys.{with_name, with_names}
use Rattle.fb_schema.proofs.InnerNames.{table_names}
use Rattle.fb_schema.proofs.keys.write_type.Goals as goal

digested : (old first new : KeyDigest) (name full : Name) (ms ns : List Name) → name ≡ full
    → first ≡ with_name old name → new ≡ with_names first ns → ms ≡ ns → new ≡ with_names (with_name old full) ms
digested old first new name full ms ns same led more names = more ∙ rw (led, same, names) refl

pub returns-in-Table : goal.returns-in-Table
returns-in-Table c =
    digested _ _ _ _ _ _ _ c.as_str.ensures.value c.write_name.ensures c.write_names.ensures
    (table_names _ _ _ c.as_slice.ensures.value c.in-Table.is)
