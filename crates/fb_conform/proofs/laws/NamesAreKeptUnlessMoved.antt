-- Names are kept exactly where none is moved.
use Rattle.std.proofs.Common.{◌≡◌, ◌==◌, Bool, true, false, refl, sym, ◌∙◌}
use Rattle.std.proofs.lemmas.Bool.Decides.{Decides-eqb}
use Rattle.fb_layout.specs.Laid.{LaidSchema}
use Rattle.fb_conform.specs.declared.names.MovedName.{MovedName}
use Rattle.fb_conform.specs.Names.{KeepsNames, IsMoved}
use Rattle.fb_conform.specs.Laws.{KeptUnlessMoved}

module _ (A B : LaidSchema) where
  none_moved : KeepsNames A B → (m : MovedName) → IsMoved A B m → ⊥
  none_moved keeps m moved =
      moved.moved (keeps m.type_id.0 moved.type m.slot moved.slot moved.name moved.twins moved.old moved.new)

  kept : ((m : MovedName) → IsMoved A B m → ⊥) → KeepsNames A B
  kept none t u k j name twins old new = by (j == k) refl
    where
      by : (c : Bool) → (j == k) ≡ c → j ≡ k
      by true test = (Decides-eqb j k).0 test
      by false test = absurd (none (record { type_id = record { 0 = t }; slot = k }) (record {
        name = name;
        type = u;
        slot = j;
        twins = twins;
        old = old;
        new = new;
        moved = λ same. let bad : false ≡ true = sym test ∙ (Decides-eqb j k).1 same in cc;
      }))

pub kept_unless_moved : KeptUnlessMoved
kept_unless_moved A B = (none_moved A B, kept A B)
