-- Where a breach stands, the new schema doesn't conform.
use Rattle.std.proofs.Common.{List, ℕ}
use Rattle.fb_layout.specs.Laid.{LaidSchema}
use Rattle.fb_conform.specs.declared.breaches.Breach.{Breach}
use Rattle.fb_conform.specs.Conforms.{Conforms}
use Rattle.fb_conform.specs.Order.{IsFirst}
use Rattle.flatc_tool.specs.LayerLaws.{LayerLaws}
use Rattle.fb_declare.specs.SchemaTexts.{IsAccepted}
use Rattle.flatc_tool.specs.Evolution.{TextsConform}

-- the layouts of texts that conform do so
pub conforms_at : (laws : LayerLaws) (old new : List ℕ) (A B : LaidSchema) → IsAccepted old A → IsAccepted new B
    → TextsConform old new → Conforms A B
conforms_at laws old new A B was is texts =
    let one = rw (laws.one_layout old texts.0 A texts.2 was) at texts.4 in
    rw (← (laws.one_layout new texts.1 B texts.3 is)) one

pub breach_excludes : (laws : LayerLaws) (old new : List ℕ) (A B : LaidSchema) (b : Breach) → IsAccepted old A
    → IsAccepted new B → IsFirst A B b → TextsConform old new → ⊥
breach_excludes laws old new A B b was is breach texts = breach.stands (conforms_at laws old new A B was is texts b)
