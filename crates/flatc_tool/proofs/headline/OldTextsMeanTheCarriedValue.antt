-- What JSON texts of an old schema text are under a new one that keeps its names.
use Rattle.std.proofs.Common.{ℕ, List, subst}
use Rattle.fb_layout.specs.Laid.{LaidSchema}
use Rattle.fb_conform.specs.Conforms.{Conforms}
use Rattle.fb_conform.specs.Names.{KeepsNames}
use Rattle.flatc_tool.specs.LayerLaws.{LayerLaws}
use Rattle.fb_declare.specs.SchemaTexts.{IsAccepted}
use Rattle.flatc_tool.specs.Evolution.{TextsKeepNames}
use Rattle.flatc_tool.specs.Names.{OldTextsAreRead, OldTextsAreCarried}
use Rattle.flatc_tool.proofs.buffers.RefusalExcludesABuffer.{same_tree}

-- the layouts of texts that keep names
pub kept_at : (laws : LayerLaws) (old new : List ℕ) (A B : LaidSchema) → IsAccepted old A → IsAccepted new B
    → TextsKeepNames old new → Conforms A B × KeepsNames A B
kept_at laws old new A B was is texts =
    let one = subst (λ (L : LaidSchema). Conforms L texts.1 × KeepsNames L texts.1)
    (laws.one_layout old texts.0 A texts.2 was) (texts.4, texts.5) in
    rw (← (laws.one_layout new texts.1 B texts.3 is)) one

pub old_texts_are_read_shown : LayerLaws → OldTextsAreRead
old_texts_are_read_shown laws old new json most texts A B was is t tree v means stay =
    let both = kept_at laws old new A B was is texts in
    (t, tree, laws.names_carry A B most t v was.made is.made both.0 both.1 stay means)

pub old_texts_are_carried_shown : LayerLaws → OldTextsAreCarried
old_texts_are_carried_shown laws prefixed old new json most b made texts A B was is v means raw =
    let both = kept_at laws old new A B was is texts in
    let here = rw (laws.one_layout new made.layout B made.accepted is) at made.has in
    let tree = same_tree json here.means.0 means.0 here.means.1 means.1 in
    let under = rw tree at here.means.2 in
    let one = laws.means_carried A B most means.0 v here.value was.made is.made both.0 both.1 means.2 under in
    rw (← one) (here.holds raw)
