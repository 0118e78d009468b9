-- A text that is counted without a tree is read, and has as many elements.
use Rattle.std.proofs.Common.{◌≡◌, ◌<◌, ◌∙◌, ℕ, suc, List, [], refl, ap, arith}
use Rattle.serde_json.specs.Data.{Items, array, no_items, item}
use Rattle.fb_json.specs.Meant.{count}
use Rattle.fb_pieces.specs.JsonTexts as pieces
use Rattle.fb_pieces.specs.JsonTexts.{IsArrayOf}
use Rattle.fb_pieces.specs.Texts.{array_text}
use Rattle.fb_encode.specs.TextsRead.{IsReadAs, IsRunReadAs}

same_count : (ds : Items) → pieces.count ds ≡ count ds
same_count no_items = refl
same_count (item d ds) = ap suc (same_count ds)

pub run_is_counted : (brackets n : ℕ) (run : List ℕ) → IsArrayOf brackets (array_text run []) n → 0 < n
    → (ds : Items) × IsRunReadAs brackets run ds × (n ≡ count ds)
run_is_counted brackets n run (no_items, read, same) some = absurd (omega (arith, same, some))
run_is_counted brackets n run (item d ds, read, same) some = (item d ds, read, same ∙ same_count (item d ds))

pub no_elements : (brackets : ℕ) (text : List ℕ) → IsArrayOf brackets text 0 → IsReadAs brackets text (array no_items)
no_elements brackets text (no_items, read, same) = read
no_elements brackets text (item d ds, read, same) = absurd (omega (arith, same))
