use Rattle.std.proofs.Common.{◌≡◌, ◌<◌, ◌≤◌, ◌++◌, ◌∙◌, ℕ, List, length, replicate, take, drop, arith, refl, sym, ap}
use Rattle.std.proofs.lemmas.List.{drop-replicate, length-take, take_all}
use Rattle.flatc_c.specs.Faults.{name_field}
use Rattle.flatc_c.proofs.faults.padded.Goals as goal
use Rattle.flatc_c.proofs.faults.padded.Goals.{then-text-lt32, else-text-lt32}

-- a text's front copied to the front of 32 zeros
copied : (text front : List ℕ) (shown : ℕ) → shown ≡ length (take 31 text) → front ≡ take 31 text
    → front ++ drop shown (replicate 32 0) ≡ name_field text
copied text front shown is_length is_front =
    rw (is_front, is_length, drop-replicate {X = ℕ} (length (take 31 text)) 32 0) refl

whole : (text : List ℕ) → length text < 32 → take 31 text ≡ text
whole text short = take_all 31 text (omega arith)

pub returns : goal.returns
returns c =
    let text = c.args.name.now in
    let bytes = c.as_bytes-text.ensures.value in
    let front : c.copy_from_slice.new.self ≡ take c.if-text-lt32.shown text
    = rw bytes at c.copy_from_slice.ensures.after in
    elim c.if-text-lt32.branch [
      | then-text-lt32 w ↦
          let shown : c.if-text-lt32.shown ≡ length text = rw bytes at w.shown-is in
          let short : length text < 32 = rw bytes at w.if-text-lt32.true in
          copied text c.copy_from_slice.new.self c.if-text-lt32.shown (shown ∙ ap length (sym (whole text short)))
          (front ∙ rw shown (take_all (length text) text (omega arith) ∙ sym (whole text short)))
      | else-text-lt32 w ↦
          let long : 32 ≤ length text = rw bytes at w.if-text-lt32.false in
          copied text c.copy_from_slice.new.self c.if-text-lt32.shown (omega (arith, length-take 31 text, w.shown-is))
          (front ∙ rw w.shown-is refl)
    ]
