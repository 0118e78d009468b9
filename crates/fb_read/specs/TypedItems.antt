-- Vectors whose elements are all numbers, or all texts.
use Rattle.std.specs.Prelude.{ℕ, ℤ, ◌+◌, ◌*◌, ◌<◌, ◌≡◌, List, Option, None, Some}
use Rattle.fb_schema.specs.Alignments.{base_size}
use Rattle.fb_value.specs.Datum.{a_number, a_text, Parts, count}
use Rattle.fb_value.specs.Nth.{nth_part}
use Rattle.fb_value.specs.Num.{num, scalar_of}
use Rattle.fb_read.specs.Stored.{text_behind}
use Rattle.fb_read.specs.Views.{number_in, text_in}
use Rattle.fb_read.specs.declared.typed_items.NumberItems.{NumberItems}
use Rattle.fb_read.specs.declared.typed_items.TextItems.{TextItems}

-- the number in the bytes of element i
abbrev pub nth_number : NumberItems → ℕ → ℤ
nth_number items i =
    scalar_of items.base (num items.bytes.now (items.at + i * base_size items.base) (base_size items.base))

-- the elements are these numbers
pub record AreNumbers (items : NumberItems) (ds : Parts) : Type 0 where
  pub count : count ds ≡ items.len
  pub each : (i : ℕ) → i < items.len → nth_part ds i ≡ Some (a_number (nth_number items i))

-- the same where they are numbers; otherwise none of them is one
abbrev pub ShowsNumbers : Option NumberItems → Parts → Type 0
ShowsNumbers None ds = (i : ℕ) → i < count ds → None ≡ number_in (nth_part ds i)
ShowsNumbers (Some items) ds = AreNumbers items ds

-- the text behind the reference that element i is
abbrev pub nth_text : TextItems → ℕ → List ℕ
nth_text items i = text_behind items.bytes.now (items.at + i * 4)

-- the elements are these texts
pub record AreTexts (items : TextItems) (ds : Parts) : Type 0 where
  pub count : count ds ≡ items.len
  pub each : (i : ℕ) → i < items.len → nth_part ds i ≡ Some (a_text (nth_text items i))

-- the same where they are texts; otherwise none of them is one
abbrev pub ShowsTexts : Option TextItems → Parts → Type 0
ShowsTexts None ds = (i : ℕ) → i < count ds → None ≡ text_in (nth_part ds i)
ShowsTexts (Some items) ds = AreTexts items ds
