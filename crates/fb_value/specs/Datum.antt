-- What a value is for contracts, whatever memory it lies in.
-- From the FlatBuffers documentation, "Writing a schema": a table has one entry a slot, a union's value its member's
-- code.
use Rattle.std.specs.Prelude.{ℕ, suc, ℤ, List}

mutual
  pub data Datum : Type 0 where
    a_number : ℤ → Datum
    a_text : List ℕ → Datum
    a_vector : Parts → Datum
    a_struct : Parts → Datum
    -- a table of the type of a number
    a_table : ℕ → SlotEntries → Datum
    -- a union's member, under its code
    a_member : ℕ → Datum → Datum
    -- a union's code that no member has
    an_unknown : ℕ → Datum

  -- the elements of a vector, or the fields of a struct
  pub data Parts : Type 0 where
    no_parts : Parts
    more_parts : Datum → Parts → Parts

  -- the entries of a table, one a slot
  pub data SlotEntries : Type 0 where
    no_entries : SlotEntries
    absent_entry : SlotEntries → SlotEntries
    present_entry : Datum → SlotEntries → SlotEntries

abbrev pub count : Parts → ℕ
count no_parts = 0
count (more_parts d ds) = suc (count ds)
