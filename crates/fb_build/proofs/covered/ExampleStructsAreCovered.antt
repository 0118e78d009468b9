-- Worked buffers with structs that are covered.
use Rattle.std.specs.Prelude.{◌++◌, [], ◌∷◌, replicate, refl}
use Rattle.std.proofs.Common.{lit≤, inl, inr}
use Rattle.fb_value.specs.Num.{num}
use Rattle.fb_value.specs.Places.{slot_number, named_slots}
use Rattle.fb_value.specs.ExampleLayouts.{one_struct, wide_structs, bools_everywhere}
use Rattle.fb_value.specs.ExampleStructs.{struct_bytes, struct_inline, struct_held, wide_bytes, wide, wide_held}
use Rattle.fb_value.specs.ExampleBools.{bools_bytes, bools, bools_held}
use Rattle.fb_build.specs.Stored.{stored_from}
use Rattle.fb_tape.specs.Taken.{are_zero_unless}
use Rattle.fb_build.specs.Pieces.{whole_header, whole_part, whole_vtable, each_once}
use Rattle.fb_build.specs.Covered.{piece_chunk, zeros_chunk, Covered, EndsAligned}
use Rattle.fb_build.proofs.covered.TestsTellWhatIsCovered.{one_vtable, table_padded, table_coded, struct_padded}

-- A struct in its table, with zeros behind its first and its last field.
pub struct_covered : Covered one_struct struct_bytes
unfolding num slot_number named_slots stored_from each_once are_zero_unless
struct_covered = (
  struct_inline,
  struct_held.lies,
  record {
    made = record {
      chunks =
          piece_chunk whole_header (0x0c ∷ 0 ∷ 0 ∷ 0 ∷ []) ∷ zeros_chunk 2
          ∷ piece_chunk whole_vtable (6 ∷ 0 ∷ 0x1c ∷ 0 ∷ 4 ∷ 0 ∷ [])
          ∷ piece_chunk whole_part (6 ∷ 0 ∷ 0 ∷ 0 ∷ 1 ∷ 0 ∷ 0 ∷ 0 ∷ 0 ∷ 0 ∷ 0 ∷ 0 ∷ 2 ∷ 0 ∷ 0 ∷ 0 ∷ 0 ∷ 0 ∷ 0 ∷ 0 ∷ 3
          ∷ 0 ∷ 0 ∷ 0 ∷ 0 ∷ 0 ∷ 0 ∷ 0 ∷ []) ∷ [];
      joined = refl;
      pieces = record { moves = (1, 2) ∷ []; below = (lit≤ tt, lit≤ tt, tt); is = refl };
      runs = (lit≤ tt, refl, tt);
    };
    shared = one_vtable struct_bytes 6;
    tables = (
      record {
        size = refl;
        trimmed = inr (lit≤ tt);
        padded = table_padded one_struct struct_bytes 1 12 refl;
        coded = table_coded one_struct struct_bytes 1 12 refl;
        defaults = (λ n is e. cc, tt);
        own = (lit≤ tt, lit≤ tt, tt, tt);
        bits = (tt, tt);
      },
      (tt, tt),
    );
    inline = ((struct_padded one_struct struct_bytes 0 16 refl, (tt, (tt, (tt, tt)))), tt);
  },
)

-- Elements that are aligned to 16: longer runs of zeros, each below 16.
pub wide_covered : Covered wide_structs wide_bytes
unfolding num slot_number named_slots stored_from each_once are_zero_unless
wide_covered = (
  wide,
  wide_held.lies,
  record {
    made = record {
      chunks =
          piece_chunk whole_header (0x1c ∷ 0 ∷ 0 ∷ 0 ∷ [])
          ∷ zeros_chunk 14
          ∷ piece_chunk whole_vtable (0x0a ∷ 0 ∷ 0x10 ∷ 0 ∷ 0x0c ∷ 0 ∷ 8 ∷ 0 ∷ 4 ∷ 0 ∷ [])
          ∷ piece_chunk whole_part (0x0a ∷ 0 ∷ 0 ∷ 0 ∷ 5 ∷ 0 ∷ 0 ∷ 0 ∷ 8 ∷ 0 ∷ 0 ∷ 0 ∷ 0x30 ∷ 0 ∷ 0 ∷ 0 ∷ [])
          ∷ piece_chunk whole_part (2 ∷ 0 ∷ 0 ∷ 0 ∷ 1 ∷ replicate 15 0 ++ 2 ∷ replicate 15 0)
          ∷ zeros_chunk 8
          ∷ piece_chunk whole_part (2 ∷ 0 ∷ 0 ∷ 0 ∷ 0x68 ∷ 0x69 ∷ 0 ∷ [])
          ∷ zeros_chunk 1
          ∷ [];
      joined = refl;
      pieces = record { moves = (1, 2) ∷ (1, 4) ∷ []; below = (lit≤ tt, lit≤ tt, (lit≤ tt, lit≤ tt, tt)); is = refl };
      runs = (lit≤ tt, refl, (lit≤ tt, refl, (lit≤ tt, refl, tt)));
    };
    shared = one_vtable wide_bytes 18;
    tables = (
      record {
        size = refl;
        trimmed = inr (lit≤ tt);
        padded = table_padded wide_structs wide_bytes 1 28 refl;
        coded = table_coded wide_structs wide_bytes 1 28 refl;
        defaults = (λ n is e. cc, (λ n is e. cc, (λ n is e. cc, tt)));
        own = (
          lit≤ tt,
          lit≤ tt,
          (inr (lit≤ tt), (inr (lit≤ tt), tt)),
          (lit≤ tt, lit≤ tt, (inr (lit≤ tt), tt), (lit≤ tt, lit≤ tt, tt, tt)),
        );
        bits = (tt, (tt, (tt, tt)));
      },
      (tt, ((tt, (tt, tt)), (tt, tt))),
    );
    inline = (
      tt,
      (
        (
          (struct_padded wide_structs wide_bytes 0 48 refl, (tt, tt)),
          ((struct_padded wide_structs wide_bytes 0 64 refl, (tt, tt)), tt),
        ),
        (tt, tt),
      ),
    );
  },
)

-- Bools in a struct of a struct, in a vector of such structs and in a vector.
pub bools_covered : Covered bools_everywhere bools_bytes
unfolding num slot_number named_slots stored_from each_once are_zero_unless
bools_covered = (
  bools,
  bools_held.lies,
  record {
    made = record {
      chunks =
          piece_chunk whole_header (0x10 ∷ 0 ∷ 0 ∷ 0 ∷ [])
          ∷ zeros_chunk 2
          ∷ piece_chunk whole_vtable (0x0a ∷ 0 ∷ 0x10 ∷ 0 ∷ 4 ∷ 0 ∷ 0x0c ∷ 0 ∷ 8 ∷ 0 ∷ [])
          ∷ piece_chunk whole_part (0x0a ∷ 0 ∷ 0 ∷ 0 ∷ 5 ∷ 0 ∷ 1 ∷ 0 ∷ 8 ∷ 0 ∷ 0 ∷ 0 ∷ 0x0c ∷ 0 ∷ 0 ∷ 0 ∷ [])
          ∷ piece_chunk whole_part (3 ∷ 0 ∷ 0 ∷ 0 ∷ 1 ∷ 0 ∷ 1 ∷ [])
          ∷ zeros_chunk 1
          ∷ piece_chunk whole_part (2 ∷ 0 ∷ 0 ∷ 0 ∷ 6 ∷ 0 ∷ 1 ∷ 0 ∷ 7 ∷ 0 ∷ 0 ∷ 0 ∷ [])
          ∷ [];
      joined = refl;
      pieces = record { moves = (1, 2) ∷ (1, 4) ∷ []; below = (lit≤ tt, lit≤ tt, (lit≤ tt, lit≤ tt, tt)); is = refl };
      runs = (lit≤ tt, refl, (lit≤ tt, refl, tt));
    };
    shared = one_vtable bools_bytes 6;
    tables = (
      record {
        size = refl;
        trimmed = inr (lit≤ tt);
        padded = table_padded bools_everywhere bools_bytes 2 16 refl;
        coded = table_coded bools_everywhere bools_bytes 2 16 refl;
        defaults = (λ n is e. cc, (λ n is e. cc, (λ n is e. cc, tt)));
        own = (
          lit≤ tt,
          lit≤ tt,
          (inl (lit≤ tt), (inl (lit≤ tt), tt)),
          (lit≤ tt, lit≤ tt, (inr (lit≤ tt), tt), (lit≤ tt, lit≤ tt, tt, tt)),
        );
        bits = (tt, (tt, (tt, tt)));
      },
      (tt, ((tt, (tt, tt)), ((tt, (tt, (tt, tt))), tt))),
    );
    inline = (
      (
        struct_padded bools_everywhere bools_bytes 1 20 refl,
        (tt, ((struct_padded bools_everywhere bools_bytes 0 22 refl, (lit≤ tt, tt)), tt)),
      ),
      (
        (
          (
            struct_padded bools_everywhere bools_bytes 1 44 refl,
            (tt, ((struct_padded bools_everywhere bools_bytes 0 46 refl, (lit≤ tt, tt)), tt)),
          ),
          (
            (
              struct_padded bools_everywhere bools_bytes 1 48 refl,
              (tt, ((struct_padded bools_everywhere bools_bytes 0 50 refl, (lit≤ tt, tt)), tt)),
            ),
            tt,
          ),
        ),
        ((lit≤ tt, (lit≤ tt, (lit≤ tt, tt))), tt),
      ),
    );
  },
)

-- A struct aligned to 8 makes the length a multiple of 8.
pub struct_aligned : EndsAligned one_struct struct_bytes
unfolding num slot_number named_slots stored_from
struct_aligned = (struct_inline, struct_held.lies, refl)

-- Elements aligned to 16 make it a multiple of 16.
pub wide_aligned : EndsAligned wide_structs wide_bytes
unfolding num slot_number named_slots stored_from
wide_aligned = (wide, wide_held.lies, refl)
