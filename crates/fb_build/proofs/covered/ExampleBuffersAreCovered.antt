-- Worked buffers that are covered.
use Rattle.std.specs.Prelude.{[], ◌∷◌, pos, refl}
use Rattle.std.proofs.Common.{lit≤, inl, inr}
use Rattle.fb_value.specs.Num.{num}
use Rattle.fb_value.specs.Places.{slot_number, named_slots}
use Rattle.fb_value.specs.Rules.{first_failing, fault_by}
use Rattle.fb_value.specs.Lies.{LiesAt}
use Rattle.fb_value.specs.Holds.{root_place}
use Rattle.fb_value.specs.ExampleLayouts.{one_int, identified_int, table_vector, two_members}
use Rattle.fb_value.specs.ExampleTables.{seven_bytes, one_number, seven_held}
use Rattle.fb_value.specs.ExampleIdentifier.{test_bytes, identified_held}
use Rattle.fb_value.specs.ExampleVectors.{pair_bytes, pair, pair_held}
use Rattle.fb_value.specs.ExampleUnions.{member_bytes, second_member, member_held}
use Rattle.fb_build.specs.Stored.{stored_from}
use Rattle.fb_tape.specs.Taken.{are_zero_unless}
use Rattle.fb_build.specs.Pieces.{whole_header, whole_part, whole_vtable, each_once}
use Rattle.fb_build.specs.Covered.{piece_chunk, zeros_chunk, Covered, EndsAligned}
use Rattle.fb_build.specs.ExampleBuffersAreCovered.{empty_bytes}
use Rattle.fb_build.proofs.covered.TestsTellWhatIsCovered.{one_vtable, three_tables, two_vtables, table_padded}
use Rattle.fb_build.proofs.covered.TestsTellWhatIsCovered.{table_coded}

-- A table of one number: two zeros stand between the header and the vtable.
pub seven_covered : Covered one_int seven_bytes
unfolding num slot_number named_slots stored_from each_once are_zero_unless
seven_covered = (
  one_number 7,
  seven_held.lies,
  record {
    made = record {
      chunks =
          piece_chunk whole_header (0x0c ∷ 0 ∷ 0 ∷ 0 ∷ []) ∷ zeros_chunk 2
          ∷ piece_chunk whole_vtable (6 ∷ 0 ∷ 8 ∷ 0 ∷ 4 ∷ 0 ∷ [])
          ∷ piece_chunk whole_part (6 ∷ 0 ∷ 0 ∷ 0 ∷ 7 ∷ 0 ∷ 0 ∷ 0 ∷ []) ∷ [];
      joined = refl;
      pieces = record { moves = (1, 2) ∷ []; below = (lit≤ tt, lit≤ tt, tt); is = refl };
      runs = (lit≤ tt, refl, tt);
    };
    shared = one_vtable seven_bytes 6;
    tables = (
      record {
        size = refl;
        trimmed = inr (lit≤ tt);
        padded = table_padded one_int seven_bytes 0 12 refl;
        coded = table_coded one_int seven_bytes 0 12 refl;
        defaults = (λ n is e. cc, tt);
        own = (lit≤ tt, lit≤ tt, tt, tt);
        bits = (tt, tt);
      },
      (tt, tt),
    );
    inline = (tt, tt);
  },
)

-- The default is there.
empty_lies : LiesAt one_int empty_bytes (root_place one_int).sort 0 (one_number 0)
unfolding num slot_number named_slots first_failing fault_by
empty_lies = (refl, (refl, refl, ((pos 0, refl, refl), tt)))

-- A table that stores nothing: all bytes are pieces.
pub empty_covered : Covered one_int empty_bytes
unfolding num slot_number named_slots stored_from each_once are_zero_unless
empty_covered = (
  one_number 0,
  empty_lies,
  record {
    made = record {
      chunks = piece_chunk whole_header (8 ∷ 0 ∷ 0 ∷ 0 ∷ []) ∷ piece_chunk whole_vtable (4 ∷ 0 ∷ 4 ∷ 0 ∷ [])
          ∷ piece_chunk whole_part (4 ∷ 0 ∷ 0 ∷ 0 ∷ []) ∷ [];
      joined = refl;
      pieces = record { moves = (1, 2) ∷ []; below = (lit≤ tt, lit≤ tt, tt); is = refl };
      runs = tt;
    };
    shared = one_vtable empty_bytes 4;
    tables = (
      record {
        size = refl;
        trimmed = inl refl;
        padded = table_padded one_int empty_bytes 0 8 refl;
        coded = table_coded one_int empty_bytes 0 8 refl;
        defaults = tt;
        own = tt;
        bits = tt;
      },
      (tt, tt),
    );
    inline = (tt, tt);
  },
)

-- With an identifier the header has eight bytes.
pub identified_covered : Covered identified_int test_bytes
unfolding num slot_number named_slots stored_from each_once are_zero_unless
identified_covered = (
  one_number 0,
  identified_held.lies,
  record {
    made = record {
      chunks =
          piece_chunk whole_header (0x0c ∷ 0 ∷ 0 ∷ 0 ∷ 0x54 ∷ 0x45 ∷ 0x53 ∷ 0x54 ∷ [])
          ∷ piece_chunk whole_vtable (4 ∷ 0 ∷ 4 ∷ 0 ∷ [])
          ∷ piece_chunk whole_part (4 ∷ 0 ∷ 0 ∷ 0 ∷ []) ∷ [];
      joined = refl;
      pieces = record { moves = (1, 2) ∷ []; below = (lit≤ tt, lit≤ tt, tt); is = refl };
      runs = tt;
    };
    shared = one_vtable test_bytes 8;
    tables = (
      record {
        size = refl;
        trimmed = inl refl;
        padded = table_padded identified_int test_bytes 0 12 refl;
        coded = table_coded identified_int test_bytes 0 12 refl;
        defaults = tt;
        own = tt;
        bits = tt;
      },
      (tt, tt),
    );
    inline = (tt, tt);
  },
)

-- Three tables of two types and a vector: one vtable, once, serves all.
pub pair_covered : Covered table_vector pair_bytes
unfolding num slot_number named_slots stored_from each_once are_zero_unless
pair_covered = (
  pair,
  pair_held.lies,
  record {
    made = record {
      chunks =
          piece_chunk whole_header (4 ∷ 0 ∷ 0 ∷ 0 ∷ [])
          ∷ piece_chunk whole_part (0xe2 ∷ 0xff ∷ 0xff ∷ 0xff ∷ 4 ∷ 0 ∷ 0 ∷ 0 ∷ [])
          ∷ piece_chunk whole_part (2 ∷ 0 ∷ 0 ∷ 0 ∷ 0x18 ∷ 0 ∷ 0 ∷ 0 ∷ 4 ∷ 0 ∷ 0 ∷ 0 ∷ [])
          ∷ piece_chunk whole_part (0xf6 ∷ 0xff ∷ 0xff ∷ 0xff ∷ 2 ∷ 0 ∷ 0 ∷ 0 ∷ [])
          ∷ zeros_chunk 2
          ∷ piece_chunk whole_vtable (6 ∷ 0 ∷ 8 ∷ 0 ∷ 4 ∷ 0 ∷ [])
          ∷ piece_chunk whole_part (6 ∷ 0 ∷ 0 ∷ 0 ∷ 1 ∷ 0 ∷ 0 ∷ 0 ∷ [])
          ∷ [];
      joined = refl;
      pieces = record { moves = (4, 5) ∷ (3, 5) ∷ []; below = (lit≤ tt, lit≤ tt, (lit≤ tt, lit≤ tt, tt)); is = refl };
      runs = (lit≤ tt, refl, tt);
    };
    shared = three_tables pair_bytes 34;
    tables = (
      record {
        size = refl;
        trimmed = inr (lit≤ tt);
        padded = table_padded table_vector pair_bytes 1 4 refl;
        coded = table_coded table_vector pair_bytes 1 4 refl;
        defaults = (λ n is e. cc, tt);
        own = (lit≤ tt, lit≤ tt, tt, tt);
        bits = (tt, tt);
      },
      (
        (
          (
            record {
              size = refl;
              trimmed = inr (lit≤ tt);
              padded = table_padded table_vector pair_bytes 0 40 refl;
              coded = table_coded table_vector pair_bytes 0 40 refl;
              defaults = (λ n is e. cc, tt);
              own = (lit≤ tt, lit≤ tt, tt, tt);
              bits = (tt, tt);
            },
            (tt, tt),
          ),
          (
            (
              record {
                size = refl;
                trimmed = inr (lit≤ tt);
                padded = table_padded table_vector pair_bytes 0 24 refl;
                coded = table_coded table_vector pair_bytes 0 24 refl;
                defaults = (λ n is e. cc, tt);
                own = (lit≤ tt, lit≤ tt, tt, tt);
                bits = (tt, tt);
              },
              (tt, tt),
            ),
            tt,
          ),
        ),
        tt,
      ),
    );
    inline = (((tt, tt), ((tt, tt), tt)), tt);
  },
)

-- A union's member behind its code: two vtables, three zeros in the root's padding.
pub member_covered : Covered two_members member_bytes
unfolding num slot_number named_slots stored_from each_once are_zero_unless
member_covered = (
  second_member,
  member_held.lies,
  record {
    made = record {
      chunks =
          piece_chunk whole_header (0x0c ∷ 0 ∷ 0 ∷ 0 ∷ [])
          ∷ piece_chunk whole_vtable (8 ∷ 0 ∷ 0x0c ∷ 0 ∷ 7 ∷ 0 ∷ 8 ∷ 0 ∷ [])
          ∷ piece_chunk whole_part (8 ∷ 0 ∷ 0 ∷ 0 ∷ 0 ∷ 0 ∷ 0 ∷ 2 ∷ 8 ∷ 0 ∷ 0 ∷ 0 ∷ [])
          ∷ piece_chunk whole_vtable (4 ∷ 0 ∷ 4 ∷ 0 ∷ []) ∷ piece_chunk whole_part (4 ∷ 0 ∷ 0 ∷ 0 ∷ []) ∷ [];
      joined = refl;
      pieces = record {
        moves = (3, 4) ∷ (2, 4) ∷ (1, 2) ∷ [];
        below = (lit≤ tt, lit≤ tt, (lit≤ tt, lit≤ tt, (lit≤ tt, lit≤ tt, tt)));
        is = refl;
      };
      runs = tt;
    };
    shared = two_vtables member_bytes 4 24 (λ e. cc);
    tables = (
      record {
        size = refl;
        trimmed = inr (lit≤ tt);
        padded = table_padded two_members member_bytes 3 12 refl;
        coded = table_coded two_members member_bytes 3 12 refl;
        defaults = (λ n is e. cc, (λ n is e. cc, tt));
        own = (lit≤ tt, lit≤ tt, (inl (lit≤ tt), tt), (lit≤ tt, lit≤ tt, tt, tt));
        bits = (tt, (tt, tt));
      },
      (
        (
          record {
            size = refl;
            trimmed = inl refl;
            padded = table_padded two_members member_bytes 1 28 refl;
            coded = table_coded two_members member_bytes 1 28 refl;
            defaults = tt;
            own = tt;
            bits = tt;
          },
          tt,
        ),
        tt,
      ),
    );
    inline = (tt, tt);
  },
)

-- A table of one `int` ends at a multiple of 4.
pub seven_aligned : EndsAligned one_int seven_bytes
unfolding num slot_number named_slots stored_from
seven_aligned = (one_number 7, seven_held.lies, refl)
