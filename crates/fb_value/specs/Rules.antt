-- What has to hold at each place, in order, and the fault where it doesn't.
-- From the FlatBuffers documentation, "FlatBuffer Internals" and "Verification"; a union's code and value stand
-- together.
use Rattle.std.specs.Prelude.{ℕ, suc, ◌+◌, ◌-◌, ◌*◌, ◌^◌, ◌≡◌, List, [], ◌∷◌, length, slice_index, Bool, true, false}
use Rattle.std.specs.Prelude.{not, ◌&&◌, ◌||◌, ◌==◌, nat_lt, nat_le, if◌then◌else◌, Option, None, Some, is_none}
use Rattle.std.specs.Prelude.{unwrap_or}
use Rattle.std.specs.Str.Lossy.{utf8_valid_len}
use Rattle.fb_layout.specs.Laid.{LaidSchema, Slot, union_kind, StoredShape, one_of, slots_of, size_of, align_of}
use Rattle.fb_value.specs.declared.faults.ReadFault.{ReadFault}
use Rattle.fb_value.specs.declared.faults.ReadFault.TheVariants.{Misaligned, OutOfBounds, ZeroOffset, BadVtable}
use Rattle.fb_value.specs.declared.faults.ReadFault.TheVariants.{MissingRequired, NoTerminator, BadUtf8, UnionMismatch}
use Rattle.fb_value.specs.Num.{Bytes, num, divides, part_of}
use Rattle.fb_value.specs.Places.{Target, table_part, member_part, text_part, vector_part, Sort, ref_place, part_place}
use Rattle.fb_value.specs.Places.{inline_place, code_place, unknown_place, vtable, is_present}

-- a rule: the fault where it fails, and whether it holds
abbrev pub Rule : Type 0
Rule = ReadFault × Bool

unfoldable pub first_failing : List Rule → Option ReadFault
first_failing [] = None
first_failing (r ∷ rs) = if r.1 then first_failing rs else Some r.0

-- Whether a position is a multiple of a number: the notion is a parameter, since a builder counts from the end.
abbrev pub Aligned : Type 0
Aligned = ℕ → ℕ → Bool

-- as it is counted from the buffer's start
abbrev pub from_start : Aligned
from_start a p = divides a p

-- The vtable stands inside the bytes, at an even position, and its own size is even, 4 at least, and inside too.
abbrev pub has_vtable_by : Aligned → Bytes → ℕ → Bool
has_vtable_by al b p =
    let s = num b p 4 in
    let q = vtable b p in
    let z = num b q 2 in
    not (nat_lt s (2 ^ 31) && nat_lt p s) && al 2 q && nat_le (q + 2) (length b) && divides 2 z && nat_le 4 z
    && nat_le (q + z) (length b)

abbrev pub is_union : StoredShape → Bool
is_union (one_of (union_kind u)) = true
is_union _ = false

-- A required slot is absent; of a union, its value slot or the code slot before it.
abbrev pub is_missing : Bytes → ℕ → ℕ → Slot → Bool
is_missing b p k f = f.required && (not (is_present b p k) || (is_union f.shape && not (is_present b p (k - 1))))

-- the least required slot that is absent, from slot k on
abbrev pub first_missing : Bytes → ℕ → ℕ → List Slot → Option ℕ
first_missing b p k [] = None
first_missing b p k (f ∷ fs) = if is_missing b p k f then Some k else first_missing b p (suc k) fs

abbrev pub table_rules : Aligned → LaidSchema → Bytes → ℕ → ℕ → List Rule
table_rules al L b t p =
    let missing = first_missing b p 0 (slots_of L t) in
    (Misaligned p, al 4 p) ∷ (OutOfBounds p, nat_le (p + 4) (length b)) ∷ (BadVtable p, has_vtable_by al b p)
    ∷ (MissingRequired p (unwrap_or missing 0), is_none missing) ∷ []

-- n bytes after their count, UTF-8, and a zero byte after them
abbrev pub text_rules : Aligned → Bytes → ℕ → List Rule
text_rules al b p =
    let n = num b p 4 in
    let end = (p + 4) + n in
    let valid = utf8_valid_len (part_of b (p + 4) n) in
    (Misaligned p, al 4 p) ∷ (OutOfBounds p, nat_le (p + 4) (length b) && nat_le end (length b))
    ∷ (NoTerminator end, nat_lt end (length b) && (slice_index b end == 0))
    ∷ (BadUtf8 ((p + 4) + valid), valid == n) ∷ []

-- n elements of a size and an alignment after their count
abbrev pub vector_rules : Aligned → Bytes → ℕ → ℕ → ℕ → List Rule
vector_rules al b size align p =
    let n = num b p 4 in
    let start = p + 4 in
    (Misaligned p, al 4 p && (nat_lt (length b) start || (n == 0) || al align start))
    ∷ (OutOfBounds p, nat_le start (length b) && nat_le (start + n * size) (length b)) ∷ []

abbrev pub part_rules : Aligned → LaidSchema → Bytes → Target → ℕ → List Rule
part_rules al L b (table_part t) p = table_rules al L b t p
part_rules al L b (member_part c t) p = table_rules al L b t p
part_rules al L b text_part p = text_rules al b p
part_rules al L b (vector_part kind) p = vector_rules al b (size_of L kind) (align_of L kind) p

-- The rules at a place, in their order.
abbrev pub rules_by : Aligned → LaidSchema → Bytes → Sort → ℕ → List Rule
rules_by al L b (ref_place X) p =
    (Misaligned p, al 4 p) ∷ (OutOfBounds p, nat_le (p + 4) (length b)) ∷ (ZeroOffset p, nat_lt 0 (num b p 4)) ∷ []
rules_by al L b (part_place X) p = part_rules al L b X p
rules_by al L b (inline_place kind) p =
    (Misaligned p, al (align_of L kind) p) ∷ (OutOfBounds p, nat_le (p + size_of L kind) (length b)) ∷ []
rules_by al L b (code_place u k required present) p =
    let c = num b p 1 in
    (OutOfBounds p, nat_le (p + 1) (length b)) ∷ (MissingRequired p k, not (required && (c == 0)))
    ∷ (UnionMismatch p, (c == 0) || present) ∷ []
rules_by al L b (unknown_place c) p = []

-- the first rule that fails there
unfoldable pub fault_by : Aligned → LaidSchema → Bytes → Sort → ℕ → Option ReadFault
fault_by al L b sort p = first_failing (rules_by al L b sort p)

abbrev pub KeepsBy : Aligned → LaidSchema → Bytes → Sort → ℕ → Type 0
KeepsBy al L b sort p = fault_by al L b sort p ≡ None

-- in a whole buffer
abbrev pub fault_at : LaidSchema → Bytes → Sort → ℕ → Option ReadFault
fault_at L b sort p = fault_by from_start L b sort p

abbrev pub has_vtable : Bytes → ℕ → Bool
has_vtable b p = has_vtable_by from_start b p

abbrev pub Keeps : LaidSchema → Bytes → Sort → ℕ → Type 0
Keeps L b sort p = KeepsBy from_start L b sort p
