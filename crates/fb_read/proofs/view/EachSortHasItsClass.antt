-- Each sort of value has its class, and an entry of another class is none of that sort.
use Rattle.std.proofs.Common.{◌≡◌, ℕ, ◌+◌}
use Rattle.std.proofs.Common.{Option, None, Some, refl, sym}
use Rattle.fb_schema.specs.declared.kinds.Base.{Base}
use Rattle.fb_layout.specs.Laid.{LaidSchema, StoredKind, scalar_kind, struct_kind}
use Rattle.fb_layout.specs.Laid.{stored_kind}
use Rattle.fb_value.specs.Datum.{Datum, a_number, a_text, a_vector, a_struct, a_table, a_member, an_unknown}
use Rattle.fb_value.specs.Num.{Bytes, num}
use Rattle.fb_value.specs.Places.{table_part, member_part, text_part, vector_part, part_place}
use Rattle.fb_value.specs.Lies.{LiesInline, Lies}
use Rattle.fb_read.specs.declared.stored.Stored.{Stored}
use Rattle.fb_read.specs.declared.stored.Stored.TheVariants.{Absent, Code, Unknown, Number, Fixed, Text, Table, Member}
use Rattle.fb_read.specs.declared.stored.Stored.TheVariants.{Vector}
use Rattle.fb_read.specs.Stored.{StoredAs}
use Rattle.fb_read.specs.Views.{number_in, text_in, table_in, struct_in, vector_in, member_in, unknown_in}

-- ---- which sort of value an entry is

abbrev pub class_in : Option Datum → ℕ
class_in (Some (a_number n)) = 0
class_in (Some (a_text bytes)) = 1
class_in (Some (a_vector ds)) = 2
class_in (Some (a_struct ds)) = 3
class_in (Some (a_table t es)) = 4
class_in (Some (a_member code d)) = 5
class_in (Some (an_unknown code)) = 6
class_in None = 7

abbrev pub class_of : Stored → ℕ
class_of (Absent None) = 7
class_of (Absent (Some n)) = 0
class_of (Code code p) = 7
class_of (Unknown code p) = 6
class_of (Number base p) = 0
class_of (Fixed s p) = 3
class_of (Text p) = 1
class_of (Table t p) = 4
class_of (Member code t p) = 5
class_of (Vector kind p) = 2

pub number_class : (L : LaidSchema) (b : Bytes) (base : Base) (p : ℕ) (d : Datum)
    → LiesInline L b (scalar_kind base) p d → class_in (Some d) ≡ 0
number_class L b base p (a_number n) lies = refl
number_class L b base p _ lies = absurd lies

pub struct_class : (L : LaidSchema) (b : Bytes) (s p : ℕ) (d : Datum) → LiesInline L b (struct_kind s) p d
    → class_in (Some d) ≡ 3
struct_class L b s p (a_struct ds) lies = refl
struct_class L b s p _ lies = absurd lies

pub text_class : (L : LaidSchema) (b : Bytes) (p : ℕ) (d : Datum) → Lies L b (part_place text_part) p d
    → class_in (Some d) ≡ 1
text_class L b p (a_text bytes) lies = refl
text_class L b p _ lies = absurd lies

pub table_class : (L : LaidSchema) (b : Bytes) (t p : ℕ) (d : Datum) → Lies L b (part_place (table_part t)) p d
    → class_in (Some d) ≡ 4
table_class L b t p (a_table type es) lies = refl
table_class L b t p _ lies = absurd lies

pub member_class : (L : LaidSchema) (b : Bytes) (c t p : ℕ) (d : Datum) → Lies L b (part_place (member_part c t)) p d
    → class_in (Some d) ≡ 5
member_class L b c t p (a_member code d) lies = refl
member_class L b c t p _ lies = absurd lies

pub vector_class : (L : LaidSchema) (b : Bytes) (kind : StoredKind) (p : ℕ) (d : Datum)
    → Lies L b (part_place (vector_part kind)) p d → class_in (Some d) ≡ 2
vector_class L b kind p (a_vector ds) lies = refl
vector_class L b kind p _ lies = absurd lies

-- an entry is of the sort that was found
pub stored_class : (L : LaidSchema) (b : Bytes) (s : Stored) (o : Option Datum) → StoredAs L b s o
    → class_in o ≡ class_of s
stored_class L b (Absent None) o stored = rw stored refl
stored_class L b (Absent (Some n)) o stored = rw stored refl
stored_class L b (Code code p) o stored = rw stored refl
stored_class L b (Unknown code p) o stored = rw stored refl
stored_class L b (Number base p) o stored = rw stored.1 (number_class L b base p stored.0 stored.2.1)
stored_class L b (Fixed s p) o stored = rw stored.1 (struct_class L b s.0 p stored.0 stored.2.1)
stored_class L b (Text p) o stored = rw stored.1 (text_class L b (p + num b p 4) stored.0 stored.2.1)
stored_class L b (Table t p) o stored = rw stored.1 (table_class L b t.0 (p + num b p 4) stored.0 stored.2.1)
stored_class L b (Member code t p) o stored = rw stored.1
    (member_class L b code t.0 (p + num b p 4) stored.0 stored.2.1)
stored_class L b (Vector kind p) o stored = rw stored.1
    (vector_class L b (stored_kind L.schema kind) (p + num b p 4) stored.0 stored.2.1)

pub number_else : (o : Option Datum) (k : ℕ) → class_in o ≡ k → (k ≡ 0 → ⊥) → number_in o ≡ None
number_else (Some (a_number n)) k e h = absurd (h (sym e))
number_else None k e h = refl
number_else (Some _) k e h = refl

pub text_else : (o : Option Datum) (k : ℕ) → class_in o ≡ k → (k ≡ 1 → ⊥) → text_in o ≡ None
text_else (Some (a_text bytes)) k e h = absurd (h (sym e))
text_else None k e h = refl
text_else (Some _) k e h = refl

pub table_else : (o : Option Datum) (k : ℕ) → class_in o ≡ k → (k ≡ 4 → ⊥) → table_in o ≡ None
table_else (Some (a_table t es)) k e h = absurd (h (sym e))
table_else None k e h = refl
table_else (Some _) k e h = refl

pub member_else : (o : Option Datum) (k : ℕ) → class_in o ≡ k → (k ≡ 5 → ⊥) → member_in o ≡ None
member_else (Some (a_member c d)) k e h = absurd (h (sym e))
member_else None k e h = refl
member_else (Some _) k e h = refl

pub unknown_else : (o : Option Datum) (k : ℕ) → class_in o ≡ k → (k ≡ 6 → ⊥) → unknown_in o ≡ None
unknown_else (Some (an_unknown c)) k e h = absurd (h (sym e))
unknown_else None k e h = refl
unknown_else (Some _) k e h = refl

pub struct_else : (o : Option Datum) (k : ℕ) → class_in o ≡ k → (k ≡ 3 → ⊥) → struct_in o ≡ None
struct_else (Some (a_struct ds)) k e h = absurd (h (sym e))
struct_else None k e h = refl
struct_else (Some _) k e h = refl

pub vector_else : (o : Option Datum) (k : ℕ) → class_in o ≡ k → (k ≡ 2 → ⊥) → vector_in o ≡ None
vector_else (Some (a_vector ds)) k e h = absurd (h (sym e))
vector_else None k e h = refl
vector_else (Some _) k e h = refl
