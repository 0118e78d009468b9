-- A slot has the same entry, or the same fault, with either of two members that mean the same.
use Rattle.std.proofs.Common.{◌≡◌, ◌∙◌, ℕ, zero, suc, Bool, true, false, Option, None, Some, Ok, refl, sym, ap}
use Rattle.std.proofs.Common.{if◌then◌else◌}
use Rattle.serde_json.specs.Data.{Data}
use Rattle.fb_schema.specs.declared.kinds.Kind.TheVariants.{Scalar, Enum, Struct, Table, Union, Code, Text}
use Rattle.fb_schema.specs.declared.kinds.Shape.{Shape}
use Rattle.fb_schema.specs.declared.kinds.Shape.TheVariants.{One, Many}
use Rattle.fb_schema.specs.declared.kinds.TypeId.{TypeId}
use Rattle.fb_schema.specs.Schema.{DeclaredField, DeclaredSchema, Name}
use Rattle.fb_layout.specs.Laid.{LaidSchema, Slot, member_by_code, slot_of}
use Rattle.fb_value.specs.Datum.{a_member}
use Rattle.fb_json.specs.declared.faults.Place.{Place}
use Rattle.fb_json.specs.Leaves.{code_told}
use Rattle.fb_json.specs.Meant.{Look, Meaner, as_member, code_after, code_in, entry_meant, meant, plain_meant, present}
use Rattle.fb_json.specs.Meant.{union_meant, used_meant}
use Rattle.fb_json.specs.Outcome.{◌>>=◌}
use Rattle.fb_encode.specs.StandIns.{AreAlike}

pub code_same : (S : DeclaredSchema) (look bare : Look) (at : Place) (code : ℕ) (b : Bool) (name : Name) (shape : Shape)
    (t d : Data) (m n : Meaner) → look name ≡ Some (t, m) → bare name ≡ Some (d, n)
    → ((u : TypeId) (at : Place) → shape ≡ One (Code u) → code_told S u.0 t at ≡ code_told S u.0 d at)
    → code_after S look at code b name shape ≡ code_after S bare at code b name shape
unfolding code_after
code_same S look bare at code true name shape t d m n is was told = refl
code_same S look bare at code false name (One (Code u)) t d m n is was told =
    ap (code_in S u.0 at) is ∙ told u at refl ∙ sym (ap (code_in S u.0 at) was)
code_same S look bare at code false name (One (Union u)) t d m n is was told = refl
code_same S look bare at code false name (One (Scalar base)) t d m n is was told = refl
code_same S look bare at code false name (One (Enum id)) t d m n is was told = refl
code_same S look bare at code false name (One (Struct id)) t d m n is was told = refl
code_same S look bare at code false name (One (Table id)) t d m n is was told = refl
code_same S look bare at code false name (One Text) t d m n is was told = refl
code_same S look bare at code false name (Many kind) t d m n is was told = refl

-- ---- the entry of a slot

module _ (L : LaidSchema) (f : DeclaredField) (at : Place) (code levels left : ℕ) (m n : Meaner) where
  abbrev Alike : Shape → Type 0
  Alike shape = m shape at levels left ≡ n shape at levels left

  member_same : (c : ℕ) (o : Option ℕ) → ((t : ℕ) → Alike (One (Table (record { 0 = t }))))
      → as_member c o m at levels left ≡ as_member c o n at levels left
  member_same c None alike = refl
  member_same c (Some t) alike = ap (λ r. r >>= λ x. Ok (Some (a_member c x.0), x.1)) (alike t)

  union_same : (u : ℕ) (s : Slot) (c : ℕ) → ((t : ℕ) → Alike (One (Table (record { 0 = t }))))
      → union_meant L u s c (Some m) at levels left ≡ union_meant L u s c (Some n) at levels left
  unfolding union_meant
  union_same u s zero alike = member_same zero (member_by_code L u zero) alike
  union_same u s (suc c) alike = member_same (suc c) (member_by_code L u (suc c)) alike

  plain_same : (s : Slot) (shape : Shape) → Alike shape
      → plain_meant s shape (Some m) at levels left ≡ plain_meant s shape (Some n) at levels left
  unfolding plain_meant
  plain_same s shape alike = ap (λ r. r >>= λ x. Ok (Some x.0, x.1)) alike

  used_same : (shape : Shape) → Alike shape
      → ((u table : TypeId) → shape ≡ One (Union u) → Alike (One (Table table)))
      → used_meant L f code (Some m) at levels left shape ≡ used_meant L f code (Some n) at levels left shape
  used_same (One (Code u)) alike member = refl
  used_same (One (Union u)) alike member =
      union_same u.0 (slot_of L.schema f) code (λ t. member u (record { 0 = t }) refl)
  used_same (One (Scalar base)) alike member = plain_same (slot_of L.schema f) (One (Scalar base)) alike
  used_same (One (Enum e)) alike member = plain_same (slot_of L.schema f) (One (Enum e)) alike
  used_same (One (Struct s)) alike member = plain_same (slot_of L.schema f) (One (Struct s)) alike
  used_same (One (Table t)) alike member = plain_same (slot_of L.schema f) (One (Table t)) alike
  used_same (One Text) alike member = plain_same (slot_of L.schema f) (One Text) alike
  used_same (Many kind) alike member = plain_same (slot_of L.schema f) (Many kind) alike

  shown_same : (b c : Bool) (shape : Shape) → b ≡ c → Alike shape
      → ((u table : TypeId) → shape ≡ One (Union u) → Alike (One (Table table)))
      → used_meant L f code (if b then None else Some m) at levels left shape
      ≡ used_meant L f code (if c then None else Some n) at levels left shape
  shown_same true true shape same alike member = refl
  shown_same false false shape same alike member = used_same shape alike member
  shown_same true false shape same alike member = absurd cc
  shown_same false true shape same alike member = absurd cc

pub entry_same : (L : LaidSchema) (unknown : Bool) (f : DeclaredField) (at : Place) (code levels left : ℕ)
    (look bare : Look) (t d : Data) → look f.name ≡ Some (t, meant L unknown t)
    → bare f.name ≡ Some (d, meant L unknown d) → AreAlike L unknown f.shape t d
    → entry_meant L look f at code levels left ≡ entry_meant L bare f at code levels left
unfolding entry_meant
entry_same L unknown f at code levels left look bare t d is was alike =
    ap (λ u. if f.deprecated then Ok (None, left) else u)
    (ap (λ o. used_meant L f code (present o) at levels left f.shape) is
    ∙ shown_same L f at code levels left (meant L unknown t) (meant L unknown d) _ _ f.shape alike.absent
    (alike.value at levels left) (λ u table. alike.member u table at levels left)
    ∙ sym (ap (λ o. used_meant L f code (present o) at levels left f.shape) was))
