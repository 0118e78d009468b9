-- The struct of a number, and what is declared of it.
use Rattle.std.proofs.Common.{◌≡◌, ℕ, IsTrue, List, Option, None, Some, slice_get, refl, ap, ◌∙◌}
use Rattle.std.proofs.lemmas.Bool.{false≢true}
use Rattle.fb_schema.specs.Schema.{DeclaredField, DeclaredBody, table_body, struct_body, enum_body, union_body}
use Rattle.fb_schema.specs.Schema.{DeclaredType, DeclaredSchema, body_in, body_at, is_struct}
use Rattle.fb_schema.specs.WellDeclared.{IsStructBody, IsDeclared}

-- the type of a struct's number
pub record IsStructAt (S : DeclaredSchema) (s : ℕ) : Type 0 where
  pub type : DeclaredType
  pub fs : List DeclaredField
  pub force : Option ℕ
  pub found : slice_get S.types s ≡ Some type
  pub body : type.body ≡ struct_body fs force
  pub at : body_at S s ≡ struct_body fs force

struct_of_type : (S : DeclaredSchema) (s : ℕ) (type : DeclaredType) (body : DeclaredBody)
    → slice_get S.types s ≡ Some type → type.body ≡ body → IsTrue (is_struct body) → IsStructAt S s
struct_of_type S s type (struct_body fs force) e is h =
    record { type = type; fs = fs; force = force; found = e; body = is; at = ap body_in e ∙ is }
struct_of_type S s type (table_body fs) e is h = absurd (false≢true h)
struct_of_type S s type (enum_body base flags values) e is h = absurd (false≢true h)
struct_of_type S s type (union_body members) e is h = absurd (false≢true h)

struct_found : (S : DeclaredSchema) (s : ℕ) (o : Option DeclaredType) → slice_get S.types s ≡ o
    → IsTrue (is_struct (body_in o)) → IsStructAt S s
struct_found S s None e h = absurd (false≢true h)
struct_found S s (Some type) e h = struct_of_type S s type type.body e refl h

pub struct_told : (S : DeclaredSchema) (s : ℕ) → IsTrue (is_struct (body_at S s)) → IsStructAt S s
struct_told S s h = struct_found S s (slice_get S.types s) refl h

pub body_told : (S : DeclaredSchema) → IsDeclared S → (s : ℕ) (at : IsStructAt S s) → IsStructBody S s at.fs at.force
body_told S declared s at = rw at.body at (declared.bodies s at.type at.found)
