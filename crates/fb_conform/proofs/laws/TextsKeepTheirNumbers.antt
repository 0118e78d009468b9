-- A text that names an enum's number or a union's code names it in the new schema too.
use Rattle.std.proofs.Common.{◌≡◌, ℕ, zero, suc, ◌<◌, Bool, true, false, cond, List, [], ◌∷◌, All, Contains, Option}
use Rattle.std.proofs.Common.{None}
use Rattle.std.proofs.Common.{Some, is_some, ℤ, pos, refl, sym, ap, ◌∙◌, arith}
use Rattle.std.specs.Int.{int_bit_or, w128}
use Rattle.std.specs.Option.{option_and_then}
use Rattle.serde_json.specs.Data.{Data, null, number, string}
use Rattle.fb_schema.specs.declared.kinds.Kind.TheVariants.{Code}
use Rattle.fb_schema.specs.declared.kinds.Shape.TheVariants.{One}
use Rattle.fb_schema.specs.Schema.{Name, DeclaredBody, table_body, struct_body, enum_body, union_body, DeclaredSchema}
use Rattle.fb_schema.specs.Schema.{body_at, values_in}
use Rattle.fb_schema.specs.Found.{name_at, number_named, code_named, member_coded}
use Rattle.fb_schema.specs.Paths.{name_in_path, found_by_path, number_by_path, code_by_path}
use Rattle.fb_layout.specs.Laid.{LaidSchema}
use Rattle.fb_layout.specs.WellMade.{IsWellMade}
use Rattle.fb_json.specs.Flags.{words, flags_named, has_flags, number_told}
use Rattle.fb_json.specs.Means.{EnumMeans, CodeMeans}
use Rattle.fb_conform.specs.declared.breaches.Breach.TheVariants.{EnumChanged}
use Rattle.fb_conform.specs.Conforms.{SameKind, KeepsValues, Conforms}
use Rattle.fb_conform.specs.Names.{KeepsNames}
use Rattle.fb_conform.specs.NamesStay.{CodeStays}
use Rattle.fb_conform.specs.Twins.{to_new}
use Rattle.fb_conform.proofs.laws.ConformingLayoutsAgree.{twins, same_kind, base_moved, members_moved}
use Rattle.fb_conform.proofs.laws.LayoutsAgree.{types_in}
use Rattle.fb_conform.proofs.members.ValueIsFoundByItsName.{value_found}
use Rattle.fb_conform.proofs.names.NamesHaveOneSlot.{one_code}
use Rattle.fb_conform.proofs.twins.TypesAreFoundByTheirNames.{new_name}
use Rattle.fb_schema.proofs.SomeOrNone.{some_of}

-- ---- paths

-- how a path finds what it names
record IsNamed {X : Type 0} (found : DeclaredBody → Name → Option X) (S : DeclaredSchema) (t : ℕ) (path : Name) (x : X)
    : Type 0 where
  pub full : Name
  pub name : Name
  pub at : name_at S t ≡ Some full
  pub says : name_in_path full path ≡ Some name
  pub finds : found (body_at S t) name ≡ Some x

path_names : {X : Type 0} (found : DeclaredBody → Name → Option X) (S : DeclaredSchema) (t : ℕ) (path : Name) (x : X)
    → found_by_path found S t path ≡ Some x → IsNamed found S t path x
path_names {X} found S t path x = by (name_at S t) refl
  where
    within : (full : Name) → name_at S t ≡ Some full → (o : Option Name) → name_in_path full path ≡ o
        → option_and_then (found (body_at S t)) o ≡ Some x → IsNamed found S t path x
    within full at None says e = absurd cc
    within full at (Some name) says e = record { full = full; name = name; at = at; says = says; finds = e }

    by : (o : Option Name) → name_at S t ≡ o
        → option_and_then (λ full. option_and_then (found (body_at S t)) (name_in_path full path)) o ≡ Some x
        → IsNamed found S t path x
    by None at e = absurd cc
    by (Some full) at e = within full at (name_in_path full path) refl e

found_at_path : {X : Type 0} (found : DeclaredBody → Name → Option X) (S : DeclaredSchema) (t : ℕ)
    (path full name : Name) → name_at S t ≡ Some full → name_in_path full path ≡ Some name
    → found_by_path found S t path ≡ found (body_at S t) name
found_at_path found S t path full name at says =
    ap (λ (o : Option Name). option_and_then (λ f. option_and_then (found (body_at S t)) (name_in_path f path)) o) at
    ∙ ap (λ (o : Option Name). option_and_then (found (body_at S t)) o) says

-- ---- flags

flags_kept : (flag other : Name → Option ℤ) → ((w : Name) (n : ℤ) → flag w ≡ Some n → other w ≡ Some n) → (so_far n : ℤ)
    (ws : List Name) → flags_named flag so_far ws ≡ Some n → flags_named other so_far ws ≡ Some n
flags_kept flag other kept so_far n [] e = e
flags_kept flag other kept so_far n (w ∷ ws) e =
    by (λ m h. flags_kept flag other kept (int_bit_or w128 so_far m) n ws h) (flag w) refl e
  where
    by : ((m : ℤ) → flags_named flag (int_bit_or w128 so_far m) ws ≡ Some n
        → flags_named other (int_bit_or w128 so_far m) ws ≡ Some n) → (o : Option ℤ) → flag w ≡ o
        → option_and_then (λ m. flags_named flag (int_bit_or w128 so_far m) ws) o ≡ Some n
        → option_and_then (λ m. flags_named other (int_bit_or w128 so_far m) ws) (other w) ≡ Some n
    by later None at h = absurd cc
    by later (Some m) at h =
        ap (option_and_then (λ m. flags_named other (int_bit_or w128 so_far m) ws)) (kept w m at)
        ∙ later m h

flags_same : (x y : DeclaredBody) → SameKind x y → KeepsValues x y → has_flags y ≡ has_flags x
flags_same (enum_body b flags values) (enum_body c marks others) same keeps = keeps.1
flags_same (table_body fs) (table_body gs) same keeps = refl
flags_same (struct_body fs m) (struct_body gs n) same keeps = refl
flags_same (union_body ms) (union_body ns) same keeps = refl
flags_same _ _ same keeps = absurd same

values_kept : (x y : DeclaredBody) → SameKind x y → KeepsValues x y → All (Contains (values_in y)) (values_in x)
values_kept (enum_body b flags values) (enum_body c marks others) same keeps = keeps.2
values_kept (table_body fs) (table_body gs) same keeps = λ k d within. absurd (omega (arith, within))
values_kept (struct_body fs m) (struct_body gs n) same keeps = λ k d within. absurd (omega (arith, within))
values_kept (union_body ms) (union_body ns) same keeps = λ k d within. absurd (omega (arith, within))
values_kept _ _ same keeps = absurd same

module _ (A B : LaidSchema) (old : IsWellMade A) (new : IsWellMade B) (conforms : Conforms A B) where
  abbrev to : ℕ → ℕ
  to t = to_new A B t

  names_same : (t : ℕ) → t < types_in A → name_at B.schema (to t) ≡ name_at A.schema t
  names_same t known = new_name A.schema B.schema t (to t) (twins A B old new conforms t known)

  -- ---- enums

  module _ (e : ℕ) (known : e < types_in A) where
    values : KeepsValues (body_at A.schema e) (body_at B.schema (to e))
    values = conforms (EnumChanged (record { 0 = e })) (to e) (twins A B old new conforms e known)

    number_there : (name : Name) (n : ℤ) → number_named (body_at A.schema e) name ≡ Some n
        → number_named (body_at B.schema (to e)) name ≡ Some n
    number_there name n named =
        let there : Contains (values_in (body_at A.schema e)) (name, n) =
        (value_found A.schema old.declared e n name).0 named in
        let all = values_kept (body_at A.schema e) (body_at B.schema (to e)) (same_kind A B old new conforms e known)
        values in
        (value_found B.schema new.declared (to e) n name).1
        (rw (← there.2) (all there.0 (name, n) there.1))

    path_kept : (path : Name) (n : ℤ) → number_by_path A.schema e path ≡ Some n
        → number_by_path B.schema (to e) path ≡ Some n
    path_kept path n named =
        let how = path_names number_named A.schema e path n named in
        found_at_path number_named B.schema (to e) path how.full how.name (names_same e known ∙ how.at) how.says
        ∙ number_there how.name n how.finds

    told_kept : (s : List ℕ) (n : ℤ) → number_told A.schema e s ≡ Some n → number_told B.schema (to e) s ≡ Some n
    unfolding number_told
    told_kept s n told =
        by (has_flags (body_at A.schema e)) (has_flags (body_at B.schema (to e)))
        (flags_same (body_at A.schema e) (body_at B.schema (to e)) (same_kind A B old new conforms e known) values) told
      where
        by : (x y : Bool) → y ≡ x
            → cond x (flags_named (number_by_path A.schema e) (pos 0) (words s)) (number_by_path A.schema e s) ≡ Some n
            → cond y (flags_named (number_by_path B.schema (to e)) (pos 0) (words s)) (number_by_path B.schema (to e) s)
            ≡ Some n
        by true true same h =
            flags_kept (number_by_path A.schema e) (number_by_path B.schema (to e)) path_kept (pos 0) n (words s) h
        by false false same h = path_kept s n h
        by true false same h = absurd cc
        by false true same h = absurd cc

    pub enum_means : (t : Data) (n : ℤ) → EnumMeans A.schema e t n → EnumMeans B.schema (to e) t n
    enum_means (number x) n h =
        (h.0, rw (base_moved A B old new conforms e known) h.1)
    enum_means (string s) n h = told_kept s n h
    enum_means _ n h = absurd h

  -- ---- unions

  module _ (keeps : KeepsNames A B) (u : ℕ) (known : u < types_in A) where
    code_there : (c : ℕ) → is_some (member_coded (body_at A.schema u) c) ≡ true
        → is_some (member_coded (body_at B.schema (to u)) c) ≡ true
    code_there c e =
        let member = some_of (member_coded (body_at A.schema u) c) e in
        ap is_some (members_moved A B old new conforms u c member.0 known member.1).1

    pub code_path : (s : List ℕ) (c d : ℕ) → code_by_path A.schema u s ≡ Some c
        → code_by_path B.schema (to u) s ≡ Some d → d ≡ c
    code_path s c d was is =
        let how = path_names code_named A.schema u s c was in
        let found : code_named (body_at B.schema (to u)) how.name ≡ Some d =
        sym (found_at_path code_named B.schema (to u) s how.full how.name (names_same u known ∙ how.at) how.says)
        ∙ is in
        one_code (body_at A.schema u) (body_at B.schema (to u)) how.name c d
        (λ k j one two. keeps u (to u) k j how.name (twins A B old new conforms u known) one two) how.finds found

    pub code_means : (o : Option Data) (c : ℕ) → CodeMeans A.schema u o c
        → CodeStays A B (One (Code (record { 0 = u }))) o → CodeMeans B.schema (to u) o c
    code_means None c h stays = h
    code_means (Some null) c h stays = h
    code_means (Some (number x)) zero h stays = h
    code_means (Some (number x)) (suc c) h stays = (h.0, h.1, code_there (suc c) h.2)
    code_means (Some (string s)) c h stays =
        let told = some_of (code_by_path B.schema (to u) s) stays in
        let same : told.0 ≡ c = code_path s c told.0 h told.1 in
        told.1 ∙ ap Some same
    code_means _ c h stays = absurd h
