-- What an outline with no fault gives is well declared.
use Rattle.std.proofs.Common.{◌≡◌, ◌≢◌, ℕ, ◌<◌, ◌||◌, Bool, false, List, [], take, get_or, All, AllPairs, Option, None}
use Rattle.std.proofs.Common.{Some, is_none, refl, ap, sym, ◌∙◌, arith, ⊎_elim, true≢false, nat_le, length, map, ◌==◌}
use Rattle.std.proofs.Common.{not, ◌∷◌, subst}
use Rattle.std.specs.Prelude.{codes}
use Rattle.std.specs.Str.{bytes_eq}
use Rattle.std.proofs.lemmas.Bool.{and_parts, not-false, leb-false, eqb-true}
use Rattle.std.proofs.lemmas.Cmp.{nat_list_eq_equiv}
use Rattle.std.proofs.lemmas.List.Elements.{All-map}
use Rattle.std.proofs.lemmas.Option.{slice_get-get_or, slice_get_cases, none-some, same_Some, slice_get_within}
use Rattle.std.proofs.lemmas.Slice.Eq.{bytes_eq-Decides}
use Rattle.fb_schema.specs.Schema.{Name, DeclaredSchema, is_table, DeclaredBody, table_body, struct_body, enum_body}
use Rattle.fb_schema.specs.Schema.{union_body, DeclaredType}
use Rattle.fb_schema.specs.WellDeclared.{Names, IsUnionBody, IsBody, IsDeclared}
use Rattle.fb_declare.specs.declared.faults.SchemaFault.TheVariants.{DuplicateName, BadMember, BadIds, BadRoot}
use Rattle.fb_declare.specs.declared.faults.SchemaFault.TheVariants.{BadIdentifier}
use Rattle.fb_resolve.specs.declared.meanings.Meaning.{Meaning}
use Rattle.fb_declare.specs.declared.attribute_faults.AttributeHost.TheVariants as hosts
use Rattle.fb_resolve.specs.ResolvedFields.{ResolvedMember, ResolvedUnion}
use Rattle.fb_declare.specs.AttributeFaults.{metadata_faults}
use Rattle.fb_declare.specs.FaultRows.{when, faults_in_turn, use_faults, member_faults, root_faults, is_identifier}
use Rattle.fb_declare.specs.FaultRows.{identifier_faults, is_printable}
use Rattle.fb_resolve.specs.RepeatedNames.{is_again}
use Rattle.fb_declare.specs.TypeFaults.{union_faults, field_behind, declaration_faults, aligns_from, type_behind}
use Rattle.fb_declare.specs.TypeFaults.{declared_in, faults_of_outline}
use Rattle.fb_declare.proofs.FaultFree.{either-none, keys_distinct, keys_apart, pairs_map, both_none, three_none}
use Rattle.fb_declare.proofs.FaultFree.{none_behind, when-none, type_right}
use Rattle.std.proofs.Math.Nat.{lt_of_not-le}
use Rattle.std.proofs.lemmas.List.{length-map, length-take-le}
use Rattle.fb_resolve.specs.MembersRead.{table_of, member_read}
use Rattle.fb_declare.proofs.TypesKept.{MeansIn, table_named, IsReadIn, means_in, read_in, AreEnumsKept, aligns_before}
use Rattle.fb_declare.proofs.TypesKept.{resolved_at, type_at, enums_kept}
use Rattle.std.specs.List.{AllZip, list_all, slice_get, IsDistinct}
use Rattle.std.specs.Option.{option_map, is_none, ForSome}
use Rattle.fb_syntax.specs.Located.{Located}
use Rattle.fb_resolve.specs.Outline.{TypeRead, RootRead, Outline, name_of_type}
use Rattle.fb_resolve.specs.Meaning.{meaning_of}
use Rattle.fb_resolve.specs.ResolvedType.{ResolvedType}
use Rattle.fb_resolve.specs.Ids.{are_ids_wrong}
use Rattle.fb_resolve.specs.Resolved.{resolved_declaration, resolved_type, resolved_types, meaning_of_root}
use Rattle.fb_resolve.specs.declared.resolved.ResolvedDecl.{ResolvedDecl}
use Rattle.fb_resolve.specs.declared.resolved.ResolvedDecl.TheVariants as resolved
use Rattle.fb_declare.specs.Declares.{HasBody, IsType, Gives, IsBuildable, AreBuildable}
use Rattle.fb_declare.specs.declared.field_faults.FieldHost.TheVariants as fields
use Rattle.fb_declare.proofs.StructsKept.{length-before, aligns, are_aligned, struct_kept}
use Rattle.fb_declare.proofs.EnumsKept.{enum_kept}
use Rattle.fb_declare.proofs.TablesKept.{table_kept}

-- what is known of a member with no fault, behind others
record IsMember (before : List ResolvedMember) (m : ResolvedMember) : Type 0 where
  pub not_none : m.name.bytes ≢ codes "NONE"
  pub new : is_again bytes_eq (λ m. m.name.bytes) before m ≡ false
  pub table : is_none (table_of m.meaning) ≡ false
  pub few : length before < 255

member_right : (before : List ResolvedMember) (m : ResolvedMember) → member_faults before m ≡ [] → IsMember before m
member_right before m h =
    let at = m.member.table.at in
    let called = bytes_eq m.name.bytes (codes "NONE") in
    let again = is_again bytes_eq (λ m. m.name.bytes) before m in
    let parts = three_none (when (called || again) (DuplicateName m.name.at)) (use_faults m.meaning at)
    (when (is_none (table_of m.meaning) || nat_le 255 (length before)) (BadMember at)) h in
    let free = either-none called again (DuplicateName m.name.at) parts.0 in
    let few = either-none (is_none (table_of m.meaning)) (nat_le 255 (length before)) (BadMember at) parts.2 in
    record {
      not_none = λ e. true≢false (sym ((bytes_eq-Decides m.name.bytes (codes "NONE")).1 e) ∙ free.0);
      new = free.1;
      table = few.0;
      few = leb-false 255 (length before) few.1;
    }

-- a union with no fault has a right body, where its members' names mean what the schema has
module _ (S : DeclaredSchema) (ms : List ResolvedMember) (means : All (λ m. MeansIn S m.meaning) ms)
    (none : faults_in_turn member_faults ms ≡ []) where
  member_at : (k : ℕ) (d : ResolvedMember) → k < length ms → IsMember (take k ms) (get_or ms k d)
  member_at k d within = member_right (take k ms) (get_or ms k d)
      (none_behind member_faults [] ms none k (get_or ms k d) (slice_get-get_or ms k d within))

  members_kept : IsUnionBody S (map member_read ms)
  members_kept = record {
    few = let below = lt_of_not-le {n = 256} {m = length ms}
        (λ over. ⊎_elim (λ m. let few = (member_at 255 m.0 m.1).few in omega (arith, length-take-le 255 ms))
        (λ past. omega (arith, past.0)) (slice_get_cases ms 255).1) in
        omega (arith, length-map ms member_read);
    no_none = All-map (λ m. m.0 ≢ codes "NONE") member_read ms (λ k d within. (member_at k d within).not_none);
    names = pairs_map (λ a b. a.0 ≢ b.0) member_read ms (keys_apart bytes_eq-Decides (λ m. m.name.bytes) ms
        (keys_distinct nat_list_eq_equiv (λ m. m.name.bytes) member_faults
        (λ before m h. (member_right before m h).new) ms none));
    tables = All-map (λ m. Names is_table S m.1) member_read ms
        (λ k d within. table_named S (get_or ms k d).meaning (means k d within) (member_at k d within).table);
  }

pub union_kept : (S : DeclaredSchema) (declared : Name → Bool) (u : ResolvedUnion)
    → All (λ m. MeansIn S m.meaning) u.members → union_faults declared u ≡ []
    → IsUnionBody S (map member_read u.members)
union_kept S declared u means h = members_kept S u.members means
    (both_none (metadata_faults declared hosts.Union u.declared.attributes)
    (faults_in_turn member_faults u.members) h).1

-- ---- names

names_given : (types rs : List TypeRead) (ts : List DeclaredType) → AllZip IsType (map (resolved_type types) rs) ts
    → map (λ r. name_of_type r.read) (map (resolved_type types) rs) ≡ map (λ t. t.name) ts
names_given types [] [] z = refl
names_given types (r ∷ rs) (t ∷ ts) z = let first = sym z.0.name in let rest = names_given types rs ts z.1 in
    λ i. first i ∷ rest i
names_given types _ _ z = absurd z

-- The types have different names.
type_names_differ : (o : Outline) (S : DeclaredSchema) → Gives o S
    → faults_in_turn (type_behind o.types (declared_in o)) (resolved_types o.types) ≡ []
    → AllPairs (λ a b. a.name ≢ b.name) S.types
type_names_differ o S g h = keys_apart bytes_eq-Decides (λ t. t.name) S.types
    (subst (IsDistinct bytes_eq) (names_given o.types o.types S.types g.types)
    (keys_distinct nat_list_eq_equiv (λ r. name_of_type r.read) (type_behind o.types (declared_in o))
    (λ before r none. (type_right o.types (declared_in o) before r none).0) (resolved_types o.types) h))

-- ---- the root and the identifier

-- The root is a table.
root_kept : (o : Outline) (S : DeclaredSchema) → Gives o S → (root : Option RootRead)
    → Some S.root ≡ table_of (meaning_of_root o.types root) → Names is_table S S.root
root_kept o S g None e = cc
root_kept o S g (Some r) e = rw (← e) at
    (table_named S (meaning_of o.types r.scope r.name.bytes) (means_in o S g r.scope r.name.bytes) (ap is_none (sym e)))

-- ---- bodies

-- a declaration with no fault gives a body
buildable_by : (types : List TypeRead) (declared : Name → Bool) (lower : List ℕ) (d : ResolvedDecl)
    → declaration_faults types declared lower d ≡ [] → IsBuildable d
buildable_by types declared lower (resolved.Table t) h = when-none (are_ids_wrong t.fields) (BadIds t.declared.name.at)
    (three_none (metadata_faults declared hosts.Table t.declared.attributes)
    (when (are_ids_wrong t.fields) (BadIds t.declared.name.at))
    (faults_in_turn (field_behind declared fields.Table) t.fields) h).1
buildable_by types declared lower _ h = tt

body_kept : (types : List TypeRead) (S : DeclaredSchema) → AreEnumsKept types S
    → (declared : Name → Bool) (lower : List ℕ) (d : ResolvedDecl) (b : DeclaredBody) → IsReadIn types S d
    → declaration_faults types declared lower d ≡ []
    → HasBody d b → IsBody S (length lower) b
body_kept types S enums declared lower (resolved.Table t) (table_body slots) read h body =
    table_kept types S enums declared t read h slots body
body_kept types S enums declared lower (resolved.Struct s) (struct_body parts force) read h body =
    subst (λ b. IsBody S (length lower) b) (sym (λ i. struct_body (body.0 i) (body.1 i)))
    (struct_kept types S declared lower s read.0 h)
body_kept types S enums declared lower (resolved.Enum e) (enum_body base flags values) read h body =
    subst (λ b. IsBody S (length lower) b) (sym (λ i. enum_body (body.0 i) (body.1 i) (body.2 i)))
    (enum_kept declared e read h).1
body_kept types S enums declared lower (resolved.Union u) (union_body members) read h body =
    subst (IsUnionBody S) (sym body) (union_kept S declared u read h)
body_kept types S enums declared lower d b read h body = absurd body

-- Each type has the body that its declaration needs.
bodies_kept : (o : Outline) (S : DeclaredSchema) → Gives o S
    → faults_in_turn (type_behind o.types (declared_in o)) (resolved_types o.types) ≡ [] → (t : ℕ) (type : DeclaredType)
    → slice_get S.types t ≡ Some type → IsBody S t type.body
bodies_kept o S g none t type at =
    let x = type_at o S g none t type at in
    rw (← (length-before o.types (resolved_types o.types) t
    (slice_get_within (resolved_types o.types) t (resolved_type o.types x.read)
    (resolved_at o.types t x.read x.at))))
    (body_kept o.types S (enums_kept o S g none) (declared_in o) (aligns_before o.types t)
    (resolved_declaration o.types x.read.scope x.read.declaration) type.body
    (read_in o S g x.read.scope x.read.declaration) x.right x.has)

-- ---- the whole

-- an outline with no fault has none in its types, its root and its identifier
pub outline_right : (o : Outline) → faults_of_outline o ≡ []
    → (faults_in_turn (type_behind o.types (declared_in o)) (resolved_types o.types) ≡ [])
    × (root_faults o.text_len o.root (meaning_of_root o.types o.root) ≡ []) × (identifier_faults o.identifier ≡ [])
unfolding faults_of_outline
outline_right o h = three_none (faults_in_turn (type_behind o.types (declared_in o)) (resolved_types o.types))
    (root_faults o.text_len o.root (meaning_of_root o.types o.root)) (identifier_faults o.identifier) h

-- its types give bodies
pub buildable : (o : Outline) (rs : List ResolvedType) → faults_of_outline o ≡ [] → rs ≡ resolved_types o.types
    → AreBuildable rs
buildable o rs h same t r e =
    let none = none_behind (type_behind o.types (declared_in o)) [] (resolved_types o.types) (outline_right o h).0 t r
    (ap (λ qs. slice_get qs t) (sym same) ∙ e) in
    let before = take t (resolved_types o.types) in
    buildable_by o.types (declared_in o) (aligns_from o.types [] before) r.declaration
    (type_right o.types (declared_in o) before r none).1

-- its root is a table
root_by : (text_len : ℕ) (root : Option RootRead) (m : Meaning) → root_faults text_len root m ≡ []
    → is_none (table_of m) ≡ false
root_by text_len None m h = cc
root_by text_len (Some r) m h =
    when-none (is_none (table_of m)) (BadRoot r.name.at)
    (both_none (use_faults m r.name.at) (when (is_none (table_of m)) (BadRoot r.name.at)) h).1

pub has_root : (o : Outline) (m : Meaning) → faults_of_outline o ≡ [] → m ≡ meaning_of_root o.types o.root
    → table_of m ≡ None → ⊥
has_root o m h same none = true≢false (sym (ap is_none (ap table_of (sym same) ∙ none))
    ∙ root_by o.text_len o.root (meaning_of_root o.types o.root) (outline_right o h).1)

-- its identifier has four bytes
four_by : (i : Option Located) → identifier_faults i ≡ [] → ForSome i (λ t. length t.bytes ≡ 4)
four_by None h t e = absurd (none-some t e)
four_by (Some q) h t e =
    let right = not-false (is_identifier q.bytes) (when-none (not (is_identifier q.bytes)) (BadIdentifier q.at) h) in
    let four = eqb-true (length q.bytes) 4 (and_parts (length q.bytes == 4) (list_all is_printable q.bytes) right).0 in
    ap (λ x. length x.bytes) (sym (same_Some q t e)) ∙ four

pub four_bytes : (o : Outline) (i : Option Located) → faults_of_outline o ≡ [] → i ≡ o.identifier
    → ForSome i (λ t. length t.bytes ≡ 4)
four_bytes o i h same = rw same (four_by o.identifier (outline_right o h).2)

bytes_of : (i : Option Located) → ForSome i (λ t. length t.bytes ≡ 4)
    → ForSome (option_map (λ t. t.bytes) i) (λ id. length id ≡ 4)
bytes_of None h id e = absurd (none-some id e)
bytes_of (Some t) h id e = rw (← (same_Some t.bytes id e)) (h t refl)

-- What an outline with no fault gives is well declared.
pub kept : (o : Outline) (S : DeclaredSchema) → faults_of_outline o ≡ [] → Gives o S → IsDeclared S
kept o S h g =
    let right = outline_right o h in
    record {
      bodies = bodies_kept o S g right.0;
      names = type_names_differ o S g right.0;
      aligned = (aligns o S g right.0, are_aligned o S g right.0);
      root = root_kept o S g o.root g.root;
      identifier = rw g.identifier (bytes_of o.identifier (four_bytes o o.identifier h refl));
    }
