-- The sizes of tables, one type at a time.
use Rattle.std.proofs.Common.{◌≡◌, ◌<◌, ◌≤◌, ◌+◌, ◌++◌, ℕ, List, [], ◌∷◌, length, map, drop, get_or, Result, Ok, Err}
use Rattle.std.proofs.Common.{refl, ap, sym, ◌∙◌, append_assoc}
use Rattle.std.proofs.lemmas.List.{drop_more, drop_all}
use Rattle.fb_schema.specs.Schema.{DeclaredType, DeclaredSchema}
use Rattle.fb_layout.specs.declared.faults.LayoutFault.{LayoutFault}
use Rattle.fb_layout.specs.declared.tables.TableSizes.{TableSizes}
use Rattle.fb_layout.specs.Known.{Known, type_sizes, behind_one, if_sized, tables_from}
use Rattle.std.proofs.lemmas.List.{append-nil}

-- all that is behind some sizes
abbrev pub behind_all : List TableSizes → Result (List TableSizes) LayoutFault → Result (List TableSizes) LayoutFault
behind_all sizes (Ok more) = Ok (sizes ++ more)
behind_all sizes (Err fault) = Err fault

pub tables_from-nil : (S : DeclaredSchema) (known : Known) (t : ℕ) → tables_from S known t [] ≡ Ok []
unfolding tables_from
tables_from-nil S known t = refl

pub tables_from-cons : (S : DeclaredSchema) (known : Known) (t : ℕ) (type : DeclaredType) (types : List DeclaredType)
    → tables_from S known t (type ∷ types)
    ≡ if_sized (type_sizes S known t type.body) (tables_from S known (t + 1) types)
unfolding tables_from
tables_from-cons S known t type types = refl

behind_both : (sizes : List TableSizes) (one : TableSizes) (more : Result (List TableSizes) LayoutFault)
    → behind_all (sizes ++ one ∷ []) more ≡ behind_all sizes (behind_one one more)
behind_both sizes one (Ok more) = ap Ok (append_assoc sizes (one ∷ []) more)
behind_both sizes one (Err fault) = refl

at_next : {Y : Type 0} (S : DeclaredSchema) (known : Known) (f : Y → DeclaredType) (ys : List Y) (i : ℕ) (y : Y)
    → i < length ys → y ≡ get_or ys i y
    → tables_from S known i (map f (drop i ys))
    ≡ if_sized (type_sizes S known i (f y).body) (tables_from S known (i + 1) (map f (drop (i + 1) ys)))
at_next S known f ys i y h e =
    ap (λ r. tables_from S known i (map f r)) (drop_more ys i y h ∙ ap (λ z. z ∷ drop (i + 1) ys) (sym e))
    ∙ tables_from-cons S known i (f y) (map f (drop (i + 1) ys))

-- one type more has its sizes
pub tables_next : {Y : Type 0} (S : DeclaredSchema) (known : Known) (f : Y → DeclaredType)
    (sizes more : List TableSizes) (one : TableSizes) (ys : List Y) (i : ℕ) (y : Y) → i < length ys → y ≡ get_or ys i y
    → type_sizes S known i (f y).body ≡ Ok one → more ≡ sizes ++ one ∷ []
    → behind_all more (tables_from S known (i + 1) (map f (drop (i + 1) ys)))
    ≡ behind_all sizes (tables_from S known i (map f (drop i ys)))
tables_next S known f sizes more one ys i y h e is pushed =
    let rest = tables_from S known (i + 1) (map f (drop (i + 1) ys)) in
    ap (λ m. behind_all m rest) pushed ∙ behind_both sizes one rest
    ∙ ap (behind_all sizes) (sym (at_next S known f ys i y h e ∙ ap (λ s. if_sized s rest) is))

-- a type that fails a rule
pub tables_fail : {Y : Type 0} (S : DeclaredSchema) (known : Known) (f : Y → DeclaredType) (sizes : List TableSizes)
    (fault : LayoutFault) (ys : List Y) (i : ℕ) (y : Y) → i < length ys → y ≡ get_or ys i y
    → type_sizes S known i (f y).body ≡ Err fault
    → behind_all sizes (tables_from S known i (map f (drop i ys))) ≡ Err fault
tables_fail S known f sizes fault ys i y h e is =
    ap (behind_all sizes)
    (at_next S known f ys i y h e ∙ ap (λ s. if_sized s (tables_from S known (i + 1) (map f (drop (i + 1) ys)))) is)

-- no type is left
pub tables_all : {Y : Type 0} (S : DeclaredSchema) (known : Known) (f : Y → DeclaredType) (sizes : List TableSizes)
    (ys : List Y) (i : ℕ) → length ys ≤ i → behind_all sizes (tables_from S known i (map f (drop i ys))) ≡ Ok sizes
tables_all S known f sizes ys i h = ap (λ r. behind_all sizes (tables_from S known i (map f r))) (drop_all i ys h)
    ∙ ap (behind_all sizes) (tables_from-nil S known i) ∙ ap Ok (append-nil sizes)
