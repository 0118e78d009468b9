-- A fault of a leaf or a code is a rule that it breaks.
use Rattle.std.proofs.Common.{◌≡◌, ◌∙◌, ◌⊎◌, inl, inr, ℕ, zero, suc, ◌+◌, ◌<◌, ℤ, pos, negsuc, length, Bool, true}
use Rattle.std.proofs.Common.{false, true≢false, Option, Some, None, is_some, Result, Ok, Err, nat_lt, if◌then◌else◌}
use Rattle.std.proofs.Common.{refl, sym, subst, arith}
use Rattle.std.proofs.lemmas.Bool.Decides.{nat_tests}
use Rattle.std.proofs.lemmas.Int.{ints}
use Rattle.serde_json.specs.Data.{Num, Data, null, boolean, number, string, array, object}
use Rattle.serde_json.specs.Find.{as_integer}
use Rattle.fb_schema.specs.declared.kinds.Base.{Base}
use Rattle.fb_schema.specs.declared.kinds.Base.TheVariants.{Bool as Boolean, U8}
use Rattle.fb_schema.specs.declared.kinds.TypeId.{TypeId}
use Rattle.fb_schema.specs.declared.kinds.Kind.{Kind}
use Rattle.fb_schema.specs.declared.kinds.Kind.TheVariants.{Scalar, Enum, Struct, Table, Union, Code, Text}
use Rattle.fb_schema.specs.declared.kinds.Shape.{Shape}
use Rattle.fb_schema.specs.declared.kinds.Shape.TheVariants.{One, Many}
use Rattle.fb_schema.specs.Ranges.{holds}
use Rattle.fb_schema.specs.Schema.{DeclaredSchema, body_at, base_in}
use Rattle.fb_schema.specs.Found.{member_coded}
use Rattle.fb_schema.specs.WellDeclared.{InRange}
use Rattle.fb_layout.specs.Laid.{LaidSchema}
use Rattle.fb_json.specs.declared.faults.Place.{Place}
use Rattle.fb_json.specs.declared.faults.JsonFault.{JsonFault}
use Rattle.fb_json.specs.declared.faults.JsonFault.TheVariants.{WrongShape, NotWhole, OutOfRange, UnknownName}
use Rattle.fb_json.specs.declared.faults.JsonFault.TheVariants.{TooManyCells}
use Rattle.fb_json.specs.Outcome.{spent}
use Rattle.fb_schema.specs.Paths.{code_by_path}
use Rattle.fb_schema.proofs.NumbersInRange.{holds_in_range}
use Rattle.fb_json.specs.Flags.{number_told}
use Rattle.fb_json.specs.Leaves.{in_range, boolean_in, scalar_meant, enum_meant, text_meant, leaf_meant, code_numbered}
use Rattle.fb_json.specs.Leaves.{code_told}
use Rattle.fb_json.specs.Meant.{meant}
use Rattle.fb_json.specs.Breaks.{may_be, base_of, OwnBreaks, ToldBreaks, Breaks, here}
use Rattle.fb_json.specs.Laws.{IsLimit}
use Rattle.fb_json.proofs.laws.EachStepOfABindSucceeds.{bind_err, or_err}

pub err_inj : {A : Type 0} (a b : JsonFault) → ◌≡◌ {A = Result A JsonFault} (Err a) (Err b) → a ≡ b
err_inj a b h = cc

pub no_err : {A : Type 0} (a : A) (f : JsonFault) → ◌≡◌ {A = Result A JsonFault} (Ok a) (Err f) → ⊥
no_err a f h = cc

abbrev pub Refused : LaidSchema → Bool → Data → Shape → Place → JsonFault → Type 0
Refused L unknown t shape at f = IsLimit f ⊎ Breaks L unknown t shape at f

-- ---- leaves

module _ (S : DeclaredSchema) (at : Place) where
  pub range_by : (b : Bool) (shape : Shape) (base : Base) (x : Num) (n : ℤ) (f : JsonFault)
      → base_of S shape ≡ Some base → as_integer x ≡ Some n → holds base n ≡ b
      → ◌≡◌ {A = Result ℤ JsonFault} (if b then Ok n else Err (OutOfRange at)) (Err f)
      → OwnBreaks S (number x) shape at f
  range_by true shape base x n f has is held h = absurd (no_err n f h)
  range_by false shape base x n f has is held h =
      let out : InRange base n → ⊥ = λ within. true≢false (sym (holds_in_range base n within) ∙ held) in
      subst (OwnBreaks S (number x) shape at) (err_inj {A = ℤ} (OutOfRange at) f h) (refl, (base, has, (n, is, out)))

  pub in_range_broken : (shape : Shape) (base : Base) (x : Num) (o : Option ℤ) (f : JsonFault)
      → base_of S shape ≡ Some base → as_integer x ≡ o → in_range base at o ≡ Err f → OwnBreaks S (number x) shape at f
  in_range_broken shape base x None f has is h =
      subst (OwnBreaks S (number x) shape at) (err_inj {A = ℤ} (NotWhole at) f h) (refl, (base, has, is))
  in_range_broken shape base x (Some n) f has is h = range_by (holds base n) shape base x n f has is refl h

  pub wrong : (A : Type 0) (t : Data) (shape : Shape) (f : JsonFault) → may_be t shape ≡ false
      → ◌≡◌ {A = Result A JsonFault} (Err (WrongShape at)) (Err f) → OwnBreaks S t shape at f
  wrong A t shape f never h = subst (OwnBreaks S t shape at) (err_inj {A = A} (WrongShape at) f h) (refl, never)

  pub boolean_broken : (base : Base) (b : Bool) (f : JsonFault) → boolean_in base b at ≡ Err f
      → OwnBreaks S (boolean b) (One (Scalar base)) at f
  boolean_broken Boolean true f h = absurd (no_err (pos 1) f h)
  boolean_broken Boolean false f h = absurd (no_err (pos 0) f h)
  boolean_broken base b f h = wrong ℤ (boolean b) (One (Scalar base)) f refl h

  pub scalar_broken : (base : Base) (t : Data) (f : JsonFault) → scalar_meant base t at ≡ Err f
      → OwnBreaks S t (One (Scalar base)) at f
  unfolding scalar_meant
  scalar_broken base (number x) f h = in_range_broken (One (Scalar base)) base x (as_integer x) f refl refl h
  scalar_broken base (boolean b) f h = boolean_broken base b f h
  scalar_broken base null f h = wrong ℤ null (One (Scalar base)) f refl h
  scalar_broken base (string s) f h = wrong ℤ (string s) (One (Scalar base)) f refl h
  scalar_broken base (array ts) f h = wrong ℤ (array ts) (One (Scalar base)) f refl h
  scalar_broken base (object ms) f h = wrong ℤ (object ms) (One (Scalar base)) f refl h

  pub enum_broken : (e : TypeId) (t : Data) (f : JsonFault) → enum_meant S e.0 t at ≡ Err f
      → OwnBreaks S t (One (Enum e)) at f
  unfolding enum_meant
  enum_broken e (number x) f h = in_range_broken (One (Enum e)) (base_in (body_at S e.0)) x (as_integer x) f refl refl h
  enum_broken e (string s) f h =
      let none = or_err (number_told S e.0 s) (UnknownName at) f h in
      subst (OwnBreaks S (string s) (One (Enum e)) at) none.1 (refl, none.0)
  enum_broken e null f h = wrong ℤ null (One (Enum e)) f refl h
  enum_broken e (boolean b) f h = wrong ℤ (boolean b) (One (Enum e)) f refl h
  enum_broken e (array ts) f h = wrong ℤ (array ts) (One (Enum e)) f refl h
  enum_broken e (object ms) f h = wrong ℤ (object ms) (One (Enum e)) f refl h

pub spent_by : (b : Bool) (n m : ℕ) (at : Place) (f : JsonFault)
    → ◌≡◌ {A = Result ℕ JsonFault} (if b then Err (TooManyCells at) else Ok m) (Err f) → IsLimit f
spent_by true n m at f h = subst IsLimit (err_inj {A = ℕ} (TooManyCells at) f h) tt
spent_by false n m at f h = absurd (no_err m f h)

pub spent_limit : (n : ℕ) (at : Place) (left : ℕ) (f : JsonFault) → spent n at left ≡ Err f → IsLimit f
spent_limit n at left f h = spent_by (nat_lt left n) n _ at f h

module _ (L : LaidSchema) (unknown : Bool) where
  pub own : (t : Data) (shape : Shape) (at : Place) (f : JsonFault) → OwnBreaks L.schema t shape at f
      → Refused L unknown t shape at f
  own t shape at f h = inr (here t shape at f h)

  pub text_broken : (t : Data) (at : Place) (left : ℕ) (f : JsonFault) → text_meant t at left ≡ Err f
      → Refused L unknown t (One Text) at f
  unfolding text_meant
  text_broken (string s) at left f h =
      elim (bind_err (spent (1 + length s) at left) _ f h) as (λ _. Refused L unknown (string s) (One Text) at f)
      [ inl e ↦ inl (spent_limit (1 + length s) at left f e) | inr x ↦ absurd (no_err _ f x.2) ]
  text_broken null at left f h = own null (One Text) at f (wrong L.schema at _ null (One Text) f refl h)
  text_broken (boolean b) at left f h =
      own (boolean b) (One Text) at f (wrong L.schema at _ (boolean b) (One Text) f refl h)
  text_broken (number x) at left f h =
      own (number x) (One Text) at f (wrong L.schema at _ (number x) (One Text) f refl h)
  text_broken (array ts) at left f h =
      own (array ts) (One Text) at f (wrong L.schema at _ (array ts) (One Text) f refl h)
  text_broken (object ms) at left f h =
      own (object ms) (One Text) at f (wrong L.schema at _ (object ms) (One Text) f refl h)

  -- what no leaf may be
  abbrev pub IsNoTree : Data → Type 0
  IsNoTree t = ((s : TypeId) → may_be t (One (Struct s)) ≡ false) × ((s : TypeId) → may_be t (One (Table s)) ≡ false)
      × ((s : TypeId) → may_be t (One (Union s)) ≡ false) × ((s : TypeId) → may_be t (One (Code s)) ≡ false)
      × ((k : Kind) → may_be t (Many k) ≡ false)

  pub leaf_broken : (t : Data) (shape : Shape) (at : Place) (left : ℕ) (f : JsonFault) → IsNoTree t
      → leaf_meant L.schema t shape at left ≡ Err f → Refused L unknown t shape at f
  unfolding leaf_meant
  leaf_broken t (One (Scalar base)) at left f never h =
      elim (bind_err (scalar_meant base t at) _ f h) as (λ _. Refused L unknown t (One (Scalar base)) at f) [
        | inl e ↦ own t (One (Scalar base)) at f (scalar_broken L.schema at base t f e)
        | inr x ↦
            absurd (no_err _ f x.2)
      ]
  leaf_broken t (One (Enum id)) at left f never h =
      elim (bind_err (enum_meant L.schema id.0 t at) _ f h) as (λ _. Refused L unknown t (One (Enum id)) at f)
      [ inl e ↦ own t (One (Enum id)) at f (enum_broken L.schema at id t f e) | inr x ↦ absurd (no_err _ f x.2) ]
  leaf_broken t (One Text) at left f never h = text_broken t at left f h
  leaf_broken t (One (Struct s)) at left f never h =
      own t (One (Struct s)) at f (wrong L.schema at _ t (One (Struct s)) f (never.0 s) h)
  leaf_broken t (One (Table s)) at left f never h =
      own t (One (Table s)) at f (wrong L.schema at _ t (One (Table s)) f (never.1 s) h)
  leaf_broken t (One (Union s)) at left f never h =
      own t (One (Union s)) at f (wrong L.schema at _ t (One (Union s)) f (never.2 s) h)
  leaf_broken t (One (Code s)) at left f never h =
      own t (One (Code s)) at f (wrong L.schema at _ t (One (Code s)) f (never.3 s) h)
  leaf_broken t (Many k) at left f never h = own t (Many k) at f (wrong L.schema at _ t (Many k) f (never.4 k) h)

  abbrev pub BrokenAt : Data → Type 0
  BrokenAt t = (shape : Shape) (at : Place) (levels left : ℕ) (f : JsonFault) → meant L unknown t shape at levels left
      ≡ Err f → Refused L unknown t shape at f

-- ---- codes

module _ (S : DeclaredSchema) (u : ℕ) (at : Place) where
  pub none_of : {A : Type 0} (o : Option A) → is_some o ≡ false → o ≡ None
  none_of None h = refl
  none_of (Some x) h = cc

  pub coded_broken : (b d : Bool) (n : ℕ) (x : Num) (f : JsonFault) → nat_lt 255 (suc n) ≡ b
      → is_some (member_coded (body_at S u) (suc n)) ≡ d → as_integer x ≡ Some (pos (suc n))
      → ◌≡◌ {A = Result ℕ JsonFault}
      (if b then Err (OutOfRange at) else (if d then Ok (suc n) else Err (UnknownName at))) (Err f)
      → ToldBreaks S u (number x) at f
  coded_broken true d n x f big named is h =
      let over : InRange U8 (pos (suc n)) → ⊥ = λ within. let high = within.1 in let much : 255 < suc n =
      grind (arith, nat_tests) in omega (arith, ints) in
      subst (ToldBreaks S u (number x) at) (err_inj {A = ℕ} (OutOfRange at) f h) (refl, (pos (suc n), is, over))
  coded_broken false true n x f big named is h = absurd (no_err (suc n) f h)
  coded_broken false false n x f big named is h =
      subst (ToldBreaks S u (number x) at) (err_inj {A = ℕ} (UnknownName at) f h)
      (refl, (n, is, none_of (member_coded (body_at S u) (suc n)) named))

  pub numbered_broken : (x : Num) (o : Option ℤ) (f : JsonFault) → as_integer x ≡ o → code_numbered S u at o ≡ Err f
      → ToldBreaks S u (number x) at f
  numbered_broken x None f is h = subst (ToldBreaks S u (number x) at) (err_inj {A = ℕ} (WrongShape at) f h) (refl, is)
  numbered_broken x (Some (negsuc n)) f is h =
      let under : InRange U8 (negsuc n) → ⊥ = λ within. let low = within.0 in omega (arith, ints) in
      subst (ToldBreaks S u (number x) at) (err_inj {A = ℕ} (OutOfRange at) f h) (refl, (negsuc n, is, under))
  numbered_broken x (Some (pos zero)) f is h = absurd (no_err 0 f h)
  numbered_broken x (Some (pos (suc n))) f is h =
      coded_broken (nat_lt 255 (suc n)) (is_some (member_coded (body_at S u) (suc n))) n x f refl refl is h

  pub told_broken : (t : Data) (f : JsonFault) → code_told S u t at ≡ Err f → ToldBreaks S u t at f
  unfolding code_told
  told_broken null f h = absurd (no_err 0 f h)
  told_broken (number x) f h = numbered_broken x (as_integer x) f refl h
  told_broken (string s) f h =
      let none = or_err (code_by_path S u s) (UnknownName at) f h in
      subst (ToldBreaks S u (string s) at) none.1 (refl, none.0)
  told_broken (boolean b) f h = subst (ToldBreaks S u (boolean b) at) (err_inj {A = ℕ} (WrongShape at) f h) refl
  told_broken (array ts) f h = subst (ToldBreaks S u (array ts) at) (err_inj {A = ℕ} (WrongShape at) f h) refl
  told_broken (object ms) f h = subst (ToldBreaks S u (object ms) at) (err_inj {A = ℕ} (WrongShape at) f h) refl
