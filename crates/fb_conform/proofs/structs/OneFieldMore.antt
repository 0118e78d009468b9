-- Fields that are compared one after another.
use Rattle.std.proofs.Common.{◌≡◌, ℕ, zero, suc, ◌+◌, ◌<◌, ◌≤◌, Bool, true, false, nat_lt, List, [], ◌∷◌, length, map}
use Rattle.std.proofs.Common.{Some, slice_get, option_map, refl, sym, ap, ◌∙◌, arith}
use Rattle.std.proofs.lemmas.Bool.{ltb-true}
use Rattle.std.proofs.lemmas.Bool.Decides.{nat_tests}
use Rattle.std.proofs.lemmas.List.{length-map}
use Rattle.std.proofs.lemmas.Option.{slice_get-map}
use Rattle.fb_schema.specs.Schema.{DeclaredField, DeclaredSchema}
use Rattle.fb_conform.specs.ByName.{ShapeByName, shape_by_name, SameShape, SameFields}

-- the types of the fields below a number are the same
abbrev pub FieldsSame : DeclaredSchema → DeclaredSchema → List DeclaredField → List DeclaredField → ℕ → Type 0
FieldsSame S T fs gs n = (k : ℕ) (f g : DeclaredField) → k < n → slice_get fs k ≡ Some f → slice_get gs k ≡ Some g
    → SameShape S T f.shape g.shape

same_field : (f g : DeclaredField) → Some f ≡ Some g → f ≡ g
same_field f g e = cc

pub same_more : (S T : DeclaredSchema) (fs gs : List DeclaredField) (i : ℕ) (d e : DeclaredField)
    → slice_get fs i ≡ Some d → slice_get gs i ≡ Some e → SameShape S T d.shape e.shape → FieldsSame S T fs gs i
    → FieldsSame S T fs gs (i + 1)
same_more S T fs gs i d e was is here before k f g less h j = by (nat_lt k i) refl
  where
    by : (c : Bool) → nat_lt k i ≡ c → SameShape S T f.shape g.shape
    by true test = before k f g (ltb-true k i test) h j
    by false test =
        let last : k ≡ i = grind (arith, nat_tests, test, less) in
        let old : d ≡ f = same_field d f (sym was ∙ rw (← last) h) in
        let new : e ≡ g = same_field e g (sym is ∙ rw (← last) j) in
        rw (← old) (rw (← new) here)

pub same_all : (S T : DeclaredSchema) (fs gs : List DeclaredField) (n : ℕ) → length fs ≡ length gs → length fs ≤ n
    → FieldsSame S T fs gs n → SameFields S T fs gs
same_all S T [] [] n long past same = refl
same_all S T (f ∷ fs) (g ∷ gs) zero long past same = absurd (omega arith)
same_all S T (f ∷ fs) (g ∷ gs) (suc n) long past same =
    let rest : SameFields S T fs gs =
    same_all S T fs gs n (omega arith) (omega arith) (λ k d e less h j. same (suc k) d e (omega arith) h j) in
    let here : shape_by_name S f.shape ≡ shape_by_name T g.shape = same 0 f g (omega arith) refl refl in
    rw (here, rest) refl
same_all S T [] (g ∷ gs) n long past same = absurd (omega arith)
same_all S T (f ∷ fs) [] n long past same = absurd (omega arith)

same_shape : (x y : ShapeByName) → Some x ≡ Some y → x ≡ y
same_shape x y e = cc

-- where all are the same, so are those at one place
pub same_there : (S T : DeclaredSchema) (fs gs : List DeclaredField) (i : ℕ) (d e : DeclaredField)
    → slice_get fs i ≡ Some d → slice_get gs i ≡ Some e → SameFields S T fs gs → SameShape S T d.shape e.shape
same_there S T fs gs i d e was is same =
    let old : slice_get (map (λ f. shape_by_name S f.shape) fs) i ≡ Some (shape_by_name S d.shape) =
    slice_get-map (λ f. shape_by_name S f.shape) fs i ∙ ap (option_map (λ f. shape_by_name S f.shape)) was in
    let new : slice_get (map (λ f. shape_by_name T f.shape) gs) i ≡ Some (shape_by_name T e.shape) =
    slice_get-map (λ f. shape_by_name T f.shape) gs i ∙ ap (option_map (λ f. shape_by_name T f.shape)) is in
    same_shape _ _ (sym old ∙ ap (λ xs. slice_get xs i) same ∙ new)

-- Fields of the same types are as many.
pub same_length : (S T : DeclaredSchema) (fs gs : List DeclaredField) → SameFields S T fs gs → length fs ≡ length gs
same_length S T fs gs same = sym (length-map fs (λ f. shape_by_name S f.shape)) ∙ ap length same
    ∙ length-map gs (λ f. shape_by_name T f.shape)
