-- Steps over a list, one at a time.
use Rattle.std.proofs.Common.{◌≡◌, ◌<◌, ◌≤◌, ◌+◌, ◌++◌, ℕ, List, [], ◌∷◌, length, map, drop, get_or, Option, None, Some}
use Rattle.std.proofs.Common.{option_map, refl, ap, sym, ◌∙◌}
use Rattle.std.specs.Option.{option_and_then, option_map}
use Rattle.std.proofs.lemmas.List.{drop_more, drop_all}
use Rattle.fb_schema.specs.Schema.{DeclaredType, DeclaredSchema}
use Rattle.fb_layout.specs.Known.{Known, known_struct, known_from, each_added}

pub each_added-nil : {A X : Type 0} (step : A → X → Option A) (a : A) → each_added step a [] ≡ Some a
unfolding each_added
each_added-nil step a = refl

pub each_added-cons : {A X : Type 0} (step : A → X → Option A) (a : A) (x : X) (xs : List X)
    → each_added step a (x ∷ xs) ≡ option_and_then (λ b. each_added step b xs) (step a x)
unfolding each_added
each_added-cons step a x xs = refl

-- the next element
at_next : {A X Y : Type 0} (step : A → X → Option A) (f : Y → X) (a : A) (ys : List Y) (i : ℕ) (y : Y) → i < length ys
    → y ≡ get_or ys i y → each_added step a (map f (drop i ys))
    ≡ option_and_then (λ b. each_added step b (map f (drop (i + 1) ys))) (step a (f y))
at_next step f a ys i y h e =
    ap (λ r. each_added step a (map f r)) (drop_more ys i y h ∙ ap (λ z. z ∷ drop (i + 1) ys) (sym e))
    ∙ each_added-cons step a (f y) (map f (drop (i + 1) ys))

-- one step more, and one element less is left
pub added_next : {A X Y : Type 0} (step : A → X → Option A) (f : Y → X) (a b : A) (ys : List Y) (i : ℕ) (y : Y)
    → i < length ys → y ≡ get_or ys i y → step a (f y) ≡ Some b
    → each_added step b (map f (drop (i + 1) ys)) ≡ each_added step a (map f (drop i ys))
added_next step f a b ys i y h e is =
    sym (at_next step f a ys i y h e ∙ ap (option_and_then (λ c. each_added step c (map f (drop (i + 1) ys)))) is)

-- a step that there isn't
pub added_none : {A X Y : Type 0} (step : A → X → Option A) (f : Y → X) (a : A) (ys : List Y) (i : ℕ) (y : Y)
    → i < length ys → y ≡ get_or ys i y → step a (f y) ≡ None → each_added step a (map f (drop i ys)) ≡ None
added_none step f a ys i y h e is =
    at_next step f a ys i y h e ∙ ap (option_and_then (λ c. each_added step c (map f (drop (i + 1) ys)))) is

-- nothing is left
pub added_all : {A X Y : Type 0} (step : A → X → Option A) (f : Y → X) (a : A) (ys : List Y) (i : ℕ) → length ys ≤ i
    → each_added step a (map f (drop i ys)) ≡ Some a
added_all step f a ys i h = ap (λ r. each_added step a (map f r)) (drop_all i ys h) ∙ each_added-nil step a

pub step_none : {A B C : Type 0} (g : A → B) (find : C → Option A) (o : Option C) (c : C) → o ≡ Some c → find c ≡ None
    → option_and_then (λ x. option_map g (find x)) o ≡ None
step_none g find o c is found = ap (option_and_then (λ x. option_map g (find x))) is ∙ ap (option_map g) found

pub known_from-nil : (S : DeclaredSchema) (known : Known) → known_from S known [] ≡ known
unfolding known_from
known_from-nil S known = refl

pub known_from-cons : (S : DeclaredSchema) (known : Known) (type : DeclaredType) (types : List DeclaredType)
    → known_from S known (type ∷ types) ≡ known_from S (known ++ known_struct S known type.body ∷ []) types
unfolding known_from
known_from-cons S known type types = refl

-- one struct more is known, and one type less is left
pub known_next : {Y : Type 0} (S : DeclaredSchema) (f : Y → DeclaredType) (known more : Known) (ys : List Y) (i : ℕ)
    (y : Y) → i < length ys → y ≡ get_or ys i y → more ≡ known ++ known_struct S known (f y).body ∷ []
    → known_from S more (map f (drop (i + 1) ys)) ≡ known_from S known (map f (drop i ys))
known_next S f known more ys i y h e is =
    ap (λ k. known_from S k (map f (drop (i + 1) ys))) is
    ∙ sym (ap (λ r. known_from S known (map f r)) (drop_more ys i y h ∙ ap (λ z. z ∷ drop (i + 1) ys) (sym e))
    ∙ known_from-cons S known (f y) (map f (drop (i + 1) ys)))

pub known_all : {Y : Type 0} (S : DeclaredSchema) (f : Y → DeclaredType) (known : Known) (ys : List Y) (i : ℕ)
    → length ys ≤ i → known_from S known (map f (drop i ys)) ≡ known
known_all S f known ys i h = ap (λ r. known_from S known (map f r)) (drop_all i ys h) ∙ known_from-nil S known
