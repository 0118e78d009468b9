-- The least fault of lists: of joined ones, of a list in turn, and what it says of the list.
use Rattle.std.proofs.Common.{◌≡◌, ◌<◌, ◌+◌, ◌++◌, ◌==◌, ◌&&◌, ◌||◌, nat_lt, ℕ, Bool, true, false, List, [], ◌∷◌}
use Rattle.std.proofs.Common.{length, map, take, get_or, cond, Contains, Option, None, Some, refl, ap, sym, ◌∙◌}
use Rattle.std.proofs.Common.{append_assoc, arith}
use Rattle.std.specs.List.{list_any}
use Rattle.std.proofs.Math.Bool.{or-false, or_comm}
use Rattle.std.proofs.lemmas.List.{append-nil, map_push, take_more}
use Rattle.std.proofs.lemmas.List.Folds.{list_any-append}
use Rattle.std.proofs.lemmas.List.Elements.{Contains-append_right}
use Rattle.std.proofs.lemmas.Option.{none-some, same_Some}
use Rattle.fb_declare.specs.declared.faults.SchemaFault.{SchemaFault}
use Rattle.fb_declare.specs.FaultTable.{number_of}
use Rattle.fb_declare.specs.Faults.{at_of, comes_before, earlier, least_of}
use Rattle.fb_declare.specs.FaultRows.{faults_behind, faults_in_turn}
use Rattle.fb_declare.proofs.FaultFree.{either}

abbrev is_less : ℕ → ℕ → ℕ → ℕ → Bool
is_less a n b m = nat_lt a b || (a == b && nat_lt n m)

less_less : (a n b m c k : ℕ) → is_less c k b m ≡ true → is_less b m a n ≡ true → is_less c k a n ≡ true
less_less a n b m c k p q = grind (arith)

not_less : (a n b m c k : ℕ) → is_less c k b m ≡ false → is_less b m a n ≡ false → is_less c k a n ≡ false
not_less a n b m c k p q = grind (arith)

-- the first of three faults is the first in whichever order they are compared
three : (f g h : SchemaFault) → earlier (earlier (Some f) (Some g)) (Some h) ≡ earlier (Some f)
    (earlier (Some g) (Some h))
three f g h = grind (
  arith,
  less_less (at_of f) (number_of f) (at_of g) (number_of g) (at_of h) (number_of h),
  not_less (at_of f) (number_of f) (at_of g) (number_of g) (at_of h) (number_of h),
)

earlier_assoc : (f g h : Option SchemaFault) → earlier (earlier f g) h ≡ earlier f (earlier g h)
earlier_assoc None g h = refl
earlier_assoc (Some f) None h = refl
earlier_assoc (Some f) (Some g) None = either (λ o. earlier o None ≡ o) (comes_before g f) (Some g) (Some f)
    (λ is. refl) refl
earlier_assoc (Some f) (Some g) (Some h) = three f g h

pub least_of_append : (fs gs : List SchemaFault) → least_of (fs ++ gs) ≡ earlier (least_of fs) (least_of gs)
least_of_append [] gs = refl
least_of_append (f ∷ fs) gs = ap (earlier (Some f)) (least_of_append fs gs)
    ∙ sym (earlier_assoc (Some f) (least_of fs) (least_of gs))

-- ---- one element more at a time

-- the elements up to one, and that one
pub taken : {X : Type 0} (xs : List X) (i : ℕ) (x : X) → i < length xs → x ≡ get_or xs i x
    → take (i + 1) xs ≡ take i xs ++ x ∷ []
taken xs i x h e = take_more xs i x h ∙ ap (λ y. take i xs ++ y ∷ []) (sym e)

faults_behind-snoc : {X : Type 0} (rule : List X → X → List SchemaFault) (before xs : List X) (x : X)
    → faults_behind rule before (xs ++ x ∷ []) ≡ faults_behind rule before xs ++ rule (before ++ xs) x
faults_behind-snoc rule before [] x = append-nil (rule before x) ∙ ap (λ b. rule b x) (sym (append-nil before))
faults_behind-snoc rule before (y ∷ xs) x =
    ap (λ fs. rule before y ++ fs) (faults_behind-snoc rule (before ++ y ∷ []) xs x
    ∙ ap (λ b. faults_behind rule (before ++ y ∷ []) xs ++ rule b x) (append_assoc before (y ∷ []) xs))
    ∙ sym (append_assoc (rule before y) (faults_behind rule (before ++ y ∷ []) xs) (rule (before ++ y ∷ xs) x))

-- the next element, by a rule that looks at those before it
pub least_more : {X : Type 0} (rule : List X → X → List SchemaFault) (xs : List X) (i : ℕ) (x : X) → i < length xs
    → x ≡ get_or xs i x
    → earlier (least_of (faults_in_turn rule (take i xs))) (least_of (rule (take i xs) x)) ≡ least_of
    (faults_in_turn rule (take (i + 1) xs))
least_more rule xs i x h e = sym (least_of_append (faults_behind rule [] (take i xs)) (rule (take i xs) x))
    ∙ ap least_of (sym (ap (faults_behind rule []) (taken xs i x h e) ∙ faults_behind-snoc rule [] (take i xs) x))

pub map-taken : {X K : Type 0} (key : X → K) (xs : List X) (i : ℕ) (x : X) → i < length xs → x ≡ get_or xs i x
    → map key (take (i + 1) xs) ≡ map key (take i xs) ++ key x ∷ []
map-taken key xs i x h e = ap (map key) (taken xs i x h e) ∙ map_push key (take i xs) x

pub list_any-snoc : {X : Type 0} (test : X → Bool) (xs : List X) (x : X)
    → list_any test (xs ++ x ∷ []) ≡ list_any test xs || test x
list_any-snoc test xs x = list_any-append test xs (x ∷ []) ∙ ap (λ b. list_any test xs || b) (or-false (test x))

-- one more in a set
pub one_more : (here there : Bool) → cond here true there ≡ (there || here)
one_more true there = or_comm true there
one_more false there = or_comm false there

-- ---- the fault that is told

earlier_some : (f : SchemaFault) (g : Option SchemaFault) → earlier (Some f) g ≡ None → ⊥
earlier_some f None h = none-some f (sym h)
earlier_some f (Some g) h = either (λ o. o ≡ None → ⊥) (comes_before g f) (Some g) (Some f)
    (λ is e. none-some g (sym e)) (λ e. none-some f (sym e)) h

-- no least fault: none at all
pub least_none : (fs : List SchemaFault) → least_of fs ≡ None → fs ≡ []
least_none [] h = refl
least_none (f ∷ fs) h = absurd (earlier_some f (least_of fs) h)

contained_by : (f g : SchemaFault) (fs : List SchemaFault) (o : Option SchemaFault)
    → ((h : SchemaFault) → o ≡ Some h → Contains fs h) → earlier (Some g) o ≡ Some f → Contains (g ∷ fs) f
contained_by f g fs None rest e = (0, omega arith, same_Some g f e)
contained_by f g fs (Some h) rest e = either (λ o. o ≡ Some f → Contains (g ∷ fs) f) (comes_before h g) (Some h)
    (Some g)
    (λ is e. Contains-append_right (g ∷ []) fs f (rest f e)) (λ e. (0, omega arith, same_Some g f e)) e

-- the least fault is one of them
pub least_some : (fs : List SchemaFault) (f : SchemaFault) → least_of fs ≡ Some f → Contains fs f
least_some [] f e = cc
least_some (g ∷ fs) f e = contained_by f g fs (least_of fs) (λ h is. least_some fs h is) e
