-- Values pass from a layout to one that agrees with it, and back; so what bytes hold they hold, moved.
use Rattle.std.proofs.Common.{◌≡◌, ℕ, ◌+◌, ◌<◌, ◌↔◌, Bool, true, false, List, [], ◌∷◌, map, None, Some, ℤ}
use Rattle.std.proofs.Common.{refl, sym, ap, subst, ◌∙◌, arith}
use Rattle.std.specs.Option.{unwrap_or}
use Rattle.fb_schema.specs.declared.kinds.Base.{Base}
use Rattle.fb_layout.specs.Laid.{LaidSchema, Slot, StoredKind, scalar_kind, struct_kind, union_kind}
use Rattle.fb_layout.specs.Laid.{StoredShape, one_of, vector_of, parts_of, struct_at, size_of}
use Rattle.fb_layout.specs.Laid.{member_by_code}
use Rattle.fb_value.specs.Datum.{Datum, a_number, a_struct, Parts, no_parts, more_parts}
use Rattle.fb_value.specs.Holds.{front_of, checked_identifier}
use Rattle.fb_value.specs.Lies.{LiesInline, LiesParts}
use Rattle.fb_value.specs.Num.{Bytes}
use Rattle.fb_value.specs.Places.{Target, vector_part, Sort, ref_place, part_place}
use Rattle.fb_value.specs.Places.{inline_place}
use Rattle.fb_value.specs.Rules.{is_union}
use Rattle.fb_conform.specs.Back.{taking_back, if_known}
use Rattle.fb_conform.specs.Carry.{carrying}
use Rattle.fb_conform.specs.Laws.{CarriedHolds, BackHolds}
use Rattle.fb_conform.specs.Twins.{to_new}
use Rattle.fb_conform.proofs.laws.ConformingLayoutsAgree.{agrees, twins}
use Rattle.fb_conform.proofs.laws.LayoutsAgree.{SlotStays, Grown, types_in, Agrees}
use Rattle.fb_conform.proofs.laws.MovedIsNoLarger.{depth_carried, cells_carried, depth_back, cells_back}
use Rattle.fb_conform.proofs.laws.MovedLiesUnderTheOtherLayout.{root_moved}
use Rattle.fb_conform.proofs.laws.MovementsBetweenLayouts.{SlotsPass, Passes}
use Rattle.fb_conform.proofs.laws.OldTypesByTheirNewNumbers.{moved_kind, moved_shape, moved_target, moved_sort}
use Rattle.fb_conform.proofs.laws.OldTypesByTheirNewNumbers.{KnownKind, KnownKinds}
use Rattle.fb_conform.proofs.laws.RulesHoldUnderBothLayouts.{keeps_moved, keeps_back, size_moved}
use Rattle.fb_conform.proofs.laws.SlotsNameTheSamePlaces.{next_same, same_number}
use Rattle.fb_conform.proofs.laws.WholeValuesHaveNoUnknownCode.{all_whole}
use Rattle.fb_conform.proofs.twins.TypesAreFoundByTheirNames.{named_twin, new_name}

kind_same : (kind : StoredKind) → moved_kind (λ t. t) kind ≡ kind
kind_same (scalar_kind base) = refl
kind_same _ = refl

shape_same : (s : StoredShape) → moved_shape (λ t. t) s ≡ s
shape_same (one_of kind) = ap one_of (kind_same kind)
shape_same (vector_of kind) = ap vector_of (kind_same kind)

target_same : (X : Target) → moved_target (λ t. t) X ≡ X
target_same (vector_part kind) = ap vector_part (kind_same kind)
target_same _ = refl

sort_same : (s : Sort) → moved_sort (λ t. t) s ≡ s
sort_same (ref_place X) = ap ref_place (target_same X)
sort_same (part_place X) = ap part_place (target_same X)
sort_same (inline_place kind) = ap inline_place (kind_same kind)
sort_same _ = refl

-- what is known of a slot's value that is no union's
plain_known : (A : LaidSchema) (s : StoredShape) (d e : Datum) → is_union s ≡ false → if_known A s d e ≡ e
plain_known A (one_of (union_kind u)) d e plain = cc
plain_known A _ d e plain = refl

module _ (A B : LaidSchema) (agrees : Agrees A B) where
  -- numbers and structs stay
  mutual
    inline_both : (b : Bytes) (kind : StoredKind) (p : ℕ) (d : Datum) → KnownKind (types_in A) kind
        → LiesInline A b kind p d ↔ LiesInline B b (moved_kind (to_new A B) kind) p d
    inline_both b (scalar_kind base) p (a_number n) known = (λ lies. lies, λ lies. lies)
    inline_both b (struct_kind s) p (a_struct ds) known =
        let stays = agrees.structs s known in
        subst (λ (os : List ℕ). LiesParts A b (parts_of A s) (struct_at A s).offsets p ds
        ↔ LiesParts B b (parts_of B (to_new A B s)) os p ds) (sym stays.offsets)
        (rw stays.kinds (parts_both b (parts_of A s) (struct_at A s).offsets p ds stays.known))
    inline_both b _ p _ known = (λ lies. absurd lies, λ lies. absurd lies)

    parts_both : (b : Bytes) (ks : List StoredKind) (os : List ℕ) (p : ℕ) (ds : Parts) → KnownKinds (types_in A) ks
        → LiesParts A b ks os p ds ↔ LiesParts B b (map (moved_kind (to_new A B)) ks) os p ds
    parts_both b [] os p no_parts known = (λ lies. lies, λ lies. lies)
    parts_both b (k ∷ ks) (o ∷ os) p (more_parts d ds) known =
        let one = inline_both b k (p + o) d known.0 in
        let rest = parts_both b ks os p ds known.1 in
        (λ lies. (one.0 lies.0, rest.0 lies.1), λ lies. (one.1 lies.0, rest.1 lies.1))
    parts_both b _ _ p _ known = (λ lies. absurd lies, λ lies. absurd lies)

  slots_forth : (fs gs : List Slot) → Grown (to_new A B) (types_in A) fs gs
      → SlotsPass (λ t. t) (to_new A B) (types_in A) (carrying A B) fs gs
  slots_forth [] gs grown = refl
  slots_forth (f ∷ fs) [] grown = tt
  slots_forth (f ∷ fs) (g ∷ gs) grown =
      let stays = grown.0 in (
        record {
          shape = f.shape;
          known = stays.known;
          here = sym (shape_same f.shape);
          there = stays.shape;
          absent = λ here there. stays.absent there;
          number = stays.number;
          left = stays.left;
          gone = stays.gone;
          free = λ gone used ss. let bad : true ≡ false = sym gone ∙ stays.in_use used in cc;
        },
        next_same (to_new A B) (types_in A) fs gs grown.1,
        slots_forth fs gs grown.1,
      )

  slots_back : (fs gs : List Slot) → Grown (to_new A B) (types_in A) fs gs
      → SlotsPass (to_new A B) (λ t. t) (types_in A) (taking_back A B) gs fs
  slots_back [] [] grown = refl
  slots_back [] (g ∷ gs) grown = tt
  slots_back (f ∷ fs) [] grown = absurd grown
  slots_back (f ∷ fs) (g ∷ gs) grown =
      let stays = grown.0 in (
        record {
          shape = f.shape;
          known = stays.known;
          here = stays.shape;
          there = sym (shape_same f.shape);
          absent = λ here there. sym (stays.absent here);
          number = λ i e. by stays i e g.deprecated refl;
          left = stays.gone;
          gone = stays.left;
          free = λ gone used ss. refl;
        },
        sym (next_same (to_new A B) (types_in A) fs gs grown.1),
        slots_back fs gs grown.1,
      )
    where
      by : SlotStays (to_new A B) (types_in A) f g → (i : ℤ) → g.if_absent ≡ Some i → (gone : Bool)
          → g.deprecated ≡ gone → (base : Base) × (f.shape ≡ one_of (scalar_kind base))
      by stays i e true gone = let bad : None ≡ Some i = sym (stays.gone gone) ∙ e in cc
      by stays i e false used = stays.number i (sym (stays.absent used) ∙ e)

  no_loss : (u c t : ℕ) → u < types_in A → member_by_code A u c ≡ Some t → member_by_code B (to_new A B u) c ≡ None
      → ⊥
  no_loss u c t known is none =
      let bad : None ≡ Some (to_new A B t) = sym none ∙ (agrees.members u c t known is).1 in cc

  pub forth : Passes A A B (λ t. t) (to_new A B) (carrying A B) (Unit {0})
  forth = record {
    type = λ t known. refl;
    there = λ t. refl;
    slots = λ t known. slots_forth _ _ (agrees.slots t known);
    keeps = λ b s p known keeps. keeps_moved A B agrees b s p known (rw (sort_same s) at keeps);
    size = λ kind known. size_moved A B agrees kind known ∙ ap (size_of A) (sym (kind_same kind));
    inline = λ b kind p d known lies. (inline_both b kind p d known).0 (rw (kind_same kind) at lies);
    member = λ u c t z known here there.
        let fact = agrees.members u c t known here in
        (t, fact.0, refl, same_number _ _ (sym there ∙ fact.1));
    stays = λ u c z d e there. refl;
    lost = λ u c t d e known here there. absurd (no_loss u c t known here there);
    new = λ u c z known here there. tt;
    number = λ u n e. refl;
    other = λ u c e. refl;
    plain = λ s d e plain. refl;
    absent = λ g ss none. refl;
  }

  pub back_again : ((t : ℕ) → t < types_in A → to_new B A (to_new A B t) ≡ t)
      → Passes A B A (to_new A B) (λ t. t) (taking_back A B) ⊥
  back_again returns = record {
    type = returns;
    there = λ t. refl;
    slots = λ t known. slots_back _ _ (agrees.slots t known);
    keeps = λ b s p known keeps. rw (sort_same s) (keeps_back A B agrees b s p known keeps);
    size = λ kind known. ap (size_of A) (kind_same kind) ∙ sym (size_moved A B agrees kind known);
    inline = λ b kind p d known lies. rw (kind_same kind) ((inline_both b kind p d known).1 lies);
    member = λ u c t z known here there.
        let fact = agrees.members u c z known there in
        (z, fact.0, same_number _ _ (sym here ∙ fact.1), refl);
    stays = λ u c z d e there. rw there refl;
    lost = λ u c t d e known here there. rw there refl;
    new = λ u c z known here there. no_loss u c z known there here;
    number = λ u n e. refl;
    other = λ u c e. refl;
    plain = λ s d e plain. plain_known A s d e plain;
    absent = λ g ss none. rw none refl;
  }

asked_same : (A B : LaidSchema) (raw : Bool) → B.schema.identifier ≡ A.schema.identifier
    → checked_identifier B raw ≡ checked_identifier A raw
asked_same A B true e = refl
asked_same A B false e = e

-- what bytes hold under a layout they hold, carried, under one that conforms
pub carried_holds : CarriedHolds
carried_holds prefixed A B most raw b v old new conforms whole only holds =
    let fits = agrees A B old new conforms in
    record {
      header = rw (asked_same A B raw fits.identifier) holds.header;
      lies = root_moved A A B (λ t. t) (to_new A B) (carrying A B) (Unit {0}) (forth A B fits) b
          (front_of prefixed) A.schema.root v
          fits.root_known refl fits.root (λ need. all_whole v whole) only holds.lies;
      deep = omega (arith, depth_carried A B v, holds.deep);
      small = omega (arith, cells_carried A B v, holds.small);
    }

-- and what they hold under the later one they hold, taken back, under the older one
pub back_holds : BackHolds
back_holds prefixed A B most raw b v old new conforms only holds =
    let fits = agrees A B old new conforms in
    let returns : (t : ℕ) → t < types_in A → to_new B A (to_new A B t) ≡ t = λ t known.
    let name = new_name A.schema B.schema t (to_new A B t) (twins A B old new conforms t known) in
    ap (λ o. unwrap_or o 0) (named_twin B.schema A.schema old.declared (to_new A B t) t known name)
    in
    record {
      header = rw (← asked_same A B raw fits.identifier) holds.header;
      lies = root_moved A B A (to_new A B) (λ t. t) (taking_back A B) ⊥ (back_again A B fits returns) b
          (front_of prefixed) A.schema.root v
          fits.root_known fits.root refl (λ never. absurd never) only holds.lies;
      deep = omega (arith, depth_back A B v, holds.deep);
      small = omega (arith, cells_back A B v, holds.small);
    }
