-- Bytes have one least fault.
use Rattle.std.proofs.Common.{◌≡◌, inl, inr, ℕ, [], ◌∷◌, None, Some, sym, ◌∙◌}
use Rattle.fb_layout.specs.Laid.{LaidSchema}
use Rattle.fb_value.specs.declared.faults.ReadFault.{ReadFault}
use Rattle.fb_value.specs.Bounds.{Bounds}
use Rattle.fb_value.specs.Num.{Bytes}
use Rattle.fb_value.specs.Places.{Place}
use Rattle.fb_value.specs.Reached.{Path}
use Rattle.fb_value.specs.Faults.{FaultFrom, LeastFrom}
use Rattle.fb_value.specs.Laws.{OneLeastFault}
use Rattle.fb_value.proofs.reached.PathsAreInOrder.{same_path}

module _ (L : LaidSchema) (b : Bytes) (most : Bounds) where
  -- one fault stands at the end of a path
  one_at_path : (path : Path) (x : Place) (tables spent : ℕ) (f g : ReadFault)
      → FaultFrom L b most x tables spent path f → FaultFrom L b most x tables spent path g → f ≡ g
  one_at_path [] x tables spent f g p q = let both : Some f ≡ Some g = sym p ∙ q in cc
  one_at_path (k ∷ path) x tables spent f g p q =
      let named : Some (Some p.1) ≡ Some (Some q.1) = sym p.2 ∙ q.2 in
      let same : p.1 ≡ q.1 = cc in
      one_at_path path q.1 _ _ f g (rw (← same) p.3) q.3

  one_least : (x : Place) (tables spent : ℕ) (f g : ReadFault) → LeastFrom L b most x tables spent f
      → LeastFrom L b most x tables spent g → f ≡ g
  one_least x tables spent f g p q =
      let same : p.0 ≡ q.0 = same_path p.0 q.0 (λ before. q.2 p.0 f before p.1) (λ before. p.2 q.0 g before q.1) in
      one_at_path q.0 x tables spent f g (rw (← same) p.1)
      q.1

pub one_least_fault_shown : OneLeastFault
one_least_fault_shown p fault L most b f g (inl x) (inl y) = let both : Some f ≡ Some g = sym x ∙ y in cc
one_least_fault_shown p fault L most b f g (inl x) (inr y) = let clash : Some f ≡ None = sym x ∙ y.0 in cc
one_least_fault_shown p fault L most b f g (inr x) (inl y) = let clash : None ≡ Some g = sym x.0 ∙ y in cc
one_least_fault_shown p fault L most b f g (inr x) (inr y) = one_least L b most _ 0 0 f g x.1 y.1
