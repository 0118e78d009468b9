use Rattle.std.proofs.Common.{◌≡◌, ◌∙◌, sym}
use Rattle.std.proofs.lemmas.Bool.Decides.{Decides-and, Decides-at, Decides-eqb, Decides-like}
use Rattle.std.proofs.lemmas.Slice.Eq.{bytes_eq-Decides}
use Rattle.std.specs.Bool.{Decides}
use Rattle.std.specs.Cmp.{booleans_Decides}
use Rattle.fb_faults.specs.declared.faults.ToolFault.{ToolFault}
use Rattle.flatc_c.specs.Faults.{IsTold}
use Rattle.flatc_c.specs.declared.faults.Fault.{Fault}
use Rattle.flatc_c.proofs.faults.Fault.tells.Goals as goal

-- Each field is the same, in the order in which `==` compares them.
abbrev Same : Fault → Fault → Type 0
Same a b = (a.offset ≡ b.offset) × ((a.type_id ≡ b.type_id) × ((a.slot ≡ b.slot) × ((a.number ≡ b.number)
    × ((a.has_offset ≡ b.has_offset) × ((a.has_type ≡ b.has_type) × ((a.has_slot ≡ b.has_slot)
    × ((a.reserved ≡ b.reserved) × (a.name ≡ b.name))))))))

told_too : (a b : Fault) (f : ToolFault) → IsTold b f → Same a b → IsTold a f
told_too a b f told same = record {
  number = same.1.1.1.0 ∙ told.number;
  name = same.1.1.1.1.1.1.1.1 ∙ told.name;
  has_offset = same.1.1.1.1.0 ∙ told.has_offset;
  offset = same.0 ∙ told.offset;
  has_type = same.1.1.1.1.1.0 ∙ told.has_type;
  owner = same.1.0 ∙ told.owner;
  has_slot = same.1.1.1.1.1.1.0 ∙ told.has_slot;
  slot = same.1.1.0 ∙ told.slot;
  reserved = same.1.1.1.1.1.1.1.0 ∙ told.reserved;
}

both_told : (a b : Fault) (f : ToolFault) → IsTold a f → IsTold b f → Same a b
both_told a b f one other = (
  one.offset ∙ sym other.offset,
  (
    one.owner ∙ sym other.owner,
    (
      one.slot ∙ sym other.slot,
      (
        one.number ∙ sym other.number,
        (
          one.has_offset ∙ sym other.has_offset,
          (
            one.has_type ∙ sym other.has_type,
            (
              one.has_slot ∙ sym other.has_slot,
              (
                one.reserved ∙ sym other.reserved,
                one.name ∙ sym other.name,
              ),
            ),
          ),
        ),
      ),
    ),
  ),
)

pub returns : goal.returns
returns c =
    let a = c.args.self.now in
    let b = c.c_fault.result in
    let compared : Decides c.eq.result (Same a b) = Decides-at _ _ c.eq.ensures
    (Decides-and _ _ (Decides-eqb _ _) (Decides-and _ _ (Decides-eqb _ _) (Decides-and _ _ (Decides-eqb _ _)
    (Decides-and _ _ (Decides-eqb _ _) (Decides-and _ _ (booleans_Decides _ _) (Decides-and _ _ (booleans_Decides _ _)
    (Decides-and _ _ (booleans_Decides _ _)
    (Decides-and _ _ (bytes_eq-Decides _ _) (bytes_eq-Decides _ _))))))))) in
    let told = c.c_fault.ensures in
    Decides-like _ (told_too a b c.args.fault told) (λ too. both_told a b c.args.fault too told) compared
