use mir.Syntax.{w128}
use mir.Val.{to_z, of_z}
use Rattle.std.proofs.Common.{◌≡◌, ◌&&◌, ◌∙◌, ◌≤ℤ◌, Bool, true, false, IsTrue, ℤ, pos, negsuc, int_le, refl, sym, ap}
use Rattle.std.proofs.Common.{rules, tests}
use Rattle.std.proofs.lemmas.Int.{to_z-of_z}
use Rattle.fb_schema.specs.Ranges.{holds}
use Rattle.fb_schema.specs.WellDeclared.{InRange}
use Rattle.fb_schema.specs.declared.kinds.Base.{Base}
use Rattle.fb_schema.specs.declared.kinds.Base.TheVariants as base
use Rattle.fb_schema.proofs.kinds.Base.holds.Goals as goal
use Rattle.fb_schema.proofs.kinds.Base.holds.Goals.{in-Bool, in-I8, in-U8, in-I16, in-U16, in-I32, in-U32, in-I64}
use Rattle.fb_schema.proofs.kinds.Base.holds.Goals.{in-U64}

-- the least and the greatest number of a type
abbrev bounds : Base → ℤ × ℤ
bounds base.Bool = (pos 0, pos 1)
bounds base.I8 = (negsuc 127, pos 127)
bounds base.U8 = (pos 0, pos 255)
bounds base.I16 = (negsuc 32767, pos 32767)
bounds base.U16 = (pos 0, pos 65535)
bounds base.I32 = (negsuc 2147483647, pos 2147483647)
bounds base.U32 = (pos 0, pos 4294967295)
bounds base.I64 = (negsuc 9223372036854775807, pos 9223372036854775807)
bounds base.U64 = (pos 0, pos 18446744073709551615)

-- a number as 128 bits hold it
abbrev kept : ℤ → ℤ
kept n = to_z w128 (of_z w128 n)

have_room : (b : Base) → (kept (bounds b).0, kept (bounds b).1) ≡ bounds b
have_room base.Bool = refl
have_room base.I8 = refl
have_room base.U8 = refl
have_room base.I16 = refl
have_room base.U16 = refl
have_room base.I32 = refl
have_room base.U32 = refl
have_room base.I64 = refl
have_room base.U64 = refl

tested : (b : Base) (n : ℤ) → holds b n ≡ (int_le (bounds b).0 n && int_le n (bounds b).1)
unfolding holds
tested base.Bool n = refl
tested base.I8 n = refl
tested base.U8 n = refl
tested base.I16 n = refl
tested base.U16 n = refl
tested base.I32 n = refl
tested base.U32 n = refl
tested base.I64 n = refl
tested base.U64 n = refl

between : (low high n : ℤ) → (IsTrue (int_le low n && int_le n high) → (low ≤ℤ n) × (n ≤ℤ high))
    × ((low ≤ℤ n) × (n ≤ℤ high) → IsTrue (int_le low n && int_le n high))
between low high n = (λ yes. search (rules, tests), λ within. search (rules, tests))

in_range : (b : Base) (n : ℤ) → (IsTrue (int_le (bounds b).0 n && int_le n (bounds b).1) → InRange b n)
    × (InRange b n → IsTrue (int_le (bounds b).0 n && int_le n (bounds b).1))
in_range base.Bool n = between (pos 0) (pos 1) n
in_range base.I8 n = between (negsuc 127) (pos 127) n
in_range base.U8 n = between (pos 0) (pos 255) n
in_range base.I16 n = between (negsuc 32767) (pos 32767) n
in_range base.U16 n = between (pos 0) (pos 65535) n
in_range base.I32 n = between (negsuc 2147483647) (pos 2147483647) n
in_range base.U32 n = between (pos 0) (pos 4294967295) n
in_range base.I64 n = between (negsuc 9223372036854775807) (pos 9223372036854775807) n
in_range base.U64 n = between (pos 0) (pos 18446744073709551615) n

ranged : (b : Base) (n : ℤ) (r : Bool) → r ≡ holds b n → (IsTrue r → InRange b n) × (InRange b n → IsTrue r)
ranged b n r is = rw (is, tested b n) (in_range b n)

-- the bounds that an arm of the match gives
given_by : (b k : Base) (given : ℤ × ℤ) (low high : ℤ) → b ≡ k → given ≡ (kept low, kept high) → low ≡ (bounds k).0
    → high ≡ (bounds k).1 → given ≡ bounds b
given_by b k given low high arm is least greatest = is ∙ rw (least, greatest) (have_room k) ∙ ap bounds (sym arm)

module _ (b : Base) (n m : ℤ) (given : ℤ × ℤ) (same : m ≡ n) (is : given ≡ bounds b) where
  least : kept given.0 ≡ (bounds b).0
  least = ap (λ (p : ℤ × ℤ). kept p.0) is ∙ ap (λ (p : ℤ × ℤ). p.0) (have_room b)

  greatest : kept given.1 ≡ (bounds b).1
  greatest = ap (λ (p : ℤ × ℤ). kept p.1) is ∙ ap (λ (p : ℤ × ℤ). p.1) (have_room b)

  tested_at : (t : Bool) → int_le (kept given.0) m ≡ t → holds b n ≡ (t && int_le n (bounds b).1)
  tested_at t low =
      let first : int_le (bounds b).0 n ≡ t = rw (← least, ← same) low in
      tested b n ∙ ap (λ u. u && int_le n (bounds b).1) first

  from_least : int_le (kept given.0) m ≡ true → int_le m (kept given.1) ≡ holds b n
  from_least low = rw (same, greatest) (sym (tested_at true low))

  below_least : int_le (kept given.0) m ≡ false → int_le (kept given.0) m ≡ holds b n
  below_least low = low ∙ sym (tested_at false low)

pub returns-then-least-number : goal.returns-then-least-number
returns-then-least-number c =
    let is : c.match-self.least ≡ bounds c.args.self = elim c.match-self.branch [
      | in-Bool w ↦ given_by _ base.Bool _ (pos 0) (pos 1) w.in-Bool.is w.least-is refl refl
      | in-I8 w ↦ given_by _ base.I8 _ _ _ w.in-I8.is w.least-is w.from.ensures w.from-in-I8.ensures
      | in-U8 w ↦ given_by _ base.U8 _ (pos 0) _ w.in-U8.is w.least-is refl w.from-in-U8.ensures
      | in-I16 w ↦ given_by _ base.I16 _ _ _ w.in-I16.is w.least-is w.from-in-I16.ensures w.from-in-I16-2.ensures
      | in-U16 w ↦ given_by _ base.U16 _ (pos 0) _ w.in-U16.is w.least-is refl w.from-in-U16.ensures
      | in-I32 w ↦ given_by _ base.I32 _ _ _ w.in-I32.is w.least-is w.from-in-I32.ensures w.from-in-I32-2.ensures
      | in-U32 w ↦ given_by _ base.U32 _ (pos 0) _ w.in-U32.is w.least-is refl w.from-in-U32.ensures
      | in-I64 w ↦ given_by _ base.I64 _ _ _ w.in-I64.is w.least-is w.from-in-I64.ensures w.from-in-I64-2.ensures
      | in-U64 w ↦ given_by _ base.U64 _ (pos 0) _ w.in-U64.is w.least-is refl w.from-in-U64.ensures
    ] in
    let exact = from_least c.args.self c.args.number _ c.match-self.least
    (to_z-of_z w128 c.args.number c.ranges.number) is c.if-least-number.true in
    record { test = exact; range = ranged c.args.self c.args.number _ exact }

pub returns-else-least-number : goal.returns-else-least-number
returns-else-least-number c =
    let is : c.match-self.least ≡ bounds c.args.self = elim c.match-self.branch [
      | in-Bool w ↦ given_by _ base.Bool _ (pos 0) (pos 1) w.in-Bool.is w.least-is refl refl
      | in-I8 w ↦ given_by _ base.I8 _ _ _ w.in-I8.is w.least-is w.from.ensures w.from-in-I8.ensures
      | in-U8 w ↦ given_by _ base.U8 _ (pos 0) _ w.in-U8.is w.least-is refl w.from-in-U8.ensures
      | in-I16 w ↦ given_by _ base.I16 _ _ _ w.in-I16.is w.least-is w.from-in-I16.ensures w.from-in-I16-2.ensures
      | in-U16 w ↦ given_by _ base.U16 _ (pos 0) _ w.in-U16.is w.least-is refl w.from-in-U16.ensures
      | in-I32 w ↦ given_by _ base.I32 _ _ _ w.in-I32.is w.least-is w.from-in-I32.ensures w.from-in-I32-2.ensures
      | in-U32 w ↦ given_by _ base.U32 _ (pos 0) _ w.in-U32.is w.least-is refl w.from-in-U32.ensures
      | in-I64 w ↦ given_by _ base.I64 _ _ _ w.in-I64.is w.least-is w.from-in-I64.ensures w.from-in-I64-2.ensures
      | in-U64 w ↦ given_by _ base.U64 _ (pos 0) _ w.in-U64.is w.least-is refl w.from-in-U64.ensures
    ] in
    let exact = below_least c.args.self c.args.number _ c.match-self.least
    (to_z-of_z w128 c.args.number c.ranges.number) is c.if-least-number.false in
    record { test = exact; range = ranged c.args.self c.args.number _ exact }
