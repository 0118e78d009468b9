use Rattle.std.proofs.Common.{◌≡◌, ℕ, ◌+◌, ◌≤◌, ◌++◌, true, refl, ap, length, drop, arith}
use Rattle.std.proofs.Common.{length-append}
use Rattle.byteorder.specs.Endian.{little_bytes}
use Rattle.fb_layout.specs.Laid.{LaidSchema}
use Rattle.fb_value.specs.Datum.{Datum}
use Rattle.fb_value.specs.Num.{Bytes, divides}
use Rattle.fb_value.specs.Bounds.{most_bytes}
use Rattle.fb_build.specs.Covered.{IsCoveredBy}
use Rattle.fb_build.specs.Pieces.{greatest_align, reached_parts}
use Rattle.fb_build.proofs.roots.TailWithItsRootIsABuffer.{whole_lies, whole_holds, whole_old}
use Rattle.fb_build.proofs.roots.PrefixedTailIsABuffer.{IsPrefixed, prefixed_lies, prefixed_holds, prefixed_old}
use Rattle.fb_build.proofs.roots.PrefixedTailIsABuffer.{prefixed_behind, prefixed_long}
use Rattle.fb_build.proofs.roots.close_tail.Goals as goal

-- so many bytes before a buffer
multiple_with : (m n front k : ℕ) → front ≡ k → divides m (n + front) ≡ true → divides m (n + k) ≡ true
multiple_with m n front k is h = rw is at h

multiple_bare : (m n : ℕ) → divides m (n + 0) ≡ true → divides m n ≡ true
multiple_bare m n h = let none : n + 0 ≡ n = omega arith in rw none at h

counted : (s b : Bytes) (n : ℕ) → n ≡ length s → b ≡ little_bytes 4 n ++ s → 4 ≤ length s → 4 + length s ≤ most_bytes
    → IsPrefixed s b
counted s b n is bytes least short =
    let all : b ≡ little_bytes 4 (length s) ++ s = rw is at bytes in
    let four : length (little_bytes 4 (length s)) ≡ 4 = refl in
    let parts = length-append (little_bytes 4 (length s)) s in
    record { bytes = all; least = least; short = omega (arith, ap length all, parts, four, short) }

-- what covers the buffer after the size prefix, and its greatest alignment
covered_behind : (L : LaidSchema) (s b : Bytes) (m : ℕ) (v : Datum) (h : IsPrefixed s b)
    → IsCoveredBy L s v × (greatest_align L s (reached_parts L s v) ≡ m) → divides m (length s + 4) ≡ true
    → IsCoveredBy L (drop 4 b) v
    × (divides (greatest_align L (drop 4 b) (reached_parts L (drop 4 b) v)) (length b) ≡ true)
covered_behind L s b m v h covers whole =
    let long : length s + 4 ≡ length b = omega (arith, prefixed_long s b h) in
    let all : divides m (length b) ≡ true = rw (← long) whole in
    rw (prefixed_behind s b h) (covers.0, rw covers.1 all)

-- ---- a buffer alone

pub returns-then-not-prefixed-clause-holds : goal.returns-then-not-prefixed-clause-holds
returns-then-not-prefixed-clause-holds c places d most raw root deep small =
    let s = c.lay_header-out.result in
    let h = c.lay_header-out.ensures in
    let none = rw c.if-not-prefixed.true at c.front_of.ensures.exact in
    let whole = multiple_bare s.most (length s.bytes) (multiple_with s.most (length s.bytes) _ 0 none h.multiple) in
    rw c.if-not-prefixed.true (whole_holds c.args.layout.now s.most s.bytes d most raw h.identified h.least
    (omega (arith, h.small)) whole (h.rooted places d root).lies deep small)

pub returns-then-not-prefixed-clause-old_slots : goal.returns-then-not-prefixed-clause-old_slots
returns-then-not-prefixed-clause-old_slots c places d root =
    let s = c.lay_header-out.result in
    let h = c.lay_header-out.ensures in
    let none = rw c.if-not-prefixed.true at c.front_of.ensures.exact in
    let whole = multiple_bare s.most (length s.bytes) (multiple_with s.most (length s.bytes) _ 0 none h.multiple) in
    rw c.if-not-prefixed.true (whole_old c.args.layout.now s.most s.bytes d whole (h.rooted places d root))

pub returns-then-not-prefixed-clause-covered : goal.returns-then-not-prefixed-clause-covered
returns-then-not-prefixed-clause-covered c known places d shared different root =
    let L = c.args.layout.now in
    let s = c.lay_header-out.result in
    let h = c.lay_header-out.ensures in
    let none = rw c.if-not-prefixed.true at c.front_of.ensures.exact in
    let whole = multiple_bare s.most (length s.bytes) (multiple_with s.most (length s.bytes) _ 0 none h.multiple) in
    let covers = h.covered known places d shared different root in
    let there = whole_lies L s.most s.bytes d whole (h.rooted places d root).lies in
    rw c.if-not-prefixed.true ((d, there, covers.0), (d, there, rw covers.1 whole))

-- ---- with a size prefix

pub returns-clause-holds : goal.returns-clause-holds
returns-clause-holds c places d most raw root deep small =
    let s = c.lay_header-out.result in
    let h = c.lay_header-out.ensures in
    let b = c.lay_u32.new.self.bytes in
    let four = rw c.if-not-prefixed.false at c.front_of.ensures.exact in
    let is = counted s.bytes b _ c.count-count.ensures.exact c.lay_u32.ensures.bytes h.least
    (omega (arith, four, h.room, h.small)) in
    rw c.if-not-prefixed.false (prefixed_holds c.args.layout.now s.most s.bytes b d is
    (multiple_with s.most (length s.bytes) _ 4 four h.multiple) (h.rooted places d root)
    most raw h.identified deep small)

pub returns-clause-old_slots : goal.returns-clause-old_slots
returns-clause-old_slots c places d root =
    let s = c.lay_header-out.result in
    let h = c.lay_header-out.ensures in
    let b = c.lay_u32.new.self.bytes in
    let four = rw c.if-not-prefixed.false at c.front_of.ensures.exact in
    let is = counted s.bytes b _ c.count-count.ensures.exact c.lay_u32.ensures.bytes h.least
    (omega (arith, four, h.room, h.small)) in
    rw c.if-not-prefixed.false (prefixed_old c.args.layout.now s.most s.bytes b d is
    (multiple_with s.most (length s.bytes) _ 4 four h.multiple) (h.rooted places d root))

pub returns-clause-covered : goal.returns-clause-covered
returns-clause-covered c known places d shared different root =
    let L = c.args.layout.now in
    let s = c.lay_header-out.result in
    let h = c.lay_header-out.ensures in
    let b = c.lay_u32.new.self.bytes in
    let four = rw c.if-not-prefixed.false at c.front_of.ensures.exact in
    let is = counted s.bytes b _ c.count-count.ensures.exact c.lay_u32.ensures.bytes h.least
    (omega (arith, four, h.room, h.small)) in
    let whole = multiple_with s.most (length s.bytes) _ 4 four h.multiple in
    let there = prefixed_lies L s.most s.bytes b d is whole (h.rooted places d root) in
    let both = covered_behind L s.bytes b s.most d is (h.covered known places d shared different root) whole in
    rw c.if-not-prefixed.false ((d, there, both.0), (d, there, both.1))
