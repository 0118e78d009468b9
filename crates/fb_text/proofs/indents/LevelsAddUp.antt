-- Levels of blanks, one behind another.
use Rattle.std.proofs.Common.{◌≡◌, Bor, ℕ, zero, suc, ◌+◌, ◌-◌, ◌*◌, ◌≤◌, List, [], ◌++◌, length, take, refl, sym, ap}
use Rattle.std.proofs.Common.{Option, None, Some, ◌∙◌, append_assoc, append-nil, length-append, arith, rules}
use Rattle.std.specs.Prelude.{codes}
use Rattle.std.specs.Option.{unwrap_or}
use Rattle.std.proofs.Math.Seq.{take-append_seam}
use Rattle.fb_text.specs.Indents.{blanks, deeper, levels_blanks}
use Rattle.fb_text.specs.declared.indents.Indent.{Indent, Levels, Deeper, Compact, Indent-F, out-Indent, roll-Indent}
use Rattle.fb_text.specs.declared.indents.Indent.{roll-out-Indent, the_lemmas}
use Rattle.fb_text.specs.declared.indents.Indent.TheVariants.{rolls-Levels, rolls-Deeper, rolls-Compact}
use Rattle.fb_text.specs.Texts.{inside}

-- one level more behind others or in front of them
pub inside_deeper : (n : ℕ) (indent : Option (List ℕ)) → inside (deeper n indent) ≡ deeper n (inside indent)
inside_deeper zero indent = refl
inside_deeper (suc n) indent = inside_deeper n (inside indent)

pub levels_joined : (n m k : ℕ) → n + m ≡ k → levels_blanks n ++ levels_blanks m ≡ levels_blanks k
levels_joined n m k sum = both n ∙ ap levels_blanks sum
  where
    both : (n : ℕ) → levels_blanks n ++ levels_blanks m ≡ levels_blanks (n + m)
    both zero = ap levels_blanks (let none : m ≡ 0 + m = omega arith in none)
    both (suc n) =
        ap (λ (l : List ℕ). codes "  " ++ l) (both n)
        ∙ ap levels_blanks (let more : suc (n + m) ≡ suc n + m = omega arith in more)

levels_long : (n : ℕ) → length (levels_blanks n) ≡ 2 * n
levels_long zero = omega arith
levels_long (suc n) = omega (arith, levels_long n, length-append (codes "  ") (levels_blanks n))

-- the front of the blanks of some levels, whatever follows them
pub levels_front : (most n : ℕ) (tail : List ℕ) → n ≤ most
    → take (2 * n) (levels_blanks most ++ tail) ≡ levels_blanks n
levels_front most n tail few =
    let more = levels_blanks (most - n) in
    let whole : levels_blanks n ++ (more ++ tail) ≡ levels_blanks most ++ tail =
    sym (append_assoc (levels_blanks n) more tail)
    ∙ ap (λ (l : List ℕ). l ++ tail) (levels_joined n (most - n) most (omega arith)) in
    rw (← whole) (rw (← (levels_long n)) (take-append_seam (levels_blanks n) (more ++ tail)))

-- levels behind a line's blanks
pub deeper_behind : (n : ℕ) (before : List ℕ) → deeper n (Some before) ≡ Some (before ++ levels_blanks n)
deeper_behind zero before = ap (λ (l : List ℕ). Some l) (sym (append-nil before))
deeper_behind (suc n) before =
    deeper_behind n (before ++ codes "  ")
    ∙ ap (λ (l : List ℕ). Some l) (append_assoc before (codes "  ") (levels_blanks n))

-- A compact text has no lines at any depth.
pub deeper_compact : (n : ℕ) → deeper n None ≡ None
deeper_compact zero = refl
deeper_compact (suc n) = deeper_compact n

-- Where there are lines, so many levels deeper are those behind the line's blanks.
pub lines_deeper : (n : ℕ) (indent : Option (List ℕ)) (before : List ℕ) → indent ≡ Some before
    → Some (unwrap_or indent [] ++ levels_blanks n) ≡ deeper n indent
lines_deeper n indent before is = rw is (sym (deeper_behind n before))

-- what each indent is
pub blanks_levels : (n : ℕ) → blanks (Levels n) ≡ Some (levels_blanks n)
blanks_levels n = search (rules, the_lemmas)

pub blanks_deeper : (outer : Bor Indent) (n : ℕ)
    → blanks (Deeper outer n) ≡ Some (unwrap_or (blanks outer.now) [] ++ levels_blanks n)
blanks_deeper outer n = search (rules, the_lemmas)

pub blanks_compact : blanks Compact ≡ None
blanks_compact = search (rules, the_lemmas)

-- All but the compact one have lines.
pub lines_of : (indent : Indent) → (indent ≡ Compact → ⊥) → blanks indent ≡ Some (unwrap_or (blanks indent) [])
lines_of indent far = by (out-Indent indent) (roll-out-Indent indent)
  where
    by : (o : Indent-F Indent) → roll-Indent o ≡ indent → blanks indent ≡ Some (unwrap_or (blanks indent) [])
    by (Indent-F.Levels n) is = rw (← is, rolls-Levels n, blanks_levels n) refl
    by (Indent-F.Deeper outer n) is = rw (← is, rolls-Deeper outer n, blanks_deeper outer n) refl
    by Indent-F.Compact is = absurd (far (sym is ∙ rolls-Compact))
