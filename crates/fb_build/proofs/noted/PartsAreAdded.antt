-- Parts are noted one after the other.
use Rattle.std.proofs.Common.{◌≡◌, ◌+◌, ◌++◌, ◌∙◌, ℕ, List, []}
use Rattle.std.proofs.Common.{refl, arith}
use Rattle.std.proofs.lemmas.List.{append_assoc, append-nil}
use Rattle.fb_tape.specs.NamedParts.{NamedPart}
use Rattle.fb_tape.specs.Tapes.{Taped}
use Rattle.fb_build.specs.Noted.{AddsParts}

pub adds_none : (t : Taped) → t.unfinished ≡ [] → AddsParts t t [] 0
adds_none t whole = record {
  waits = λ others w. rw (append-nil others) w;
  sum = (let same : t.room + 0 ≡ t.room = omega arith in rw same refl);
  layout = refl;
  whole = whole;
}

pub adds_then : (a b c : Taped) (xs ys : List NamedPart) (m n : ℕ) → AddsParts a b xs m → AddsParts b c ys n
    → AddsParts a c (xs ++ ys) (m + n)
adds_then a b c xs ys m n h k = record {
  waits = λ others w. rw (← append_assoc others xs ys) (k.waits (others ++ xs) (h.waits others w));
  sum = omega (arith, h.sum, k.sum);
  layout = k.layout ∙ h.layout;
  whole = k.whole;
}

-- the same parts and room, said otherwise
pub adds_same : (a b : Taped) (xs ys : List NamedPart) (m n : ℕ) → xs ≡ ys → m ≡ n → AddsParts a b xs m
    → AddsParts a b ys n
adds_same a b xs ys m n parts room h = record {
  waits = λ others w. rw (← parts) (h.waits others w);
  sum = rw (← room) h.sum;
  layout = h.layout;
  whole = h.whole;
}
