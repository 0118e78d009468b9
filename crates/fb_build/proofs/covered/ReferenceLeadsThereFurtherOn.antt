-- Where references lead once more bytes are laid.
use Rattle.std.proofs.Common.{◌≡◌, ℕ, ◌+◌, ◌-◌, ◌++◌, length, Option, None, Some, arith, length-append}
use Rattle.std.proofs.lemmas.List.{get_or-append-add}
use Rattle.fb_value.specs.Num.{Bytes, num}
use Rattle.fb_value.specs.Places.{Target}
use Rattle.fb_build.specs.Tails.{TailSeen, Grows}
use Rattle.fb_build.specs.Made.{LeadsEnd, LeadsTo}
use Rattle.fb_value.proofs.tails.SameBytesReadTheSameFurtherOn.{number_moved}

end_grown : (front s : Bytes) (e t : ℕ) → LeadsEnd s e t → LeadsEnd (front ++ s) e t
end_grown front s e t h =
    let whole = length-append front s in
    let at : length (front ++ s) - e ≡ length front + (length s - e) = omega (arith, whole, h.from) in
    let number : num (front ++ s) (length front + (length s - e)) 4 ≡ num s (length s - e) 4 =
    number_moved s (front ++ s) (length front) (λ i. get_or-append-add front s i 0) (length s - e) 4 in
    record {
      from = omega (arith, whole, h.from);
      to = omega (arith, whole, h.to);
      way = rw (at, number) (omega (arith, whole, h.way, h.to));
    }

pub leads_grown : (a b : TailSeen) (X : Option Target) (e t : ℕ) → Grows a b → LeadsTo a.bytes X e t
    → LeadsTo b.bytes X e t
leads_grown a b None e t g h = tt
leads_grown a b (Some X) e t g h = rw g.grown (end_grown g.front a.bytes e t h)
