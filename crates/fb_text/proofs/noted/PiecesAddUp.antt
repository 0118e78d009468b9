-- What adds a piece.
use Rattle.std.proofs.Common.{◌≡◌, ℕ, ◌+◌, ◌<◌, [], List, ◌++◌, Option, Bool, true, false, length, take, sym, ap, subst}
use Rattle.std.proofs.Common.{◌∙◌, arith, append_assoc, append-nil, length-append, refl, true≢false}
use Rattle.std.specs.Io.KnownBytes.{Appends}
use Rattle.fb_text.specs.Writes.{State, Sent, Stands, IsLeft, Adds, counted}
use Rattle.fb_text.proofs.noted.WrittenStands.{all_written, some_written}

-- one piece and then another
pub added_then : (a b c : State) (one two : List ℕ) → Adds a b one → Adds b c two → Adds a c (one ++ two)
added_then a b c one two first second = record {
  adds = λ start text stands. subst (Stands start c) (append_assoc text one two)
      (second.adds start (text ++ one) (first.adds start text stands));
}

sent_still : (start : Option (List ℕ)) (a b : State) → b.known ≡ a.known → b.written ≡ a.written → Sent start a
    → Sent start b
sent_still start a b known written sent = record {
  bytes = sent.bytes;
  gone = rw known sent.gone;
  count = written ∙ sent.count;
}

module _ (a b : State) (piece : List ℕ) (known : b.known ≡ a.known) (written : b.written ≡ a.written)
    (failed : b.failed ≡ a.failed) where
  left_more : (f : Bool) (left : List ℕ) → (f ≡ false → b.waits ≡ a.waits ++ piece) → IsLeft f a left
      → IsLeft f b (left ++ piece)
  left_more false left waits h = ap (λ l. l ++ piece) h ∙ sym (waits refl)
  left_more true left waits h = omega (arith, length-append left piece, h)

  -- a piece that waits in the write buffer; or any piece, once a write failed
  pub added_waiting : (a.failed ≡ false → b.waits ≡ a.waits ++ piece) → Adds a b piece
  unfolding sent_still
  added_waiting waits = record {
    adds = λ start text stands. record {
      sent = sent_still start a b known written stands.sent;
      left = stands.left ++ piece;
      whole = ap (λ l. l ++ piece) stands.whole ∙ append_assoc stands.sent.bytes stands.left piece;
      rest = rw (← failed) at (left_more a.failed stands.left waits stands.rest);
    };
  }

module _ (a b : State) (piece bytes : List ℕ) (was : a.failed ≡ false) (waits : a.waits ++ piece ≡ bytes)
    (empty : b.waits ≡ []) where
  -- what waited and a piece that are written, until a write fails
  by_failure : (f : Bool) → b.failed ≡ f
      → (b.failed ≡ false → Appends a.known b.known bytes × (b.written ≡ counted (a.written + length bytes)))
      → (b.failed ≡ true → (m : ℕ) × (m < length bytes) × Appends a.known b.known (take m bytes)
      × (b.written ≡ counted (a.written + m))) → (start : Option (List ℕ)) (text : List ℕ) → Stands start a text
      → Stands start b (text ++ piece)
  by_failure f is all some start text stands =
      let held : stands.left ≡ a.waits = rw was at stands.rest in
      let whole : text ++ piece ≡ stands.sent.bytes ++ bytes =
      ap (λ l. l ++ piece) stands.whole
      ∙ (append_assoc stands.sent.bytes stands.left piece
      ∙ ap (λ l. stands.sent.bytes ++ l) (ap (λ l. l ++ piece) held ∙ waits)) in
      elim f as (λ (g : Bool). b.failed ≡ g → Stands start b (text ++ piece)) [
        | false ↦ λ fine. let (got, count) = all fine in
            all_written start a b stands.sent bytes (text ++ piece) whole fine empty got count
        | true ↦ λ broken. let (m, less, got, count) = some broken in
            some_written start a b stands.sent bytes (text ++ piece) m whole broken less got count
      ] is

  pub added_written : (b.failed ≡ false → Appends a.known b.known bytes
      × (b.written ≡ counted (a.written + length bytes)))
      → (b.failed ≡ true → (m : ℕ) × (m < length bytes) × Appends a.known b.known (take m bytes)
      × (b.written ≡ counted (a.written + m))) → Adds a b piece
  added_written all some = record { adds = by_failure b.failed refl all some }

-- Once a write failed, anything is added: it will never be written.
pub added_failed : (a : State) (piece : List ℕ) → a.failed ≡ true → Adds a a piece
added_failed a piece failed =
    added_waiting a a piece refl refl refl (λ fine. absurd (true≢false (sym failed ∙ fine)))

pub added_none : (a : State) → Adds a a []
added_none a = added_waiting a a [] refl refl refl (λ _. sym (append-nil a.waits))

-- the same, for proofs that name the pieces one by one
pub then : {a b c : State} {one two : List ℕ} → Adds a b one → Adds b c two → Adds a c (one ++ two)
then {a} {b} {c} {one} {two} first second = added_then a b c one two first second

-- a piece under another spelling
pub added_as : {a b : State} {one two : List ℕ} → one ≡ two → Adds a b one → Adds a b two
added_as {a} {b} same h = subst (Adds a b) same h
