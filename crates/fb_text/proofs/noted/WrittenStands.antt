-- What stands once bytes were written.
use Rattle.std.proofs.Common.{◌≡◌, ℕ, ◌+◌, ◌<◌, [], List, ◌++◌, length, take, drop, Option, true, false, sym, ap}
use Rattle.std.proofs.Common.{◌∙◌, arith, append_assoc, append-nil, length-append, length-drop, take-append-drop}
use Rattle.std.proofs.Math.Seq.{take-append_seam}
use Rattle.std.proofs.lemmas.List.{length-take}
use Rattle.std.proofs.KnownBytes.{Appends-trans}
use Rattle.std.specs.Io.KnownBytes.{Appends}
use Rattle.fb_text.specs.Writes.{State, Sent, Stands, counted}

module _ (start : Option (List ℕ)) (old new : State) (sent : Sent start old) where
  -- so many more bytes
  more_sent : (more : List ℕ) → Appends old.known new.known more → new.written ≡ counted (old.written + length more)
      → Sent start new
  more_sent more got count =
      let longer = length-append sent.bytes more in
      let before = sent.count in
      record {
        bytes = sent.bytes ++ more;
        gone = Appends-trans start old.known new.known sent.bytes more sent.gone got;
        count = omega arith;
      }

  pub all_written : (bytes whole : List ℕ) → whole ≡ sent.bytes ++ bytes → new.failed ≡ false → new.waits ≡ []
      → Appends old.known new.known bytes → new.written ≡ counted (old.written + length bytes) → Stands start new whole
  unfolding more_sent
  all_written bytes whole is fine none got count = record {
    sent = more_sent bytes got count;
    left = [];
    whole = is ∙ sym (append-nil (sent.bytes ++ bytes));
    rest = rw fine (sym none);
  }

  pub some_written : (bytes whole : List ℕ) (m : ℕ) → whole ≡ sent.bytes ++ bytes → new.failed ≡ true → m < length bytes
      → Appends old.known new.known (take m bytes) → new.written ≡ counted (old.written + m) → Stands start new whole
  unfolding more_sent
  some_written bytes whole m is broke less got count =
      let fits : length (take m bytes) ≡ m = length-take m bytes ∙ omega arith in
      let more : 0 < length (drop m bytes) = omega (arith, length-drop m bytes) in
      record {
        sent = more_sent (take m bytes) got (count ∙ ap (λ k. counted (old.written + k)) (sym fits));
        left = drop m bytes;
        whole = is ∙ (ap (λ l. sent.bytes ++ l) (sym (take-append-drop m bytes))
            ∙ sym (append_assoc sent.bytes (take m bytes) (drop m bytes)));
        rest = rw broke more;
      }

-- what stands once nothing waits
module _ (start : Option (List ℕ)) (s : State) (text : List ℕ) (stands : Stands start s text) where
  pub written_whole : s.failed ≡ false → s.waits ≡ [] → Appends start s.known text
  written_whole fine empty =
      let none : stands.left ≡ [] = rw fine at stands.rest ∙ empty in
      let all : text ≡ stands.sent.bytes =
      stands.whole ∙ (ap (λ l. stands.sent.bytes ++ l) none ∙ append-nil stands.sent.bytes) in
      rw all stands.sent.gone

  pub written_front : s.failed ≡ true
      → (m : ℕ) × (m < length text) × Appends start s.known (take m text) × (s.written ≡ counted m)
  written_front broken =
      let more : 0 < length stands.left = rw broken at stands.rest in
      let sent = stands.sent.bytes in
      let longer : length text ≡ length sent + length stands.left =
      ap length stands.whole ∙ length-append sent stands.left in
      let front : take (length sent) text ≡ sent =
      ap (take (length sent)) stands.whole ∙ take-append_seam sent stands.left in (
        length sent,
        omega arith,
        rw front stands.sent.gone,
        stands.sent.count,
      )
