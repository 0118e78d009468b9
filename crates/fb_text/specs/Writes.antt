-- What a piece of a text does to the write buffer that it waits in and to the writer below.
use Rattle.std.specs.Prelude.{ℕ, ◌≡◌, ◌++◌, ◌<◌, ◌-◌, ◌^◌, min, List, length, take, Bool, true, false, Option, Result}
use Rattle.std.specs.Prelude.{Ok, Err}
use Rattle.std.specs.Io.KnownBytes.{Appends}
use Rattle.fb_text.specs.declared.faults.WriteFault.{WriteFault}
use Rattle.fb_text.specs.declared.faults.WriteFault.TheVariants.{NoMemberName, WriteFailed}
use Rattle.fb_text.specs.declared.noted.Noted.{Noted}
use Rattle.fb_text.specs.Noted.{write_failed, writer_of, buffer_of}
use Rattle.fb_text.specs.WriteBuffers.{pending, written_before}

-- the bytes that a writer has, if they are known, whether its last write failed, what waits in the buffer, and how many
-- bytes of the text were written
pub record State : Type 0 where
  pub known : Option (List ℕ)
  pub failed : Bool
  pub waits : List ℕ
  pub written : ℕ

abbrev pub state_of : {W : Type 0} → (W → Option (List ℕ)) → Noted W → State
state_of contents out =
    record {
      known = contents (writer_of out);
      failed = write_failed out;
      waits = pending (buffer_of out);
      written = written_before (buffer_of out);
    }

-- a count of bytes, which stops at the greatest one
abbrev pub counted : ℕ → ℕ
counted n = min n (2 ^ 64 - 1)

-- Behind the bytes of the start stand some bytes of a text, so many.
pub record Sent (start : Option (List ℕ)) (s : State) : Type 0 where
  pub bytes : List ℕ
  pub gone : Appends start s.known bytes
  pub count : s.written ≡ counted (length bytes)

-- Where no write failed, the rest of the text waits. Where one did, something of it will never be written.
abbrev pub IsLeft : Bool → State → List ℕ → Type 0
IsLeft false s left = left ≡ s.waits
IsLeft true s left = 0 < length left

-- The text stands, but for what is left.
pub record Stands (start : Option (List ℕ)) (s : State) (text : List ℕ) : Type 0 where
  pub sent : Sent start s
  pub left : List ℕ
  pub whole : text ≡ sent.bytes ++ left
  pub rest : IsLeft s.failed s left

-- A piece is added to whatever text stands.
pub record Adds (old new : State) (piece : List ℕ) : Type 0 where
  pub adds : (start : Option (List ℕ)) (text : List ℕ) → Stands start old text → Stands start new (text ++ piece)

-- What prints to a writer adds a piece.
abbrev pub Prints : {W : Type 0} → (W → Option (List ℕ)) → Noted W → Noted W → List ℕ → Type 0
Prints contents old new piece = Adds (state_of contents old) (state_of contents new) piece

-- All of a text was written behind the bytes of the start, or a write failed behind the first bytes of it.
abbrev pub IsWritten : {A : Type 0} → Option (List ℕ) → Option (List ℕ) → List ℕ → Result A WriteFault → Type 0
IsWritten start known text (Ok x) = Appends start known text
IsWritten start known text (Err (WriteFailed n)) = (m : ℕ) × (m < length text) × Appends start known (take m text)
    × (n ≡ counted m)
IsWritten start known text (Err (NoMemberName at)) = ⊥
