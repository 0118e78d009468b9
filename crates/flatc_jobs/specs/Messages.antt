-- What is done with the messages of a stream: JSON texts of a line each, or size-prefixed buffers.
-- From the FlatBuffers documentation, "Storing multiple FlatBuffers" of the C++ guide.
use Rattle.std.specs.Prelude.{ℕ, ◌≡◌, ◌≢◌, ◌<◌, ◌⊎◌, Bool, true, false, List, [], ◌∷◌, ◌++◌, length, take, drop}
use Rattle.std.specs.Prelude.{None, Some, IsSome, MatchBool}
use Rattle.std.specs.List.{list_all}
use Rattle.json.specs.Word.{is_space}
use Rattle.fb_layout.specs.Laid.{LaidSchema}
use Rattle.fb_value.specs.Messages.{IsMessage, whole_rules}
use Rattle.fb_value.specs.Num.{Bytes}
use Rattle.fb_value.specs.Rules.{first_failing}
use Rattle.fb_faults.specs.declared.faults.ToolFault.{ToolFault}
use Rattle.fb_faults.specs.declared.faults.ToolFault.TheVariants.{Memory}
use Rattle.flatc_files.specs.Lines.{first_line_len}
use Rattle.flatc_cli.specs.declared.request.Form.{Form}
use Rattle.flatc_cli.specs.declared.request.Verb.{Verb}
use Rattle.flatc_cli.specs.declared.request.Verb.TheVariants.{Binary, Json, Check}
use Rattle.flatc_jobs.specs.declared.messages.Next.{Next}
use Rattle.flatc_jobs.specs.declared.messages.Next.TheVariants.{Message, Unread, End, Cut}
use Rattle.flatc_jobs.specs.declared.messages.Outcome.{Outcome}
use Rattle.flatc_jobs.specs.declared.messages.Outcome.TheVariants as outcomes
use Rattle.flatc_jobs.specs.Flags.{flags_of}
use Rattle.flatc_jobs.specs.Verdicts.{IsHeld, IsRefused}
use Rattle.flatc_tool.specs.Jobs.{BinaryRefused, IsBinary, IsNotMemory, IsText, MayBeBinary, MayBeText, TextRefused}
use Rattle.flatc_tool.specs.Options.{usual_limits}

-- ---- which bytes are the next message

-- The next line of a stream with these bytes pending: up to its line feed, which the last line may lack.
abbrev pub NextLine : Bytes → Bool → Next → Type 0
NextLine bytes ended (Message n) = (first_line_len bytes ≡ Some n)
    ⊎ ((ended ≡ true) × (first_line_len bytes ≡ None) × (n ≡ length bytes) × (0 < n))
NextLine bytes ended Unread = (ended ≡ false) × (first_line_len bytes ≡ None)
NextLine bytes ended End = (ended ≡ true) × (bytes ≡ [])
NextLine bytes ended (Cut f) = ⊥

-- The next size-prefixed buffer, its size prefix included. A stream that has ended inside one is cut.
abbrev pub NextBuffer : Bytes → Bool → Next → Type 0
NextBuffer bytes ended (Message n) = (length (take n bytes) ≡ n) × IsMessage (take n bytes)
NextBuffer bytes ended Unread = (ended ≡ false) × IsSome (first_failing (whole_rules bytes))
NextBuffer bytes ended End = (ended ≡ true) × (bytes ≡ [])
NextBuffer bytes ended (Cut f) = (ended ≡ true) × (bytes ≢ []) × (first_failing (whole_rules bytes) ≡ Some f)

-- JSON texts come one a line, buffers with a size prefix
abbrev pub IsNext : Verb → Bytes → Bool → Next → Type 0
IsNext (Binary unknown) bytes ended next = NextLine bytes ended next
IsNext (Json raw defaults) bytes ended next = NextBuffer bytes ended next
IsNext (Check raw) bytes ended next = NextBuffer bytes ended next

-- ---- what is written of a message

-- a line without a value
abbrev pub is_blank : Bytes → Bool
is_blank line = list_all is_space line

-- a text and a line feed (10)
abbrev pub IsLineOf : (List ℕ → Type 0) → List ℕ → Type 0
IsLineOf P line = (text : List ℕ) × P text × (line ≡ text ++ 10 ∷ [])

-- What is written of a message: the buffer of a JSON text, which a blank line doesn't have; the JSON text of a buffer,
-- on a line of its own; nothing of a buffer that is checked.
abbrev pub IsOutput : Verb → Form → LaidSchema → Bytes → Bytes → Type 0
IsOutput (Binary unknown) form L message out =
    MatchBool (is_blank message) (out ≡ []) (IsBinary form.size_prefixed L message usual_limits unknown out)
IsOutput (Json raw defaults) form L message out =
    IsLineOf (IsText form.compact form.size_prefixed L message usual_limits raw defaults) out
IsOutput (Check raw) form L message out = IsHeld (flags_of (Check raw) form) L message × (out ≡ [])

-- why nothing can be written of a message
abbrev pub OutputRefused : Verb → Form → LaidSchema → Bytes → ToolFault → Type 0
OutputRefused (Binary unknown) form L message f =
    (is_blank message ≡ false) × BinaryRefused form.size_prefixed L message usual_limits unknown f
OutputRefused (Json raw defaults) form L message f = TextRefused form.size_prefixed L message usual_limits raw f
    ⊎ ((f ≡ Memory) × MayBeText form.size_prefixed L message usual_limits raw)
OutputRefused (Check raw) form L message f = IsRefused (flags_of (Check raw) form) L message f

-- the message may be written, where memory suffices
abbrev pub MayBeOutput : Verb → Form → LaidSchema → Bytes → Type 0
MayBeOutput (Binary unknown) form L message = MayBeBinary form.size_prefixed L message usual_limits unknown
MayBeOutput (Json raw defaults) form L message = MayBeText form.size_prefixed L message usual_limits raw
MayBeOutput (Check raw) form L message = IsHeld (flags_of (Check raw) form) L message

-- ---- a stream, message by message

-- What comes of the next message, where these bytes were pending before it and those are after it. A message is taken
-- once there is what is written of it.
abbrev pub IsOutcome : Verb → Form → LaidSchema → Bytes → Bool → Bytes → Outcome → Type 0
IsOutcome verb form L before ended after (outcomes.Output out) = (n : ℕ) × IsNext verb before ended (Message n)
    × IsOutput verb form L (take n before) out.items × (after ≡ drop n before)
IsOutcome verb form L before ended after (outcomes.Refused n f) = IsNext verb before ended (Message n)
    × OutputRefused verb form L (take n before) f × (IsNotMemory f → ¬ MayBeOutput verb form L (take n before))
    × (after ≡ before)
IsOutcome verb form L before ended after (outcomes.Cut f) = IsNext verb before ended (Cut f) × (after ≡ before)
IsOutcome verb form L before ended after outcomes.Unread = IsNext verb before ended Unread × (after ≡ before)
IsOutcome verb form L before ended after outcomes.End = IsNext verb before ended End × (after ≡ before)
