-- A schema text has one layout at most, and none where a layer refuses it.
use Rattle.std.proofs.Common.{◌≡◌, ◌≢◌, ◌∙◌, List, length, ℕ, Some, refl, sym, ap}
use Rattle.std.specs.Prelude.{IsUtf8}
use Rattle.std.specs.Str.Lossy.{utf8_valid_len}
use Rattle.std.proofs.lemmas.Option.{none-some}
use Rattle.fb_syntax.specs.DeclsRead.{DeclsRead}
use Rattle.fb_syntax.specs.Parsed.{Parses}
use Rattle.fb_syntax.specs.Refusals.{IsToldOfUtf8, IsToldOfNoTokens, IsToldOfTokens, StandsWithin}
use Rattle.fb_syntax.specs.declared.faults.SyntaxFault.{SyntaxFault}
use Rattle.fb_syntax.specs.declared.faults.SyntaxFault.TheVariants.{NotUtf8, BadByte, Unterminated, NumberTooBig}
use Rattle.fb_syntax.specs.declared.faults.SyntaxFault.TheVariants.{Unexpected, NestedVector, Memory}
use Rattle.fb_schema.specs.Schema.{DeclaredSchema}
use Rattle.fb_declare.specs.declared.faults.SchemaFault.{SchemaFault}
use Rattle.fb_declare.specs.Declares.{Declares}
use Rattle.fb_declare.specs.TypeFaults.{faults_of}
use Rattle.fb_declare.specs.Faults.{least_of}
use Rattle.fb_layout.specs.Laid.{LaidSchema}
use Rattle.fb_declare.specs.declared.schema_layouts.SchemaTextFault.TheVariants.{Syntax, Schema, Layout}
use Rattle.fb_declare.specs.SchemaLaws.{RefusedTextHasNoLayout, SchemaLaws, TextHasOneLayout}
use Rattle.fb_declare.specs.SchemaTexts.{IsAccepted, IsSyntaxRefused}

-- a text reads as one list of declarations
pub one_parse : (laws : SchemaLaws) (text : List ℕ) (d e : DeclsRead) → Parses text d → Parses text e → d ≡ e
one_parse laws text d e p q =
    laws.one_reading text q.0 d e (rw (laws.one_spelling text p.0 q.0 p.1 q.1) at p.2) q.2

-- an accepted text declares one schema
same_schema : (laws : SchemaLaws) (text : List ℕ) (L K : LaidSchema) → IsAccepted text L → IsAccepted text K
    → L.schema ≡ K.schema
same_schema laws text L K a b =
    laws.one_schema b.decls L.schema K.schema
    (rw (one_parse laws text a.decls b.decls a.parsed b.parsed) at a.declared) b.declared

-- an accepted text has one layout
pub same_accepted : SchemaLaws → TextHasOneLayout
same_accepted laws text L K a b =
    let schema = same_schema laws text L K a b in
    let structs = laws.one_layout K.schema L.structs K.structs b.made.declared (rw (← schema) a.made.sized)
    b.made.sized in
    λ i. record { schema = schema i; structs = structs i }

-- there is no least fault where declarations declare a schema
pub none_least : (d : DeclsRead) (S : DeclaredSchema) (f : SchemaFault) → Declares d S → least_of (faults_of d) ≡ Some f
    → ⊥
none_least d S f declares least = none-some f (sym (ap least_of declares.sound) ∙ least)

-- what the clauses of parsing say of a refusal, together
pub syntax_refused : (text : List ℕ) (f : SyntaxFault)
    → ((at : ℕ) → f ≡ NotUtf8 at → (¬ (IsUtf8 text)) × (at ≡ utf8_valid_len text)) → IsToldOfUtf8 text f
    → IsToldOfNoTokens text f → IsToldOfTokens text f → StandsWithin (length text) f
    → ((d : DeclsRead) → Parses text d → f ≡ Memory) → IsSyntaxRefused text f
syntax_refused text (NotUtf8 at) bytes utf8 none some within exact = bytes at refl
syntax_refused text Memory bytes utf8 none some within exact = utf8
syntax_refused text (BadByte at) bytes utf8 none some within exact =
    (utf8, none, some, within, λ d parses. let memory = exact d parses in cc)
syntax_refused text (Unterminated at) bytes utf8 none some within exact =
    (utf8, none, some, within, λ d parses. let memory = exact d parses in cc)
syntax_refused text (NumberTooBig at) bytes utf8 none some within exact =
    (utf8, none, some, within, λ d parses. let memory = exact d parses in cc)
syntax_refused text (Unexpected at) bytes utf8 none some within exact =
    (utf8, none, some, within, λ d parses. let memory = exact d parses in cc)
syntax_refused text (NestedVector at) bytes utf8 none some within exact =
    (utf8, none, some, within, λ d parses. let memory = exact d parses in cc)

-- where tokens or grammar refuse a text, it has no declarations
syntax_excludes : (text : List ℕ) (f : SyntaxFault) → IsSyntaxRefused text f → f ≢ Memory → (d : DeclsRead)
    → Parses text d → ⊥
syntax_excludes text (NotUtf8 at) h rule d parses = h.0 parses.1.utf8
syntax_excludes text Memory h rule d parses = rule refl
syntax_excludes text (BadByte at) h rule d parses = h.4 d parses
syntax_excludes text (Unterminated at) h rule d parses = h.4 d parses
syntax_excludes text (NumberTooBig at) h rule d parses = h.4 d parses
syntax_excludes text (Unexpected at) h rule d parses = h.4 d parses
syntax_excludes text (NestedVector at) h rule d parses = h.4 d parses

-- A text that a layer refuses isn't accepted.
pub refused_excludes : SchemaLaws → RefusedTextHasNoLayout
refused_excludes laws text (Syntax f) refused rule L accepted =
    syntax_excludes text f refused rule accepted.decls accepted.parsed
refused_excludes laws text (Schema f) refused rule L accepted =
    let same = one_parse laws text refused.0 accepted.decls refused.1 accepted.parsed in
    none_least accepted.decls L.schema f accepted.declared (rw same at (refused.2 rule))
refused_excludes laws text (Layout f) refused rule L accepted =
    let same = one_parse laws text refused.0 accepted.decls refused.2 accepted.parsed in
    let schema = laws.one_schema accepted.decls L.schema refused.1 accepted.declared
    (rw same at refused.3) in
    laws.no_layout refused.1 f (refused.4 rule) L schema accepted.made
