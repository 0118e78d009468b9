-- Runs of members make the object of them all; a name with its value is a run of one.
use Rattle.std.proofs.Common.{◌≡◌, ℕ, suc, ◌≤◌, Bool, true, false, List, [], ◌∷◌, ◌++◌, map, Option, Some, None}
use Rattle.std.proofs.Common.{option_map, option_and_then, refl, sym, ap, ◌∙◌, subst, arith, append_assoc, append-nil}
use Rattle.json.specs.Token as tok
use Rattle.json.specs.Token.{Token}
use Rattle.json.specs.Word.{ends_word}
use Rattle.json.specs.Lex.{between, lex, Place, fresh, after_value, after_comma, begins_colon, may_begin}
use Rattle.json.specs.Lex.{punctuate}
use Rattle.json.specs.Lex.{tokens}
use Rattle.json.specs.Json as json
use Rattle.json.specs.Tree as tree
use Rattle.json.specs.Tree.{json_tokens, members_tokens}
use Rattle.serde_json.specs.Data.{Data, string, object, Members, no_members, put}
use Rattle.serde_json.specs.Read.{of_json, of_members}
use Rattle.fb_pieces.specs.Modes.{mode_after}
use Rattle.fb_pieces.specs.TokensSplit.{AreGood, ends_value_after, AreValues}
use Rattle.fb_pieces.specs.Texts.{object_rest, object_text, member_text}
use Rattle.fb_pieces.specs.Reads.{read_at}
use Rattle.fb_pieces.specs.ObjectOfMembers.{ReadMembers, put_all, MembersMakeTheObject}
use Rattle.fb_pieces.specs.ObjectOfRuns.{ReadsMembers, ReadMemberRuns, put_members, put_runs, RunsMakeTheObject}
use Rattle.fb_pieces.proofs.laws.LexemesSplitOutsideStrings.{lex-cut, may_cut}
use Rattle.fb_pieces.proofs.laws.TokensSplitAtAComma.{values-then}
use Rattle.fb_pieces.proofs.laws.TokensBeforeAClosingBracket.{before_bracket}
use Rattle.fb_pieces.proofs.laws.TokensOfAValue.{AreGood-append, ends-append, value_good, value_ends}
use Rattle.fb_pieces.proofs.laws.ReadTextHasTheTokensOfAValue.{value_of, read_value}
use Rattle.fb_pieces.proofs.laws.ReadTextClosesItsStrings.{tokens-closed, text-closed, member-run-closed}
use Rattle.fb_pieces.proofs.laws.StringIsReadFromOneLexeme.{string_lexeme}
use Rattle.fb_pieces.proofs.laws.MembersArePutInOrder.{read-put}

-- ---- what follows a member

object_rest_ends : (ms : List (List ℕ)) → ends_word (object_rest ms) ≡ true
object_rest_ends [] = refl
object_rest_ends (m ∷ ms) = refl

object_rest_no_colon : (ms : List (List ℕ)) → begins_colon (lex between (object_rest ms)) ≡ false
unfolding lex
object_rest_no_colon [] = refl
object_rest_no_colon (m ∷ ms) = refl

-- ---- the tokens of members without braces

abbrev inner : json.Members → List Token
inner json.no_members = []
inner (json.member k j ms) = tok.key k ∷ (json_tokens j ++ inner ms)

abbrev json_append : json.Members → json.Members → json.Members
json_append json.no_members ks = ks
json_append (json.member k j ms) ks = json.member k j (json_append ms ks)

inner-append : (ms ks : json.Members) → inner ms ++ members_tokens ks ≡ members_tokens (json_append ms ks)
inner-append json.no_members ks = refl
inner-append (json.member k j ms) ks =
    ap (λ l. tok.key k ∷ l)
    (append_assoc (json_tokens j) (inner ms) (members_tokens ks) ∙ ap (λ l. json_tokens j ++ l) (inner-append ms ks))

append-no_members : (ms : json.Members) → json_append ms json.no_members ≡ ms
append-no_members json.no_members = refl
append-no_members (json.member k j ms) = ap (json.member k j) (append-no_members ms)

depth-append : (ms ks : json.Members) (n : ℕ) → tree.members_depth ms ≤ n → tree.members_depth ks ≤ n
    → tree.members_depth (json_append ms ks) ≤ n
depth-append json.no_members ks n h k = k
depth-append (json.member s j ms) ks n h k = omega (arith, depth-append ms ks n (omega arith) k)

ends-inner : (c : Bool) (ms : json.Members) → c ≡ true → ends_value_after c (inner ms) ≡ true
ends-inner c json.no_members h = h
ends-inner c (json.member k j ms) h = ends-append _ (json_tokens j) (inner ms) ∙ ends-inner _ ms (value_ends _ j)

good-inner : (ms : json.Members) → AreGood (inner ms)
good-inner json.no_members = tt
good-inner (json.member k j ms) = (refl, AreGood-append _ _ (value_good j) (good-inner ms))

some_members : (ms : json.Members) (ds : Members) → of_members ms no_members ≡ Some ds → (ds ≡ no_members → ⊥)
    → AreValues (inner ms)
some_members json.no_members ds e h = let none : no_members ≡ ds = cc in absurd (h (sym none))
some_members (json.member k j ms) ds e h = record {
  good = good-inner (json.member k j ms);
  first = refl;
  last = ends-inner true (json.member k j ms) refl;
}

of_members-append : (ms ks : json.Members) (found new : Members) → of_members ms found ≡ Some new
    → of_members (json_append ms ks) found ≡ of_members ks new
of_members-append json.no_members ks found new e = let same : found ≡ new = cc in ap (of_members ks) same
of_members-append (json.member k j ms) ks found new e =
    go (of_json j) e (λ d. of_members-append ms ks (put k d found) new)
  where
    go : (o : Option Data) → option_and_then (λ d. of_members ms (put k d found)) o ≡ Some new
        → ((d : Data) → of_members ms (put k d found) ≡ Some new
        → of_members (json_append ms ks) (put k d found) ≡ of_members ks new)
        → option_and_then (λ d. of_members (json_append ms ks) (put k d found)) o ≡ of_members ks new
    go None e ih = absurd cc
    go (Some d) e ih = ih d e

-- ---- runs

-- the text spells members without braces, which are put so into others
record Run (levels : ℕ) (text : List ℕ) (puts : Members → Members) : Type 0 where
  was : json.Members
  values : AreValues (inner was)
  spelled : tokens text ≡ inner was
  shallow : tree.members_depth was ≤ levels
  data_of : (found : Members) → of_members was found ≡ Some (puts found)

members_of_object : (j : json.Json) (ds : Members) (ts : List Token) → of_json j ≡ Some (object ds)
    → tok.begin_object ∷ ts ≡ json_tokens j
    → (ms : json.Members) × (j ≡ json.object ms) × (of_members ms no_members ≡ Some ds) × (ts ≡ members_tokens ms)
members_of_object json.null ds ts e h = absurd cc
members_of_object (json.boolean b) ds ts e h = absurd cc
members_of_object (json.number s) ds ts e h = absurd cc
members_of_object (json.string s) ds ts e h = absurd cc
members_of_object (json.array js) ds ts e h = absurd cc
members_of_object (json.object ms) ds ts e h = (ms, refl, unmapped (of_members ms no_members) e, cc)
  where
    unmapped : (o : Option Members) → option_map object o ≡ Some (object ds) → o ≡ Some ds
    unmapped None e = absurd cc
    unmapped (Some es) e = cc

run_of : (levels : ℕ) (text : List ℕ) (ds : Members) → ReadsMembers levels text ds → Run levels text (put_members ds)
unfolding lex punctuate
run_of levels text ds r =
    let v = value_of (suc levels) (object_text text []) (object ds) r.read in
    let closed = member-run-closed (suc levels) text (object ds) r.read in
    let lexed = lex-cut text (125 ∷ []) between (may_cut (mode_after between text) (125 ∷ []) closed refl) in
    let a = members_of_object v.was ds (punctuate fresh (lex between (text ++ 125 ∷ []))) v.data_of v.spells.spelled in
    let deep : tree.depth (json.object a.0) ≤ suc levels = rw a.1 at v.spells.shallow
    in
    let end = inner-append a.0 json.no_members ∙ ap members_tokens (append-no_members a.0) in
    record {
      was = a.0;
      values = some_members a.0 ds a.2 r.some;
      spelled = before_bracket tok.end_object (λ p b k. refl) (lex between text) (inner a.0)
          (AreGood-append (inner a.0) _ (good-inner a.0) (refl, tt))
          (ap (punctuate fresh) (sym lexed) ∙ a.3 ∙ sym end);
      shallow = omega arith;
      data_of = λ found. read-put a.0 ds found a.2;
    }

-- the tokens of a name, a colon and what follows
name-then : (levels : ℕ) (text name next : List ℕ) → read_at levels text ≡ Some (string name)
    → tokens (text ++ 58 ∷ next) ≡ tok.key name ∷ tokens next
unfolding lex punctuate
name-then levels text name next n =
    let closed = text-closed levels text (string name) n in
    ap (punctuate fresh)
    (lex-cut text (58 ∷ next) between (may_cut (mode_after between text) (58 ∷ next) closed refl)
    ∙ ap (λ l. l ++ lex between (58 ∷ next)) (string_lexeme levels text name n))

one_member : (levels : ℕ) (m : List ℕ × List ℕ) (d : List ℕ × Data) → read_at levels m.0 ≡ Some (string d.0)
    → read_at levels m.1 ≡ Some d.1 → Run levels (member_text m) (put d.0 d.1)
one_member levels m d name read =
    let v = value_of levels m.1 d.1 read in
    let is = λ (found : Members). ap (option_and_then (λ x. Some (put d.0 x found))) v.data_of in
    record {
      was = json.member d.0 v.was json.no_members;
      values = record {
        good = good-inner (json.member d.0 v.was json.no_members);
        first = refl;
        last = ends-inner true (json.member d.0 v.was json.no_members) refl;
      };
      spelled = name-then levels m.0 d.0 m.1 name
          ∙ ap (λ l. tok.key d.0 ∷ l) (v.spells.spelled ∙ sym (append-nil (json_tokens v.was)));
      shallow = omega (arith, v.spells.shallow);
      data_of = is;
    }

-- ---- what follows a run

-- the texts, each behind a comma, and the brace spell members, which are put so into others
record Rest (levels : ℕ) (es : List (List ℕ)) (puts : Members → Members) : Type 0 where
  was : json.Members
  spelled : punctuate after_value (lex between (object_rest es)) ≡ members_tokens was
  shallow : tree.members_depth was ≤ levels
  data_of : (found : Members) → of_members was found ≡ Some (puts found)

no_rest : (levels : ℕ) → Rest levels [] (λ found. found)
unfolding lex punctuate
no_rest levels = record { was = json.no_members; spelled = refl; shallow = omega arith; data_of = λ found. refl }

-- the tokens of a run and what follows it, where a member may begin
run-then : (levels : ℕ) (p : Place) (e : List ℕ) (es : List (List ℕ)) (f g : Members → Members) (run : Run levels e f)
    (rest : Rest levels es g) → may_begin p ≡ true
    → punctuate p (lex between (e ++ object_rest es)) ≡ members_tokens (json_append run.was rest.was)
run-then levels p e es f g run rest may =
    let closed = tokens-closed e (subst AreGood (sym run.spelled) run.values.good) in
    ap (punctuate p)
    (lex-cut e (object_rest es) between (may_cut (mode_after between e) (object_rest es) closed (object_rest_ends es)))
    ∙ values-then p (lex between e) (lex between (object_rest es)) (inner run.was) may run.values run.spelled
    (object_rest_no_colon es)
    ∙ ap (λ l. inner run.was ++ l) rest.spelled ∙ inner-append run.was rest.was

one_more : (levels : ℕ) (e : List ℕ) (es : List (List ℕ)) (f g : Members → Members) → Run levels e f
    → Rest levels es g → Rest levels (e ∷ es) (λ found. g (f found))
unfolding lex punctuate
one_more levels e es f g run rest = record {
  was = json_append run.was rest.was;
  spelled = run-then levels after_comma e es f g run rest refl;
  shallow = depth-append run.was rest.was levels run.shallow rest.shallow;
  data_of = λ found. of_members-append run.was rest.was found (f found) (run.data_of found) ∙ rest.data_of (f found);
}

whole : (levels : ℕ) (e : List ℕ) (es : List (List ℕ)) (f g : Members → Members) → Run levels e f
    → Rest levels es g → read_at (suc levels) (object_text e es) ≡ Some (object (g (f no_members)))
unfolding lex punctuate
whole levels e es f g run rest = read_value (suc levels) (object_text e es) (object (g (f no_members)))
    (record {
      was = json.object (json_append run.was rest.was);
      spells = record {
        spelled = ap (λ l. tok.begin_object ∷ l) (run-then levels fresh e es f g run rest refl);
        shallow = omega (arith, depth-append run.was rest.was levels run.shallow rest.shallow);
      };
      data_of = ap (option_map object)
          (of_members-append run.was rest.was no_members (f no_members) (run.data_of no_members)
          ∙ rest.data_of (f no_members));
    })

-- ---- the laws

members_rest : (levels : ℕ) (ms : List (List ℕ × List ℕ)) (ds : List (List ℕ × Data)) → ReadMembers levels ms ds
    → Rest levels (map member_text ms) (put_all ds)
members_rest levels [] [] r = no_rest levels
members_rest levels [] (d ∷ ds) r = absurd r
members_rest levels (m ∷ ms) [] r = absurd r
members_rest levels (m ∷ ms) (d ∷ ds) r =
    one_more levels (member_text m) (map member_text ms) (put d.0 d.1) (put_all ds) (one_member levels m d r.0 r.1)
    (members_rest levels ms ds r.2)

pub members_make_the_object_shown : MembersMakeTheObject
members_make_the_object_shown levels m ms [] r = absurd r
members_make_the_object_shown levels m ms (d ∷ ds) r =
    whole levels (member_text m) (map member_text ms) (put d.0 d.1) (put_all ds) (one_member levels m d r.0 r.1)
    (members_rest levels ms ds r.2)

runs_rest : (levels : ℕ) (es : List (List ℕ)) (rs : List Members) → ReadMemberRuns levels es rs
    → Rest levels es (put_runs rs)
runs_rest levels [] [] r = no_rest levels
runs_rest levels [] (d ∷ ds) r = absurd r
runs_rest levels (e ∷ es) [] r = absurd r
runs_rest levels (e ∷ es) (d ∷ ds) r =
    one_more levels e es (put_members d) (put_runs ds) (run_of levels e d r.0) (runs_rest levels es ds r.1)

pub runs_make_the_object_shown : RunsMakeTheObject
runs_make_the_object_shown levels e es [] r = absurd r
runs_make_the_object_shown levels e es (d ∷ ds) r =
    whole levels e es (put_members d) (put_runs ds) (run_of levels e d r.0) (runs_rest levels es ds r.1)
