-- What is read of one member more.
use Rattle.std.proofs.Common.{◌≡◌, ◌∙◌, ◌&&◌, ◌||◌, ◌++◌, ◌∷◌, [], ℕ, List, Bool, true, false, Err, refl}
use Rattle.std.proofs.Common.{ap, sym, Ordering, Less, Equal, Greater, nat_cmp, if◌then◌else◌}
use Rattle.std.specs.Cmp.Lexicographic.{slice_cmp}
use Rattle.std.specs.Ordering.{match_ordering}
use Rattle.std.proofs.lemmas.List.{map-append}
use Rattle.std.proofs.lemmas.Map.Lookups.{exact_bytes}
use Rattle.serde_json.specs.Data.{Data, Members, no_members, member, put}
use Rattle.fb_schema.specs.Schema.{DeclaredBody}
use Rattle.fb_schema.specs.Found.{field_named}
use Rattle.fb_json.specs.declared.faults.JsonFault.TheVariants.{UnknownMember}
use Rattle.fb_json.specs.declared.faults.Place.{Place}
use Rattle.fb_json.specs.Meant.{if_known, is_used, names_known}
use Rattle.fb_pieces.specs.ObjectOfMembers.{put_all}
use Rattle.fb_encode.specs.MembersRead.{members_read, name_read, object_read, tree_read}

put_more : (ds : List (List ℕ × Data)) (d : List ℕ × Data) (found : Members)
    → put_all (ds ++ d ∷ []) found ≡ put d.0 d.1 (put_all ds found)
put_more [] d found = refl
put_more (x ∷ ds) d found = put_more ds d (put x.0 x.1 found)

pub object_more : (brackets : ℕ) (ms : List (List ℕ × List ℕ)) (m : List ℕ × List ℕ)
    → object_read brackets (ms ++ m ∷ [])
    ≡ put (name_read brackets m.0) (tree_read brackets m.1) (object_read brackets ms)
object_more brackets ms m =
    let read : List ℕ × List ℕ → List ℕ × Data = λ x. (name_read brackets x.0, tree_read brackets x.1) in
    ap (λ ds. put_all ds no_members) (map-append read ms (m ∷ []))
    ∙ put_more (members_read brackets ms) (read m) no_members

-- ---- whether the names are known

and_swap : (a b c : Bool) → (a && (b && c)) ≡ (b && (a && c))
and_swap true true c = refl
and_swap true false c = refl
and_swap false true c = refl
and_swap false false c = refl

and_twice : (a b : Bool) → (a && b) ≡ (a && (a && b))
and_twice true b = refl
and_twice false b = refl

pub known_put : (body : DeclaredBody) (n : List ℕ) (d : Data) (ms : Members)
    → names_known body (put n d ms) ≡ (is_used (field_named body n) && names_known body ms)
unfolding names_known
known_put body n d no_members = refl
known_put body n d (member l e ms) = by (slice_cmp nat_cmp n l) refl (known_put body n d ms)
  where
    by : (o : Ordering) → slice_cmp nat_cmp n l ≡ o
        → names_known body (put n d ms) ≡ (is_used (field_named body n) && names_known body ms)
        → names_known body (match_ordering o (member n d (member l e ms)) (member l d ms) (member l e (put n d ms)))
        ≡ (is_used (field_named body n) && names_known body (member l e ms))
    by Less is later = refl
    by Equal is later =
        let same : l ≡ n = sym (exact_bytes n l is) in
        rw same (and_twice (is_used (field_named body n)) (names_known body ms))
    by Greater is later =
        ap (λ b. is_used (field_named body l) && b) later
        ∙ and_swap (is_used (field_named body l)) (is_used (field_named body n)) (names_known body ms)

still_known : (unknown used all : Bool) (at : Place) → (if unknown || used then if_known (unknown || all) at
    else Err (UnknownMember at)) ≡ if_known (unknown || (used && all)) at
still_known true used all at = refl
still_known false true all at = refl
still_known false false all at = refl

pub known_more : (body : DeclaredBody) (unknown : Bool) (n : List ℕ) (d : Data) (ms : Members) (at : Place)
    → (if unknown || is_used (field_named body n) then if_known (unknown || names_known body ms) at
    else Err (UnknownMember at)) ≡ if_known (unknown || names_known body (put n d ms)) at
known_more body unknown n d ms at =
    still_known unknown (is_used (field_named body n)) (names_known body ms) at
    ∙ ap (λ b. if_known (unknown || b) at) (sym (known_put body n d ms))
