-- A value that is read has its members in order, so what was put into no members can be put into any.
use Rattle.std.proofs.Common.{◌≡◌, ℕ, List, Option, Some, None, option_and_then, refl, sym, ap, ◌∙◌, subst}
use Rattle.std.proofs.Common.{Ordering, Less, Equal, Greater, nat_cmp}
use Rattle.std.specs.Prelude.{⊤}
use Rattle.std.specs.Ordering.{ordering_reverse}
use Rattle.std.specs.Cmp.Lexicographic.{slice_cmp}
use Rattle.std.proofs.lemmas.Cmp.{nat_list_cmp_total, tied_itself}
use Rattle.std.proofs.lemmas.Map.Lookups.{exact_bytes}
use Rattle.json.specs.Json as json
use Rattle.serde_json.specs.Data.{Data, Members, no_members, member, put}
use Rattle.serde_json.specs.Read.{of_json, of_members}
use Rattle.fb_pieces.specs.ObjectOfRuns.{put_members}

abbrev Comes : List ℕ → Ordering → List ℕ → Type 0
Comes k o l = slice_cmp nat_cmp k l ≡ o

back : (k l : List ℕ) (o : Ordering) → Comes k o l → Comes l (ordering_reverse o) k
back k l o h = nat_list_cmp_total.antisymm l k ∙ ap ordering_reverse h

-- ---- where a member is put

put-before : (k l : List ℕ) (d e : Data) (ms : Members) → Comes k Less l
    → put k d (member l e ms) ≡ member k d (member l e ms)
put-before k l d e ms is = rw is refl

put-at : (k l : List ℕ) (d e : Data) (ms : Members) → Comes k Equal l → put k d (member l e ms) ≡ member l d ms
put-at k l d e ms is = rw is refl

put-behind : (k l : List ℕ) (d e : Data) (ms : Members) → Comes k Greater l
    → put k d (member l e ms) ≡ member l e (put k d ms)
put-behind k l d e ms is = rw is refl

-- ---- two members that are put

-- of one name, the last stays
put-again : (k : List ℕ) (d e : Data) (ms : Members) → put k d (put k e ms) ≡ put k d ms
put-again k d e no_members = put-at k k d e no_members (tied_itself nat_list_cmp_total k)
put-again k d e (member l f ms) = go (slice_cmp nat_cmp k l) refl (put-again k d e ms)
  where
    go : (o : Ordering) → Comes k o l → put k d (put k e ms) ≡ put k d ms
        → put k d (put k e (member l f ms)) ≡ put k d (member l f ms)
    go Less is ih =
        ap (put k d) (put-before k l e f ms is) ∙ put-at k k d e _ (tied_itself nat_list_cmp_total k)
        ∙ sym (put-before k l d f ms is)
    go Equal is ih = ap (put k d) (put-at k l e f ms is) ∙ put-at k l d e ms is ∙ sym (put-at k l d f ms is)
    go Greater is ih =
        ap (put k d) (put-behind k l e f ms is) ∙ put-behind k l d f _ is ∙ ap (member l f) ih
        ∙ sym (put-behind k l d f ms is)

-- of two names, it does not matter which is put first
put-swap : (k l : List ℕ) (d e : Data) (ms : Members) → Comes k Less l → put k d (put l e ms) ≡ put l e (put k d ms)
put-swap k l d e no_members less =
    put-before k l d e no_members less ∙ sym (put-behind l k e d no_members (back k l Less less))
put-swap k l d e (member m f ms) less =
    go (slice_cmp nat_cmp k m) (slice_cmp nat_cmp l m) refl refl (put-swap k l d e ms less)
  where
    more : Comes l Greater k
    more = back k l Less less

    -- k comes before m, too
    first : Comes k Less m → put l e (put k d (member m f ms)) ≡ member k d (put l e (member m f ms))
    first is = ap (put l e) (put-before k m d f ms is) ∙ put-behind l k e d (member m f ms) more

    go : (o p : Ordering) → Comes k o m → Comes l p m → put k d (put l e ms) ≡ put l e (put k d ms)
        → put k d (put l e (member m f ms)) ≡ put l e (put k d (member m f ms))
    go o Less a b ih =
        ap (put k d) (put-before l m e f ms b) ∙ put-before k l d e (member m f ms) less
        ∙ sym (first (nat_list_cmp_total.trans k l m less b) ∙ ap (member k d) (put-before l m e f ms b))
    go o Equal a b ih =
        let is = rw (exact_bytes l m b) at less in
        ap (put k d) (put-at l m e f ms b) ∙ put-before k m d e ms is
        ∙ sym (first is ∙ ap (member k d) (put-at l m e f ms b))
    go Less Greater a b ih =
        ap (put k d) (put-behind l m e f ms b) ∙ put-before k m d f (put l e ms) a
        ∙ sym (first a ∙ ap (member k d) (put-behind l m e f ms b))
    go Equal Greater a b ih =
        ap (put k d) (put-behind l m e f ms b) ∙ put-at k m d f (put l e ms) a
        ∙ sym (ap (put l e) (put-at k m d f ms a) ∙ put-behind l m e d ms b)
    go Greater Greater a b ih =
        ap (put k d) (put-behind l m e f ms b) ∙ put-behind k m d f (put l e ms) a ∙ ap (member m f) ih
        ∙ sym (ap (put l e) (put-behind k m d f ms a) ∙ put-behind l m e f (put k d ms) b)

-- ---- members in order

-- The name comes before those of all members.
abbrev IsBefore : List ℕ → Members → Type 0
IsBefore k no_members = ⊤
IsBefore k (member l e ms) = Comes k Less l × IsBefore k ms

abbrev AreInOrder : Members → Type 0
AreInOrder no_members = ⊤
AreInOrder (member k d ms) = IsBefore k ms × AreInOrder ms

before-all : (k l : List ℕ) (ms : Members) → Comes k Less l → IsBefore l ms → IsBefore k ms
before-all k l no_members less h = tt
before-all k l (member m e ms) less h = (nat_list_cmp_total.trans k l m less h.0, before-all k l ms less h.1)

before-put : (l k : List ℕ) (d : Data) (ms : Members) → Comes l Less k → IsBefore l ms → IsBefore l (put k d ms)
before-put l k d no_members less h = (less, tt)
before-put l k d (member m e ms) less h = go (slice_cmp nat_cmp k m) refl (before-put l k d ms less h.1)
  where
    go : (o : Ordering) → Comes k o m → IsBefore l (put k d ms) → IsBefore l (put k d (member m e ms))
    go Less is ih = subst (IsBefore l) (sym (put-before k m d e ms is)) (less, h)
    go Equal is ih = subst (IsBefore l) (sym (put-at k m d e ms is)) (h.0, h.1)
    go Greater is ih = subst (IsBefore l) (sym (put-behind k m d e ms is)) (h.0, ih)

in_order-put : (k : List ℕ) (d : Data) (ms : Members) → AreInOrder ms → AreInOrder (put k d ms)
in_order-put k d no_members h = (tt, tt)
in_order-put k d (member m e ms) h = go (slice_cmp nat_cmp k m) refl (in_order-put k d ms h.1)
  where
    go : (o : Ordering) → Comes k o m → AreInOrder (put k d ms) → AreInOrder (put k d (member m e ms))
    go Less is ih = subst AreInOrder (sym (put-before k m d e ms is)) ((is, before-all k m ms is h.0), h)
    go Equal is ih = subst AreInOrder (sym (put-at k m d e ms is)) (h.0, h.1)
    go Greater is ih =
        subst AreInOrder (sym (put-behind k m d e ms is)) (before-put m k d ms (back k m Greater is) h.0, ih)

-- ---- members that are put into others

put_members-later : (k : List ℕ) (d : Data) (ms found : Members) → IsBefore k ms
    → put_members ms (put k d found) ≡ put k d (put_members ms found)
put_members-later k d no_members found h = refl
put_members-later k d (member l e ms) found h =
    ap (put_members ms) (sym (put-swap k l d e found h.0)) ∙ put_members-later k d ms (put l e found) h.1

put_members-put : (k : List ℕ) (d : Data) (ms found : Members) → AreInOrder ms
    → put_members (put k d ms) found ≡ put k d (put_members ms found)
put_members-put k d no_members found h = refl
put_members-put k d (member l e ms) found h =
    go (slice_cmp nat_cmp k l) refl (put_members-put k d ms (put l e found) h.1)
  where
    go : (o : Ordering) → Comes k o l
        → put_members (put k d ms) (put l e found) ≡ put k d (put_members ms (put l e found))
        → put_members (put k d (member l e ms)) found ≡ put k d (put_members (member l e ms) found)
    go Less is ih =
        ap (λ r. put_members r found) (put-before k l d e ms is)
        ∙ put_members-later k d (member l e ms) found (is, before-all k l ms is h.0)
    go Equal is ih =
        let same : k ≡ l = exact_bytes k l is in
        ap (λ r. put_members r found) (put-at k l d e ms is)
        ∙ ap (put_members ms) (sym (put-again l d e found))
        ∙ put_members-later l d ms (put l e found) h.0 ∙ ap (λ n. put n d (put_members ms (put l e found))) (sym same)
    go Greater is ih = ap (λ r. put_members r found) (put-behind k l d e ms is) ∙ ih

read-into : (ms : json.Members) (old new found : Members) → AreInOrder old → of_members ms old ≡ Some new
    → of_members ms (put_members old found) ≡ Some (put_members new found)
read-into json.no_members old new found h e = ap (option_and_then (λ r. Some (put_members r found))) e
read-into (json.member k j ms) old new found h e =
    go (of_json j) refl e (λ d. read-into ms (put k d old) new found (in_order-put k d old h))
  where
    go : (o : Option Data) → of_json j ≡ o → option_and_then (λ d. of_members ms (put k d old)) o ≡ Some new
        → ((d : Data) → of_members ms (put k d old) ≡ Some new
        → of_members ms (put_members (put k d old) found) ≡ Some (put_members new found))
        → of_members (json.member k j ms) (put_members old found) ≡ Some (put_members new found)
    go None is e ih = absurd cc
    go (Some d) is e ih =
        ap (option_and_then (λ x. of_members ms (put k x (put_members old found)))) is
        ∙ ap (of_members ms) (sym (put_members-put k d old found h)) ∙ ih d e

-- what is read into no members is put into any that were found before
pub read-put : (ms : json.Members) (new found : Members) → of_members ms no_members ≡ Some new
    → of_members ms found ≡ Some (put_members new found)
read-put ms new found e = read-into ms no_members new found tt e
