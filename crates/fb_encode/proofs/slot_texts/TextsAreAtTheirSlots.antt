-- Each member's text is put at its slot, and what no slot has is read.
use Rattle.std.proofs.Common.{◌≡◌, ◌≢◌, ◌∙◌, ◌<◌, ◌++◌, ◌∷◌, ◌||◌, [], inl, inr, ℕ, zero, suc, List, Bool}
use Rattle.std.proofs.Common.{true, false, Option, Some, None, Result, Err, IfSome, length, map, option_map, get_or}
use Rattle.std.proofs.Common.{set}
use Rattle.std.proofs.Common.{slice_get, replicate, bytes_eq, ◌==◌, if◌then◌else◌, refl, ap, sym, subst}
use Rattle.std.proofs.Common.{arith}
use Rattle.std.proofs.lemmas.Bool.{eqb-false, eqb-true}
use Rattle.std.proofs.lemmas.List.{get_or-replicate, get_or-set_same, length-replicate, length-set, get_or_past}
use Rattle.std.proofs.lemmas.List.Elements.{All-append, All-cons, All-nil}
use Rattle.std.proofs.lemmas.Option.{get_or_from_slice_get, slice_get-get_or, slice_get-map, slice_get_cases}
use Rattle.std.proofs.lemmas.Option.{slice_get_within}
use Rattle.std.proofs.lemmas.Slice.Eq.{bytes_eq-Decides}
use Rattle.serde_json.specs.Data.{put, string}
use Rattle.serde_json.specs.Find.{get_member}
use Rattle.serde_json.proofs.Views.{get_member-put, get_member-put_other}
use Rattle.fb_schema.specs.Schema.{DeclaredField, DeclaredSchema, body_at}
use Rattle.fb_schema.specs.Found.{field_named}
use Rattle.fb_schema.specs.WellDeclared.{IsDeclared}
use Rattle.fb_json.specs.declared.faults.JsonFault.{JsonFault}
use Rattle.fb_json.specs.declared.faults.JsonFault.TheVariants.{UnknownMember}
use Rattle.fb_json.specs.Meant.{if_known, is_used, names_known, type_place}
use Rattle.fb_json.specs.SlotMembers.{AreFieldsOf}
use Rattle.fb_encode.specs.declared.reader.JsonExcerpt.{JsonExcerpt}
use Rattle.fb_encode.specs.MembersRead.{AreNamesRead, AreValuesRead, name_read, object_read, tree_read}
use Rattle.fb_encode.specs.SlotTexts.{AreTextsOf, AreTextsRead, excerpt_tree, text_over, texts_with}
use Rattle.fb_encode.specs.TextsRead.{IsRead, IsReadAs}
use Rattle.fb_json.proofs.slots.NamedSlotIsFound.{found_as, in_fields, named_at}
use Rattle.fb_encode.proofs.slot_texts.OneMemberMore.{known_more, object_more}
use Rattle.std.proofs.Math.Bool.{or-true}

-- the same of the members before a place
pub record ArePutSoFar (S : DeclaredSchema) (t : ℕ) (fs : List DeclaredField) (unknown : Bool) (brackets : ℕ)
    (texts : List (Option JsonExcerpt)) (known : Result (Unit {0}) JsonFault)
    (ms : List (List ℕ × List ℕ)) : Type 0 where
  pub names : AreNamesRead brackets ms
  pub texts_are : AreTextsOf brackets texts fs ms
  pub values : AreTextsRead texts → AreValuesRead brackets ms
  pub known_is : known ≡ if_known (unknown || names_known (body_at S t) (object_read brackets ms)) (type_place t)

none_at : {A : Type 0} (n k : ℕ) (x : A) → k < n → slice_get (replicate n x) k ≡ Some x
none_at n k x within =
    slice_get-get_or (replicate n x) k x (omega (arith, length-replicate n x, within))
    ∙ ap Some (get_or-replicate n k x x within)

pub none_put : (S : DeclaredSchema) (t : ℕ) (fs : List DeclaredField) (unknown : Bool) (brackets n : ℕ)
    → n ≡ length fs → ArePutSoFar S t fs unknown brackets (replicate n None) (if_known true (type_place t)) []
unfolding names_known
none_put S t fs unknown brackets n long = record {
  names = All-nil (λ m. IsReadAs brackets m.0 (string (name_read brackets m.0)));
  texts_are = record {
    all = length-replicate n None ∙ long;
    each = λ k f there used.
        let within : k < n = omega (arith, slice_get_within fs k f there, long) in
        slice_get-map (option_map excerpt_tree) (replicate n None) k
        ∙ ap (option_map (option_map excerpt_tree)) (none_at n k None within);
    old = λ k f there unused.
        none_at n k None (omega (arith, slice_get_within fs k f there, long));
    brackets_are = λ k e there.
        let inside = slice_get_within (replicate n None) k (Some e) there in
        let within : k < n = omega (arith, inside, length-replicate {A = Option JsonExcerpt} n None) in
        let is : Some None ≡ Some (Some e) = sym (none_at n k None within) ∙ there in
        cc;
  };
  values = λ read. All-nil (λ m. IsRead brackets m.1);
  known_is = ap (λ b. if_known b (type_place t)) (sym (or-true unknown));
}

-- ---- a text is put at a slot

put_here : {A : Type 0} (xs : List A) (i : ℕ) (x : A) → i < length xs → slice_get (set xs i x) i ≡ Some x
put_here xs i x within =
    slice_get-get_or (set xs i x) i x (omega (arith, length-set xs i x, within))
    ∙ ap Some (get_or-set_same xs i x x within)

put_elsewhere : {A : Type 0} (xs : List A) (i k : ℕ) (x : A) → k ≢ i → slice_get (set xs i x) k ≡ slice_get xs k
put_elsewhere [] i k x apart = refl
put_elsewhere (y ∷ xs) zero zero x apart = absurd (apart refl)
put_elsewhere (y ∷ xs) zero (suc k) x apart = refl
put_elsewhere (y ∷ xs) (suc i) zero x apart = refl
put_elsewhere (y ∷ xs) (suc i) (suc k) x apart = put_elsewhere xs i k x (λ e. apart (ap suc e))

module _ (texts : List (Option JsonExcerpt)) (e : JsonExcerpt) where
  -- a slot that isn't the text's is as it was
  untouched : (o : Option DeclaredField) (k : ℕ)
      → ((g : DeclaredField) → o ≡ Some g → g.deprecated ≡ false → k ≢ g.slot)
      → slice_get (texts_with texts o e) k ≡ slice_get texts k
  untouched None k apart = refl
  untouched (Some g) k apart = by g.deprecated refl
    where
      by : (b : Bool) → g.deprecated ≡ b
          → slice_get (if b then texts else set texts g.slot (Some e)) k ≡ slice_get texts k
      by true is = refl
      by false is = put_elsewhere texts g.slot k (Some e) (apart g refl is)

  module _ (P : JsonExcerpt → Type 0) where
    abbrev AllTexts : List (Option JsonExcerpt) → Type 0
    AllTexts xs = (k : ℕ) (x : JsonExcerpt) → slice_get xs k ≡ Some (Some x) → P x

    of_texts_with : (o : Option DeclaredField) → P e → AllTexts texts → AllTexts (texts_with texts o e)
    of_texts_with None here all = all
    of_texts_with (Some g) here all = by g.deprecated
      where
        now : (k : ℕ) (x : JsonExcerpt) → (b : Bool) → (k == g.slot) ≡ b
            → slice_get (set texts g.slot (Some e)) k ≡ Some (Some x) → P x
        now k x true is there =
            let same : k ≡ g.slot = eqb-true k g.slot is in
            let within : g.slot < length texts =
            omega (
              arith,
              slice_get_within (set texts g.slot (Some e)) k (Some x) there,
              same,
              length-set texts g.slot (Some e),
            ) in
            let one : Some (Some e) ≡ Some (Some x) =
            sym (put_here texts g.slot (Some e) within)
            ∙ (ap (slice_get (set texts g.slot (Some e))) (sym same) ∙ there) in
            let it : e ≡ x = cc in
            subst P it here
        now k x false is there =
            all k x (sym (put_elsewhere texts g.slot k (Some e) (eqb-false k g.slot is)) ∙ there)

        by : (b : Bool) → AllTexts (if b then texts else set texts g.slot (Some e))
        by true = all
        by false = λ k x there. now k x (k == g.slot) refl there

    -- What holds of the texts after this one, and of the one that no slot has, holds of those before.
    of_texts_before : (o : Option DeclaredField) → IfSome (text_over texts o e) P → AllTexts (texts_with texts o e)
        → AllTexts texts
    of_texts_before None over all = all
    of_texts_before (Some g) over all = by g.deprecated over all
      where
        before : IfSome (get_or texts g.slot (Some e)) P → AllTexts (set texts g.slot (Some e))
            → (k : ℕ) (x : JsonExcerpt) → (b : Bool) → (k == g.slot) ≡ b → slice_get texts k ≡ Some (Some x) → P x
        before over all k x true is there =
            let same : k ≡ g.slot = eqb-true k g.slot is in
            let here : get_or texts g.slot (Some e) ≡ Some x =
            get_or_from_slice_get texts g.slot (Some x) (Some e) (ap (slice_get texts) (sym same) ∙ there) in
            rw here at over
        before over all k x false is there =
            all k x (put_elsewhere texts g.slot k (Some e) (eqb-false k g.slot is) ∙ there)

        by : (b : Bool) → IfSome (if b then Some e else get_or texts g.slot (Some e)) P
            → AllTexts (if b then texts else set texts g.slot (Some e)) → AllTexts texts
        by true over all = all
        by false over all = λ k x there. before over all k x (k == g.slot) refl there

    -- and of this one
    of_this_text : (o : Option DeclaredField) → IfSome (text_over texts o e) P → AllTexts (texts_with texts o e) → P e
    of_this_text None over all = over
    of_this_text (Some g) over all = by g.deprecated over all
      where
        by : (b : Bool) → IfSome (if b then Some e else get_or texts g.slot (Some e)) P
            → AllTexts (if b then texts else set texts g.slot (Some e)) → P e
        by true over all = over
        by false over all = elim (slice_get_cases texts g.slot).1 [
          | inl there ↦ all g.slot e (put_here texts g.slot (Some e) there.1)
          | inr past ↦ rw (get_or_past texts g.slot (Some e) past.0) at over
        ]

-- ---- one member more

module _ (S : DeclaredSchema) (t : ℕ) (declared : IsDeclared S) (fs : List DeclaredField)
    (of : AreFieldsOf fs (body_at S t)) (unknown : Bool) (brackets : ℕ)
    (texts : List (Option JsonExcerpt)) (known : Result (Unit {0}) JsonFault) (ms : List (List ℕ × List ℕ))
    (so_far : ArePutSoFar S t fs unknown brackets texts known ms) (m : List ℕ × List ℕ) (e : JsonExcerpt)
    (text_is : e.text.now ≡ m.1) (brackets_is : e.brackets ≡ brackets)
    (named : IsReadAs brackets m.0 (string (name_read brackets m.0))) (o : Option DeclaredField)
    (found : o ≡ field_named (body_at S t) (name_read brackets m.0)) where
  abbrev name : List ℕ
  name = name_read brackets m.0

  tree_here : excerpt_tree e ≡ tree_read brackets m.1
  tree_here = ap (λ b. tree_read b e.text.now) brackets_is ∙ ap (tree_read brackets) text_is

  -- a slot of another name is as it was
  other_slot : (k : ℕ) (f : DeclaredField) → slice_get fs k ≡ Some f → f.name ≢ name
      → slice_get (texts_with texts o e) k ≡ slice_get texts k
  other_slot k f there apart =
      untouched texts e o k (λ g is used at. apart (named_at S t declared name g f k (sym found ∙ is)
      (in_fields fs (body_at S t) of k f there) at))

  -- the field of a slot of this name
  this_slot : (k : ℕ) (f : DeclaredField) → slice_get fs k ≡ Some f → f.name ≡ name → o ≡ Some f
  this_slot k f there same =
      found ∙ (ap (field_named (body_at S t)) (sym same)
      ∙ (found_as S t declared k f (in_fields fs (body_at S t) of k f there)).0)

  with_field : (k : ℕ) (f : DeclaredField) → slice_get fs k ≡ Some f → f.name ≡ name
      → f.deprecated ≡ false → texts_with texts o e ≡ set texts k (Some e)
  with_field k f there same used =
      let at = (found_as S t declared k f (in_fields fs (body_at S t) of k f there)).1 in
      ap (λ (x : Option DeclaredField). texts_with texts x e) (this_slot k f there same)
      ∙ (ap (λ (b : Bool). if b then texts else set texts f.slot (Some e)) used
      ∙ ap (λ (n : ℕ). set texts n (Some e)) at)

  each_more : (k : ℕ) (f : DeclaredField) → slice_get fs k ≡ Some f → f.deprecated ≡ false
      → slice_get (map (option_map excerpt_tree) (texts_with texts o e)) k
      ≡ Some (get_member f.name (object_read brackets (ms ++ m ∷ [])))
  each_more k f there used =
      slice_get-map (option_map excerpt_tree) (texts_with texts o e) k
      ∙ (by (bytes_eq f.name name) refl ∙ ap (λ x. Some (get_member f.name x)) (sym (object_more brackets ms m)))
    where
      by : (b : Bool) → bytes_eq f.name name ≡ b
          → option_map (option_map excerpt_tree) (slice_get (texts_with texts o e) k)
          ≡ Some (get_member f.name (put name (tree_read brackets m.1) (object_read brackets ms)))
      by true is =
          let same : f.name ≡ name = (bytes_eq-Decides f.name name).0 is in
          let within : k < length texts =
          omega (arith, slice_get_within fs k f there, so_far.texts_are.all) in
          let here : slice_get (texts_with texts o e) k ≡ Some (Some e) =
          ap (λ xs. slice_get xs k) (with_field k f there same used) ∙ put_here texts k (Some e) within in
          ap (option_map (option_map excerpt_tree)) here
          ∙ (ap (λ d. Some (Some d)) tree_here
          ∙ (ap Some (sym (get_member-put name (tree_read brackets m.1) (object_read brackets ms)))
          ∙ ap (λ n. Some (get_member n (put name (tree_read brackets m.1) (object_read brackets ms)))) (sym same)))
      by false is =
          let apart : f.name ≢ name = λ same.
          let both : true ≡ false = sym ((bytes_eq-Decides f.name name).1 same) ∙ is in cc in
          ap (option_map (option_map excerpt_tree)) (other_slot k f there apart)
          ∙ (sym (slice_get-map (option_map excerpt_tree) texts k) ∙ (so_far.texts_are.each k f there used
          ∙ ap Some (sym (get_member-put_other f.name name (tree_read brackets m.1) (object_read brackets ms) apart))))

  old_more : (k : ℕ) (f : DeclaredField) → slice_get fs k ≡ Some f → f.deprecated ≡ true
      → slice_get (texts_with texts o e) k ≡ Some None
  old_more k f there unused = by (bytes_eq f.name name) refl
    where
      by : (b : Bool) → bytes_eq f.name name ≡ b → slice_get (texts_with texts o e) k ≡ Some None
      by true is =
          let same : f.name ≡ name = (bytes_eq-Decides f.name name).0 is in
          ap (λ (x : Option DeclaredField). slice_get (texts_with texts x e) k) (this_slot k f there same)
          ∙ (ap (λ (b : Bool). slice_get (if b then texts else set texts f.slot (Some e)) k) unused
          ∙ so_far.texts_are.old k f there unused)
      by false is =
          let apart : f.name ≢ name = λ same.
          let both : true ≡ false = sym ((bytes_eq-Decides f.name name).1 same) ∙ is in cc in
          other_slot k f there apart ∙ so_far.texts_are.old k f there unused

  long_more : (x : Option DeclaredField) → length (texts_with texts x e) ≡ length texts
  long_more None = refl
  long_more (Some g) = by g.deprecated
    where
      by : (b : Bool) → length (if b then texts else set texts g.slot (Some e)) ≡ length texts
      by true = refl
      by false = length-set texts g.slot (Some e)

  pub one_more : IfSome (text_over texts o e) (λ x. IsRead x.brackets x.text.now)
      → ArePutSoFar S t fs unknown brackets (texts_with texts o e)
      (if unknown || is_used o then known else Err (UnknownMember (type_place t))) (ms ++ m ∷ [])
  one_more over = record {
    names = All-append (λ m. IsReadAs brackets m.0 (string (name_read brackets m.0))) ms (m ∷ []) so_far.names
        (All-cons (λ m. IsReadAs brackets m.0 (string (name_read brackets m.0))) m [] named
        (All-nil (λ m. IsReadAs brackets m.0 (string (name_read brackets m.0)))));
    texts_are = record {
      all = long_more o ∙ so_far.texts_are.all;
      each = each_more;
      old = old_more;
      brackets_are = of_texts_with texts e (λ x. x.brackets ≡ brackets) o brackets_is so_far.texts_are.brackets_are;
    };
    values = λ read.
        let this : IsRead e.brackets e.text.now =
        of_this_text texts e (λ x. IsRead x.brackets x.text.now) o over read in
        All-append (λ m. IsRead brackets m.1) ms (m ∷ [])
        (so_far.values (of_texts_before texts e (λ x. IsRead x.brackets x.text.now) o over read))
        (All-cons (λ m. IsRead brackets m.1) m []
        (subst (IsRead brackets) text_is (rw (← brackets_is) this))
        (All-nil (λ m. IsRead brackets m.1)));
    known_is =
        ap (λ (r : Result (Unit {0}) JsonFault). if unknown || is_used o then r else Err (UnknownMember (type_place t)))
        so_far.known_is
        ∙ (ap (λ (x : Option DeclaredField). if unknown || is_used x then if_known
        (unknown || names_known (body_at S t) (object_read brackets ms)) (type_place t)
        else Err (UnknownMember (type_place t))) found
        ∙ (known_more (body_at S t) unknown name (tree_read brackets m.1) (object_read brackets ms) (type_place t)
        ∙ ap (λ x. if_known (unknown || names_known (body_at S t) x) (type_place t))
        (sym (object_more brackets ms m))));
  }
