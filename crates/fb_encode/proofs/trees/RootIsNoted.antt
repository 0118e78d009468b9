-- The root's value is noted, and is what the tree means.
use Rattle.std.proofs.Common.{◌≡◌, ◌∙◌, ◌∷◌, [], ℕ, Bool, List, Option, refl, sym, ap, subst}
use Rattle.std.proofs.Common.{arith}
use Rattle.serde_json.specs.Data.{Data}
use Rattle.fb_schema.specs.declared.kinds.Kind.TheVariants.{Table}
use Rattle.fb_schema.specs.declared.kinds.Shape.TheVariants.{One}
use Rattle.fb_layout.specs.Laid.{LaidSchema, one_of, table_kind}
use Rattle.fb_layout.specs.WellMade.{IsWellMade}
use Rattle.fb_value.specs.Bounds.{Bounds}
use Rattle.fb_value.specs.Datum.{Datum, a_number, a_text, a_vector, a_struct, a_table, a_member, an_unknown}
use Rattle.fb_value.specs.Fits.{Fits}
use Rattle.fb_value.specs.Places.{table_part}
use Rattle.fb_value.specs.Room.{room}
use Rattle.fb_value.specs.View.{entries_in}
use Rattle.fb_value.proofs.types.NestingIsBoundedByDepth.{root_fits}
use Rattle.fb_value.proofs.types.PartsAreListed.{entries_out, entries_same}
use Rattle.fb_tape.specs.Tapes.{Taped, Waits}
use Rattle.fb_json.specs.Laws.{OnlyWhatIsMeant}
use Rattle.fb_json.specs.Means.{Means}
use Rattle.fb_json.specs.Meant.{meant, type_place}
use Rattle.fb_json.specs.Refuses.{root_meant}
use Rattle.fb_build.specs.NotedRoots.{NotesRoot}
use Rattle.fb_encode.specs.RootsNoted.{IsRootNoted}
use Rattle.fb_encode.specs.TreesNoted.{IsNoted}

is_table : (L : LaidSchema) (t : ℕ) (d : Datum) → Fits L (one_of (table_kind t)) d
    → (xs : List (Option Datum)) × (d ≡ a_table t (entries_in xs))
is_table L t (a_table type es) fits =
    (entries_out es, ap (λ (n : ℕ). a_table n es) fits.0 ∙ ap (a_table t) (sym (entries_same es)))
is_table L t (a_number n) fits = absurd fits
is_table L t (a_text n) fits = absurd fits
is_table L t (a_vector n) fits = absurd fits
is_table L t (a_struct n) fits = absurd fits
is_table L t (a_member n d) fits = absurd fits
is_table L t (an_unknown n) fits = absurd fits

module _ (L : LaidSchema) (most : Bounds) (unknown : Bool) (t : Data) (root levels left : ℕ)
    (is : root ≡ L.schema.root) (deep : levels ≡ most.depth) (many : left ≡ most.cells) where
  pub at_root : meant L unknown t (One (Table (record { 0 = root }))) (type_place root) levels left
      ≡ root_meant L most unknown t
  at_root = rw (is, deep, many) refl

  module _ (a b : Taped) (rest : ℕ) (layout : a.layout ≡ L) (none : Waits a []) (empty : a.room ≡ 0)
      (h : IsNoted L (one_of (table_kind root))
      (meant L unknown t (One (Table (record { 0 = root }))) (type_place root) levels left) a b rest) where
    root_notes : NotesRoot L b h.value
    root_notes =
        let table = is_table L root h.value h.fits in
        let same = h.adds.layout ∙ layout in
        let value : h.value ≡ a_table L.schema.root (entries_in table.0) =
        table.1 ∙ ap (λ (n : ℕ). a_table n (entries_in table.0)) is in
        let waits = h.adds.waits [] none in
        let root_is : root ≡ b.layout.schema.root = is ∙ sym (ap (λ (M : LaidSchema). M.schema.root) same) in
        let named : Waits b (record { target = table_part root; value = a_table root (entries_in table.0) } ∷ []) =
        rw (← table.1) waits in
        record {
          entries = table.0;
          layout = same;
          value_is = value;
          means = subst (λ (n : ℕ). Waits b (record {
            target = table_part n;
            value = a_table n (entries_in table.0);
          } ∷ [])) root_is named;
          sum = omega (
            arith,
            h.adds.sum,
            empty,
            ap (λ (n : ℕ). room L (one_of (table_kind n)) h.value) is,
          );
        }

    root_means : OnlyWhatIsMeant → Means L most unknown t h.value
    root_means law =
        let good = law L unknown t (One (Table (record { 0 = root }))) (type_place root) levels left (h.value, rest)
        h.given_is in (
          rw is at good.0,
          omega (arith, good.2, deep),
          omega (arith, good.1, many),
        )

    pub root_noted : OnlyWhatIsMeant → IsWellMade L → IsRootNoted L most unknown t b
    root_noted law made = record {
      value = h.value;
      noted = root_notes;
      means = root_means law;
      fits = (root_fits L h.value made).1 (rw is at h.fits);
    }
