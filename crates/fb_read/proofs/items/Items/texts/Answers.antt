use Rattle.std.proofs.Common.{◌≡◌, sym, true, refl, ◌∙◌, arith}
use Rattle.fb_layout.specs.Laid.{LaidSchema, StoredKind, text_kind, stored_kind, size_of}
use Rattle.fb_read.specs.Kinds.{is_text}
use Rattle.fb_read.proofs.entry.EntryIsWhatWasFound.{text_told}
use Rattle.fb_read.proofs.placed.PartsLieInTheirPlaces.{item_text_sure, item_text, item_no_text}
use Rattle.fb_read.proofs.items.Items.texts.Goals as goal

-- a reference takes four bytes
text_size : (L : LaidSchema) (kind : StoredKind) → is_text kind ≡ true → size_of L kind ≡ 4
text_size L text_kind is = refl
text_size L _ is = cc

pub invariant_of-result : goal.invariant_of-result
invariant_of-result c =
    let L = c.args.self.layout.now in
    let kind = stored_kind L.schema c.args.self.kind in
    let is : is_text kind ≡ true = sym (c.is_text.ensures L) ∙ c.if-not-is_text.false in
    record {
      short = c.args.self.short;
      texts = λ i less. rw (text_size L kind is) at (item_text_sure L c.args.self.bytes.now kind c.args.self.at
          c.args.self.len i less c.args.self.lies is);
    }

pub returns : goal.returns
returns c ds lies =
    let L = c.args.self.layout.now in
    let kind = stored_kind L.schema c.args.self.kind in
    let is : is_text kind ≡ true = sym (c.is_text.ensures L) ∙ c.if-not-is_text.false in
    record {
      count = lies.0;
      each = λ i less. text_told _ _ (sym (rw (text_size L kind is) at
          (item_text L c.args.self.bytes.now kind c.args.self.at c.args.self.len i less ds lies is)));
    }

pub returns-then-not-is_text : goal.returns-then-not-is_text
returns-then-not-is_text c ds lies i less =
    let L = c.args.self.layout.now in
    item_no_text L c.args.self.bytes.now (stored_kind L.schema c.args.self.kind) c.args.self.at c.args.self.len i
    (omega (arith, less, lies.0)) ds lies (sym (c.is_text.ensures L) ∙ c.if-not-is_text.true)
