use Rattle.std.proofs.Common.{◌≡◌, ℕ, ◌+◌, ◌≤◌, Option, None, Some, refl, inl, inr, sym, ◌∙◌, arith}
use Rattle.std.proofs.lemmas.Grind.{merely}
use Rattle.std.proofs.lemmas.Result.{err_from_is_err_and}
use Rattle.fb_layout.specs.Laid.{LaidSchema}
use Rattle.fb_value.specs.declared.faults.ReadFault.{ReadFault}
use Rattle.fb_value.specs.Bounds.{Bounds}
use Rattle.fb_value.specs.Num.{Bytes}
use Rattle.fb_value.specs.Holds.{front_of, RefusesBehind}
use Rattle.fb_read.proofs.reader.RootVisitDecides.{refused_root, held_root, view_lies, view_known}
use Rattle.fb_read.proofs.reader.verify_framed.Goals as goal

none_more : (n : ℕ) → n ≤ n
none_more n = omega arith

few_more : (n cells : ℕ) → n ≤ n + (cells + 1)
few_more n cells = omega arith

-- Bytes with a front that breaks a rule hold no value.
front_refused : (p : ℕ) (front : Option ReadFault) (L : LaidSchema) (most : Bounds) (b : Bytes) (f : ReadFault)
    → front ≡ Some f → RefusesBehind p front L most b f
front_refused p front L most b f fails = (
  inl fails,
  λ v holds.
      let clash : Some f ≡ None = sym fails ∙ holds.header in
      absurd cc,
)

pub returns-in_err-buffer : goal.returns-in_err-buffer
returns-in_err-buffer c =
    let p = err_from_is_err_and c.from_residual.result c.from_residual.ensures.1 in
    rw (p.1, p.2) (record {
      held = tt;
      root = tt;
      stands = tt;
      fault = front_refused _ _ c.args.layout.now c.args.limits c.args.bytes.now _ c.in_err-buffer.ensures.front;
      rises = none_more c.args.entries.now.count;
      counted = few_more c.args.entries.now.count c.args.limits.cells;
      each = tt;
      refused = inl (c.in_err-buffer.ensures.front, refl);
    })

pub returns-in_err-visited : goal.returns-in_err-visited
returns-in_err-visited c =
    let p = err_from_is_err_and c.from_residual-in_err-visited.result c.from_residual-in_err-visited.ensures.1 in
    let same = c.in_ok-buffer.ensures.buffer in
    let fails = rw (same.layout, same.bytes, same.depth, same.cells) at
    (rw c.in_err-visited.was at c.visit_buffer-visited.ensures.finds) in
    let entered = rw (same.layout, same.bytes, same.depth, same.cells) at
    (rw c.in_err-visited.was at c.visit_buffer-visited.ensures.refused) in
    rw (p.1, p.2) (record {
      held = tt;
      root = tt;
      stands = tt;
      fault = refused_root (front_of c.args.prefixed) _ c.args.layout.now c.args.limits c.args.bytes.now
          c.schema.ensures.made _ c.in_ok-buffer.ensures.front fails;
      rises = c.visit_buffer-visited.ensures.rises;
      counted = rw same.cells at c.visit_buffer-visited.ensures.counted;
      each = tt;
      refused = inr (c.in_ok-buffer.ensures.front, entered);
    })

pub u32_at-requires : goal.u32_at-requires
u32_at-requires c = rw (c.front_of-front.ensures.exact) c.in_ok-buffer.ensures.long

pub returns-clause-root : goal.returns-clause-root
returns-clause-root c = (refl, rw c.schema.ensures.schema at c.root-root.ensures)

pub returns-clause-stands : goal.returns-clause-stands
returns-clause-stands c v holds =
    rw (rw c.schema.ensures.schema at c.root-root.ensures, c.u32_at.ensures, c.front_of-front.ensures.exact)
    holds.lies.1

pub returns-clause-counted : goal.returns-clause-counted
returns-clause-counted c = rw c.in_ok-buffer.ensures.buffer.cells at c.visit_buffer-visited.ensures.counted

pub returns-clause-each : goal.returns-clause-each
returns-clause-each c v holds =
    let same = c.in_ok-buffer.ensures.buffer in
    (rw c.in_ok-visited.was at c.visit_buffer-visited.ensures.each) v (rw (same.layout, same.bytes) holds.lies)

pub returns-clause-held : goal.returns-clause-held
returns-clause-held c =
    let same = c.in_ok-buffer.ensures.buffer in
    let fine = rw (same.layout, same.bytes, same.depth, same.cells) at
    (rw c.in_ok-visited.was at c.visit_buffer-visited.ensures.finds) in
    held_root (front_of c.args.prefixed) _ c.args.layout.now c.args.limits c.args.bytes.now
    c.schema.ensures.made c.in_ok-buffer.ensures.front fine

pub vtable_in-requires-clause-lies : goal.vtable_in-requires-clause-lies
vtable_in-requires-clause-lies c =
    let same = c.in_ok-buffer.ensures.buffer in
    let fine = rw (same.layout, same.bytes, same.depth, same.cells) at
    (rw c.in_ok-visited.was at c.visit_buffer-visited.ensures.finds) in
    let root = rw c.schema.ensures.schema at c.root-root.ensures in
    let from = c.front_of-front.ensures.exact in
    let there = rw from at c.u32_at.ensures in
    merely (view_lies (front_of c.args.prefixed) _ c.args.layout.now c.args.limits c.args.bytes.now
    c.schema.ensures.made
    _ _ c.in_ok-buffer.ensures.front fine root (omega (arith, from, there)))

pub invariant_of-result : goal.invariant_of-result
invariant_of-result c =
    let same = c.in_ok-buffer.ensures.buffer in
    let fine = rw (same.layout, same.bytes, same.depth, same.cells) at
    (rw c.in_ok-visited.was at c.visit_buffer-visited.ensures.finds) in
    let root = rw c.schema.ensures.schema at c.root-root.ensures in
    let from = c.front_of-front.ensures.exact in
    let there = rw from at c.u32_at.ensures in
    let whole = rw (same.layout, same.bytes) at (rw c.in_ok-visited.was at c.visit_buffer-visited.ensures.whole) in
    record {
      short = rw same.bytes at c.in_ok-buffer.buffer.short;
      lies = merely (view_lies (front_of c.args.prefixed) _ c.args.layout.now c.args.limits c.args.bytes.now
          c.schema.ensures.made
          _ _ c.in_ok-buffer.ensures.front fine root (omega (arith, from, there)));
      vtable = c.vtable_in.ensures.vtable;
      vtable_whole = c.vtable_in.ensures.whole;
      vtable_within = c.vtable_in.ensures.within;
      known = λ known. view_known (front_of c.args.prefixed) _ c.args.layout.now c.args.limits c.args.bytes.now
          c.schema.ensures.made
          _ _ c.in_ok-buffer.ensures.front fine root (omega (arith, from, there)) (whole known);
    }
