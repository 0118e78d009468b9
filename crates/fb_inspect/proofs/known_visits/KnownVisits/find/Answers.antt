use Rattle.std.proofs.Common.{ℕ, ◌≡◌, ◌≤◌, ◌+◌, ◌-◌, ◌∙◌, All, arith, rules, sym}
use Rattle.std.proofs.lemmas.Bool.{leb-true, ltb-true}
use Rattle.fb_read.specs.declared.buffer.Buffer.{Buffer}
use Rattle.fb_read.specs.declared.part.Part.{Part}
use Rattle.fb_read.specs.declared.visited.Visited.{Visited}
use Rattle.fb_read.specs.Visited.{part_at, Takes}
use Rattle.fb_inspect.specs.Known.{IsKnown}
use Rattle.fb_inspect.specs.declared.known_visits.KnownVisit.{KnownVisit}
use Rattle.fb_inspect.proofs.known_visits.KnownVisits.find.Goals as goal
use Rattle.fb_inspect.proofs.known_visits.KnownVisits.find.Goals.{then-tables-known, else-tables-known}

-- a visit takes what is known of it where there is room for that
takes_known : (buffer : Buffer) (known : KnownVisit) (part : Part) (at tables spent left : ℕ) (v : Visited)
    → IsKnown buffer known → known.part ≡ part → known.at ≡ at
    → v.cells ≡ known.visited.cells → v.parts ≡ known.visited.parts
    → tables ≤ known.visited.tables → known.visited.cells ≤ left
    → (spent ≤ buffer.most_cells) × (left ≡ buffer.most_cells - spent)
    → Takes buffer (part_at buffer part at) tables spent v
takes_known buffer known part at tables spent left v is same_part same_at cells parts few fit rest =
    let room : spent + known.visited.cells ≤ buffer.most_cells = omega (arith, rest.0, rest.1) in
    rw (← same_part, ← same_at) (record {
      visit = rw cells (is.visit tables spent few room);
      few = rw cells room;
      counted = record {
        few = rw (parts, cells) is.counted.few;
        exact = rw parts is.counted.exact;
      };
    })

pub returns-then-known-at : goal.returns-then-known-at
returns-then-known-at c =
    let args = c.args in
    let buffer = c.self.inside.buffer in
    let known = c.in_ok-known.known.now in
    let found = c.in_ok-known.ensures.lookup in
    let copy = c.copied.ensures in
    let visits : All (IsKnown buffer) c.deref.result.now = rw c.deref.ensures.value c.self.invariant in
    let is : IsKnown buffer known = rw found.1 (visits args.number known (ltb-true _ _ (sym found.0))) in
    rw (← c.self.view_is) (elim c.if-tables-known.branch [
      | then-tables-known w ↦
          takes_known buffer known args.part args.at args.tables args.spent c.in_ok-left.left c.copied.result is
          (grind rules) c.if-known-at.true copy.cells copy.parts w.if-tables-known.true
          (leb-true _ _ (sym w.has_room-is ∙ c.if-has_room.true)) (rw (← c.from-most.ensures) c.in_ok-left.ensures)
      | else-tables-known w ↦
          let no : args.tables ≤ known.visited.tables = leb-true _ _ (sym w.has_room-is ∙ c.if-has_room.true) in
          absurd (omega (arith, w.if-tables-known.false))
    ])
