use Rattle.std.proofs.Common.{◌≡◌, ◌∙◌, ◌-◌, ◌≤◌, length, drop, sym, arith}
use Rattle.std.specs.List.{position}
use Rattle.flatc_files.specs.Lines.{is_feed}
use Rattle.flatc_files.specs.Windows.{pending}
use Rattle.flatc_files.proofs.LineFeeds.{within, at_feed, no_feed, all_without}
use Rattle.flatc_files.proofs.Pending.{length-slice_range}
use Rattle.flatc_files.proofs.window.Window.line_len.Goals as goal

pub next_feed-requires : goal.next_feed-requires
next_feed-requires c =
    let self = c.args.self.now in
    let before : self.searched ≤ length (pending self) = within (pending self) self.searched self.sought in
    record { within = rw c.bytes.ensures before }

pub returns-in-Some-clause-line : goal.returns-in-Some-clause-line
returns-in-Some-clause-line c =
    let found : c.next_feed.result ≡ position is_feed (drop c.args.self.now.searched (pending c.args.self.now))
    = rw c.bytes.ensures at c.next_feed.ensures in
    sym (at_feed _ _ c.args.self.now.sought c.in-Some.at (sym found ∙ c.in-Some.is))

pub invariant_of-self : goal.invariant_of-self
invariant_of-self c =
    let self = c.args.self.now in
    let found : c.next_feed.result ≡ position is_feed (drop self.searched (pending self))
    = rw c.bytes.ensures at c.next_feed.ensures in
    let none = no_feed _ _ self.sought (sym found ∙ c.in-None.is) in
    let long : length (pending self) ≡ self.end - self.start =
    length-slice_range self.bytes.items self.start self.end self.taken self.read in
    record { taken = self.taken; read = self.read; sought = omega (arith, none) }

pub returns-in-None-clause-line : goal.returns-in-None-clause-line
returns-in-None-clause-line c =
    let self = c.args.self.now in
    let found : c.next_feed.result ≡ position is_feed (drop self.searched (pending self))
    = rw c.bytes.ensures at c.next_feed.ensures in
    sym (all_without (pending self) (no_feed _ _ self.sought (sym found ∙ c.in-None.is)))
