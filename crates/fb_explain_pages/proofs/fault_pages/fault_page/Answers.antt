use Rattle.std.proofs.Common.{ℕ, ◌≡◌, ◌+◌, ◌<◌, ◌≤◌, true, List, Bor, length, refl, ◌∙◌, arith}
use Rattle.fb_explain_pages.proofs.fault_pages.OneBranchIsTaken.{pages_by_branch, same_pages}
use Rattle.fb_explain_pages.specs.Titles.{are_pages}
use Rattle.fb_explain_pages.proofs.fault_pages.fault_page.Goals as goal
use Rattle.fb_explain_pages.proofs.fault_pages.fault_page.Goals.{in-84, in-1-to-7, in-10-to-23, in-30-to-32}
use Rattle.fb_explain_pages.proofs.fault_pages.fault_page.Goals.{in-40-to-41, in-50-to-60, in-62-to-64, in-70-to-82}
use Rattle.fb_explain_pages.proofs.fault_pages.fault_page.Goals.{in-90-to-103, in-110-to-114}

record IsGroupOf (number : ℕ) (group : ℕ × Bor (List (Bor (List ℕ)))) : Type 0 where
  pages : are_pages group.0 group.1.now ≡ true
  first : group.0 ≤ number
  last : number < group.0 + length group.1.now

is_group_of : (number : ℕ) (group taken : ℕ × Bor (List (Bor (List ℕ))))
    → taken ≡ group → (count : ℕ) → length group.1.now ≡ count → pages_by_branch group.0 group.1.now ≡ true
    → group.0 ≤ number → number < group.0 + count → IsGroupOf number taken
is_group_of number group taken is count counted in_order from to =
    let shown = same_pages group.0 group.1.now ∙ in_order in
    rw is (record { pages = shown; first = from; last = omega (arith, counted, to) })

group_taken : (c : goal.After-pages-1) → IsGroupOf c.args.number c.match-number.first
group_taken c = elim c.match-number.branch [
  | in-84 w ↦ is_group_of _ _ _ w.first-is 1 refl refl (omega arith) (omega arith)
  | in-1-to-7 w ↦ is_group_of _ _ _ w.first-is 7 refl refl (omega arith) (omega arith)
  | in-10-to-23 w ↦ is_group_of _ _ _ w.first-is 14 refl refl (omega arith) (omega arith)
  | in-30-to-32 w ↦ is_group_of _ _ _ w.first-is 3 refl refl (omega arith) (omega arith)
  | in-40-to-41 w ↦ is_group_of _ _ _ w.first-is 2 refl refl (omega arith) (omega arith)
  | in-50-to-60 w ↦ is_group_of _ _ _ w.first-is 11 refl refl (omega arith) (omega arith)
  | in-62-to-64 w ↦ is_group_of _ _ _ w.first-is 3 refl refl (omega arith) (omega arith)
  | in-70-to-82 w ↦ is_group_of _ _ _ w.first-is 13 refl refl (omega arith) (omega arith)
  | in-90-to-103 w ↦ is_group_of _ _ _ w.first-is 14 refl refl (omega arith) (omega arith)
  | in-110-to-114 w ↦ is_group_of _ _ _ w.first-is 5 refl refl (omega arith) (omega arith)
]

pub page_in-requires-clause-pages : goal.page_in-requires-clause-pages
page_in-requires-clause-pages c = (group_taken c).pages

pub page_in-requires-clause-first : goal.page_in-requires-clause-first
page_in-requires-clause-first c = (group_taken c).first

pub page_in-requires-clause-last : goal.page_in-requires-clause-last
page_in-requires-clause-last c = (group_taken c).last

pub returns-clause-plain : goal.returns-clause-plain
returns-clause-plain c = c.page_in.ensures.plain

pub returns-clause-titled : goal.returns-clause-titled
returns-clause-titled c = c.page_in.ensures.titled
