use Rattle.std.proofs.Common.{ℕ, ◌≡◌, drop}
use Rattle.fb_resolve.specs.Outline.{outline_behind}
use Rattle.fb_resolve.specs.Paths.{walk_read, IsPlaced}
use Rattle.fb_resolve.proofs.walk.DeclarationWalk.pass_all.Given as goal

-- what is noted, and what the declarations that are left give
abbrev pub invariant-loop-declaration : goal.invariant-loop-declaration
invariant-loop-declaration l = record {
  placed : IsPlaced l.self;
  passed : (len : ℕ) → outline_behind (walk_read l.self) (drop l.declaration-index l.declarations) len ≡ outline_behind
      (walk_read l.fn.self) l.declarations len;
}
