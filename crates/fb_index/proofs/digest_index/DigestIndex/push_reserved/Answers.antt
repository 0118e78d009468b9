use Rattle.std.proofs.Common.{◌∷◌, [], ◌++◌, ◌≡◌}
use Rattle.fb_index.proofs.Keyed.{last_is_at}
use Rattle.fb_index.proofs.digest_index.DigestIndex.push_reserved.Goals as goal

pub returns-clause-at : goal.returns-clause-at
returns-clause-at c =
    let key = c.free_key-key.result in
    let free = c.free_key-key.ensures.free in
    let keys : c.insert.new.self.keys ≡ c.self.inside.keys.keys ++ key ∷ [] = rw free at c.in-Ok.ensures.keys in
    rw (keys, ← c.self.view_is) (last_is_at c.self.inside.keys.keys c.args.digest key free c.free_key-key.ensures.first)
