-- Keys of a hash, and hashes under a key.
use Rattle.std.specs.Prelude.{ℕ, List}
use Rattle.std.specs.Hash.{u64}
use Rattle.std.specs.Hash.FoldHasher as folding
use Rattle.std.specs.Hash.DefaultHasher as sip
use Rattle.std.specs.List.{fold}
use Rattle.fb_index.specs.declared.hash_key.HashKey.{HashKey}
use Rattle.fb_index.specs.declared.hash_key.KeyDigest.{KeyDigest}

abbrev pub nothing_written : KeyDigest
nothing_written = record { hasher = sip.initial }

-- with one more piece
abbrev pub written : KeyDigest → List ℕ → KeyDigest
written t piece = record { hasher = sip.write t.hasher piece }

-- the key of what was written: a fold hash begins with the SipHash of it
abbrev pub key_by : KeyDigest → HashKey
key_by t = record { initial = fold folding.write folding.initial (u64 (sip.finish t.hasher)) }

-- the key of what is inside something that has a number
abbrev pub key_inside : HashKey → ℕ → HashKey
key_inside key number = record { initial = fold folding.write key.initial (u64 number) }

abbrev pub key_of : List ℕ → HashKey
key_of text = key_by (written nothing_written text)

abbrev pub digest_by : HashKey → List ℕ → ℕ
digest_by key bytes = folding.finish (folding.write key.initial bytes)
