-- What stands in its place takes 65,535 bytes at most.
use Rattle.std.proofs.Common.{◌≤◌, arith}
use Rattle.fb_layout.specs.Laid.{StoredKind, scalar_kind, struct_kind, table_kind, union_kind, code_kind, text_kind}
use Rattle.fb_layout.specs.Laid.{LaidSchema, size_of}
use Rattle.fb_layout.specs.WellMade.{IsWellMade}
use Rattle.fb_layout.proofs.sizes.AlignmentsArePowersOfTwo.{base_fits}

pub size_fits : (L : LaidSchema) → IsWellMade L → (kind : StoredKind) → size_of L kind ≤ 65535
size_fits L made (scalar_kind base) = base_fits base
size_fits L made (struct_kind s) = made.small s
size_fits L made (table_kind t) = omega arith
size_fits L made (union_kind u) = omega arith
size_fits L made (code_kind u) = omega arith
size_fits L made text_kind = omega arith
