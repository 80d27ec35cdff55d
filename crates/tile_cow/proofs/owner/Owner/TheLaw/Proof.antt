-- A `&` to an owner shares what the owner may read. Assumes `Logic`.
use denote.Param.Shared.{copy_shared}
use denote.Struct.Field.{RawPtr-field}
use denote.Struct.Laws.{RawPtr-copy}
use denote.Struct.Lending.{of_Lends}
use Rattle.tile_cow.specs.contracts.owner.Owner as C
use Rattle.tile_cow.proofs.owner.Owner.TheLaw.Statement.{statement}
use Rattle.tile_cow.proofs.Rows.{shares_laws, owner_lent}

pub shares : statement
shares = of_Lends C.struct C.the_codes C.the_heap C.the_lent (λ d p. shares_laws d.words d.bytes) (copy_shared RawPtr-field RawPtr-copy, tt) (λ M 𝓤 𝓛 d p. owner_lent 𝓛 d.words d.bytes)
