use denote.Param.Send.{IsSync}
use Rattle.tile_cow.specs.contracts.owner.Owner.{the_row}
use Rattle.tile_cow.proofs.Sent.{owner_sync}

pub sync : IsSync the_row
sync = owner_sync
