use denote.Param.Send.{IsSend}
use Rattle.tile_cow.specs.contracts.owner.Owner.{the_row}
use Rattle.tile_cow.proofs.Sent.{owner_send}

pub send : IsSend the_row
send = owner_send
