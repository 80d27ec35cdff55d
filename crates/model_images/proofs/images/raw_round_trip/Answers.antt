use Rattle.model_images.proofs.FromRawLaws.{raw-image_from_raw}
use Rattle.model_images.proofs.images.raw_round_trip.Goals as goal

pub returns : goal.returns
returns c = raw-image_from_raw
