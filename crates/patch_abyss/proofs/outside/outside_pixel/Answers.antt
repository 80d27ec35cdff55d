use Rattle.patch_abyss.proofs.ReadRows.{white_pixel, zero_pixel}
use Rattle.patch_abyss.proofs.outside.outside_pixel.Goals as goal

pub returns-in-None-clause-samples : goal.returns-in-None-clause-samples
returns-in-None-clause-samples c = λ channel known. zero_pixel c.args.abyss c.args.format c.pixel_bytes-count.result channel c.in-None.is

pub returns-in-White-clause-samples : goal.returns-in-White-clause-samples
returns-in-White-clause-samples c = λ channel known. white_pixel c.args.abyss c.args.format c.pixel_bytes-count.result channel c.in-White.is c.pixel_bytes-count.ensures known
