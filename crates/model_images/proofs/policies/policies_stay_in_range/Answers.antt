use Rattle.std.proofs.Common.{arith}
use Rattle.pixel_formats.specs.Format.{max_sample}
use Rattle.model_images.proofs.PolicyLaws as laws
use Rattle.model_images.proofs.policies.policies_stay_in_range.Goals as goal

pub returns : goal.returns
returns c = λ image policy channel below. laws.abyss_at-most image policy channel (max_sample image.format) (omega arith) below
