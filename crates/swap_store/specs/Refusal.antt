-- What a store makes of the answers of its disk.
use Rattle.outside_io.specs.declared.swap.SwapAnswer.{SwapAnswer}
use Rattle.outside_io.specs.declared.swap.SwapAnswer.TheVariants as answers
use Rattle.chain_owners.specs.declared.swap_refused.SwapRefused.{SwapRefused}
use Rattle.chain_owners.specs.declared.swap_refused.SwapRefused.TheVariants as refusals

-- an I/O error of the disk is an I/O error, and running out of memory is running out of memory
abbrev pub refusal_of : SwapAnswer → SwapRefused
refusal_of answers.Failed = refusals.SwapFault
refusal_of answers.NoMemory = refusals.NoMemory
