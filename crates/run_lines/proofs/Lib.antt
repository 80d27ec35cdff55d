mod Bounds
mod EditLines
mod Puts
mod Cuts
mod PutBands
mod Reading
mod BandParts
mod LoadBands
mod LoadTurns
mod Loading
mod Grabs
mod Grabbing
mod NodeLines
mod Commands
mod Going
mod Stopping
mod Starting
mod LookingUp
mod CachedNames
mod Writing
mod StepLines
mod RenderLines
mod Rendered
mod RawBands
mod BandBytes
mod BandWrites
mod PictureWrites
mod Seen
pub mod Leaving
pub mod Texts
pub mod Carrying
pub mod EventLines
pub mod Endings
pub mod Faults
