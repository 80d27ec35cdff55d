pub mod Carried
pub mod Promises
pub use Rattle.outside_io.specs.Files
pub use Rattle.outside_io.specs.Faults
pub use Rattle.model_runs.specs.World
pub use Rattle.model_runs.specs.Built
pub use Rattle.model_runs.specs.Ending
pub use Rattle.model_runs.specs.Ran
