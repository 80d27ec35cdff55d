pub mod Chains
pub mod Drawn
pub mod Entered
pub mod Framed
pub mod Left
pub mod Rendered
pub mod Started
pub mod Voided
