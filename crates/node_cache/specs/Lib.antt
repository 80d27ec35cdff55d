pub mod Keys
pub mod Stores
pub mod NodeNames
pub mod NodeLaws
pub mod HandTiles
