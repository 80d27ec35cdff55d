-- That the fifteen operations keep the laws of meanings. These lemmas are here and not among the proofs, since
-- the trait's laws are proved where it is implemented.
pub mod Inputs
pub mod Sides
pub mod Reading
pub mod Reaching
pub mod ImageLaws
pub mod MeaningLaws
pub mod SameLaws
pub mod InPlace
