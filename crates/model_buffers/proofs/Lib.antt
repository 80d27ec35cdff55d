pub mod FindLaws
pub mod AnswerLaws
pub mod CauseLaws
mod ExactLaws
pub mod LayoutLaws
pub mod ShapeLaws
pub mod FactLaws
pub mod AddingLaws
pub mod TableLaws
pub mod EffectLaws
mod MoveLaws
pub mod SeenLaws
mod SharingLaws
mod CountLaws
mod HeldLaws
