pub mod AlikeLemmas
pub mod ShownLemmas
pub mod SettingLemmas
pub mod LessonLemmas
pub mod PlaceLemmas
pub mod FilledLemmas
pub mod WorkLemmas
pub mod EndLemmas
pub mod StatementLemmas
pub mod ActLemmas
pub mod NextLemmas
pub mod FitLemmas
pub mod FitStatements
mod GivenLemmas
pub mod SuitLemmas
