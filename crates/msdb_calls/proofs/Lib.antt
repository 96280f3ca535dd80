pub mod AnswerLemmas
pub mod BeginLemmas
pub mod LookLemmas
pub mod WorkLemmas
