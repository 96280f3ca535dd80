pub mod KeyLemmas
pub mod Loops
pub mod Steps
pub mod ValueSteps
pub mod FieldLemmas
pub mod RowLemmas
pub mod NumberLemmas
pub mod TextLemmas
