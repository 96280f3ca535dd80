pub mod FieldLemmas
mod WordLemmas
