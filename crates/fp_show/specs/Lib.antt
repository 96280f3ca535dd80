pub mod FieldText
pub mod DbText
pub mod GroupText
pub mod inside
