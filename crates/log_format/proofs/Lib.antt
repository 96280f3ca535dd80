pub mod Loop
pub mod Rules
pub mod SizeLaws
pub mod Fields
pub mod Lists
pub mod EntryLaws
pub mod Bodies
pub mod GroupLaws
