pub mod BlockLemmas
pub mod LineLemmas
pub mod TextLemmas
pub mod NumberLemmas
pub mod ParseLemmas
pub mod OneMeaning
pub mod Fitting
pub mod KeywordLemmas
