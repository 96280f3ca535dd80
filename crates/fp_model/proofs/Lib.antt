pub mod HistoryLemmas
pub mod FrameLemmas
pub mod ProgramLemmas
pub mod FsaLemmas
pub mod RunLemmas
