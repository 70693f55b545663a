pub mod PartLemmas
pub mod ReadingLaws
pub mod StoreLemmas
pub mod RowLaws
