-- Document 02, No. 5, as definitions, where a basin is asked.
pub mod Question
