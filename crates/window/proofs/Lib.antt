-- Laws that the proofs of this crate cite.
pub mod UnexceededLaws
pub mod RecordLaws
pub mod ArrivalLaws
pub mod AfterLaws
