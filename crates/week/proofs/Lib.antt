-- Laws that the proofs of this crate cite.
pub mod Shape
pub mod GoingLaws
