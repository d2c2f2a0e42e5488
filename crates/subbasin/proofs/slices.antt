-- Laws about specs/Slices.antt, which the proofs of this crate and of the crates above cite.
pub mod SlicesLaws
pub mod FastLaws
