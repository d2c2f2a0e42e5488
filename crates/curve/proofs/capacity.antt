-- Laws about specs/Capacity.antt, which the proofs of this crate and of the crates above cite.
pub mod RootLaws
pub mod PowerLaws
pub mod HeldLaws
pub mod ShareLaws
pub mod FastLaws
pub mod CallLaws
