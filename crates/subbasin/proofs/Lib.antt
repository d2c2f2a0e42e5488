-- Laws about the definitions of specs/, which the proofs of this crate and of the crates above cite; each module's stand in its folder.
pub mod Cases
