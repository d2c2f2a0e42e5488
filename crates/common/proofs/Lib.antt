-- Laws about the definitions of specs/, which the proofs of every crate cite.
pub mod Limits
pub mod Loops
pub mod Tables
pub mod Refusals
pub mod Greatest
pub mod Smallest
pub mod Cases
pub mod Mapped
pub mod Signed
