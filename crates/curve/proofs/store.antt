-- Laws about specs/Store.antt, which the proofs of this crate and of the crates above cite, and about specs/Stray.antt.
pub mod StoreLaws
pub mod PartsLaws
mod InflowLaws
mod NearLaws
mod StrayLaws
