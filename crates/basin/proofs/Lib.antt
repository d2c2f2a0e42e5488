-- Laws about the definitions of specs/, which the proofs of this crate cite; each module's stand in its folder.
pub mod Sound
pub mod Singles
pub mod Account
pub mod CaseSteps
pub mod Cases
pub mod CaseB
