-- Document 01 as definitions: the basin and its limits, its file, one step of it, and demand 3.
pub mod Reach
pub mod State
pub mod Limits
pub mod File
pub mod Network
pub mod Step
pub mod Calls
pub mod Week
pub mod Workers
pub mod Account
pub mod Cases
