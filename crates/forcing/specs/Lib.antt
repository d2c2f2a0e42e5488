-- Document 01 as definitions: the forcing list and the forcing file.
pub mod Depth
pub mod Temperature
pub mod List
pub mod File
pub mod Workers
pub mod Cases
