-- Document 01 as definitions: one sub-basin's record and its limits, and one step of it, stage by stage; document 02's slices, its rains, and snow.
pub mod Record
pub mod Lag
pub mod Content
pub mod Snow
pub mod Soil
pub mod FreeWater
pub mod Slices
pub mod Step
pub mod Yields
pub mod Workers
pub mod Cases
