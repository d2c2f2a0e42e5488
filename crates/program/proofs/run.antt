-- The steps of the forcing file: the calls that bytes hold, a block of them taken, a run block by block, and all that it prints.
mod CallsLaws
mod TakeLaws
mod RunLaws
pub mod PrintedLaws
