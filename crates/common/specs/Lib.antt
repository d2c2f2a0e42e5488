-- The words that document 01's other sections are written in: shares, limits, lists and loops, and the bytes of a file.
pub mod Shares
pub mod Weather
pub mod Limits
pub mod Amounts
pub mod Loops
pub mod Bytes
pub mod Cases
pub mod Refusals
