-- Document 01 as definitions: what the program prints.
pub mod Print
pub mod Ended
pub mod Workers
pub mod Cases
