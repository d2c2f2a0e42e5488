-- Document 02, No. 9, as definitions: the calls, and what they come to over whole lists of arrivals.
pub mod Window
pub mod Arrivals
pub mod Workers
