-- Documents 01 and 02 as definitions: the capacity curve, the store law and how far it strays, and the table of proved cases.
pub mod Capacity
pub mod Store
pub mod Stray
pub mod Workers
pub mod Cases
