-- The table of proved cases. The laws of a module stand in its folder.
pub mod Cases
