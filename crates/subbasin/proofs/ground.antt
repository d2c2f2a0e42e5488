pub mod GroundLaws
