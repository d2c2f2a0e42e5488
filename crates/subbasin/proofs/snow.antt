pub mod SnowLaws
