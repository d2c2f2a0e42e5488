-- One number: the laws of its depth and its refusal, and those behind the code's shifts and masks.
pub mod DepthLaws
mod FractionLaws
pub mod NumberLaws
mod ValueLaws
