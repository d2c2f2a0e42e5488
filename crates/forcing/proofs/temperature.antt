-- One temperature: the laws of its rounding, its range and its refusal, and those behind the code's shifts and masks.
pub mod TemperatureLaws
mod ValueLaws
