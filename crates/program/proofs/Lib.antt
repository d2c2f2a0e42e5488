-- Worked examples over the definitions. The laws stand with their module, in the folder of its name.
pub mod Cases
