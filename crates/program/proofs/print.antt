-- The lines that the program prints: their text, from the parts that are put.
pub mod PrintLaws
