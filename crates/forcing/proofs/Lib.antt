-- Worked examples over the definitions, what they compute by, and from bits to numbers. The other laws stand with their module, in the folder of
-- its name.
mod BitsLaws
pub mod Cases
pub mod OnWords
