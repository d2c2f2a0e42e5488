-- Text: a number in decimal, and text that is put after text.
pub mod TextLaws
