-- The lines of one step: the laws of the whole list, which other crates cite, and those of one line.
pub mod ReadLaws
mod LineLaws
