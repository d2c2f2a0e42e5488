pub mod FileLaws
pub mod LoadedLaws
