pub mod YieldsLaws
