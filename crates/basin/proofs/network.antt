pub mod NetworkLaws
pub mod CapLaws
pub mod RouteLaws
