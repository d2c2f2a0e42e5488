pub mod StageLaws
pub mod FastLaws
pub mod OnGroundLaws
pub mod StepLaws
pub mod CallLaws
pub mod RouteLaws
