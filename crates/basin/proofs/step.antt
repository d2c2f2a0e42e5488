pub mod StepLaws
pub mod TurnLaws
pub mod SubsLaws
pub mod CallLaws
pub mod JudgedLaws
