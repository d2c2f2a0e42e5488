pub mod WeekLaws
