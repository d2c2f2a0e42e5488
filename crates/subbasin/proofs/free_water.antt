pub mod FreeWaterLaws
