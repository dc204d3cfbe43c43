pub mod FileReadings
