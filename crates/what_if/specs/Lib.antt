pub mod Forecasts
pub mod ForecastLaws
