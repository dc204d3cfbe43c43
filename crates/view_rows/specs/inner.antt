-- What private contracts alone cite.
pub mod ForecastRows
pub mod Found
pub mod Gathered
pub mod Growing
pub mod Listings
pub mod NumberedForecasts
pub mod NumberedTexts
pub mod Shown
pub mod ShownForecasts
pub mod ShownPaths
pub mod ShownReports
