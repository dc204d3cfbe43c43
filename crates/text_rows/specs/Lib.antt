pub mod Fields
pub mod PartsFollow
pub mod Printing
pub mod Rows
pub mod TextSinks
pub mod TextsFollow
pub mod TextsOfParts
