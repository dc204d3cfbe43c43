pub mod DigestRows
pub mod Headers
pub mod Readings
