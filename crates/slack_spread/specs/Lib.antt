pub mod Spreads
