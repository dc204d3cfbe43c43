pub mod NameOrders
pub mod NumberedPaths
pub mod PathLaws
pub mod Tables
pub mod inner
