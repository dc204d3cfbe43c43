pub mod Graces
pub mod GraceLaws
pub mod Near
pub mod inner
