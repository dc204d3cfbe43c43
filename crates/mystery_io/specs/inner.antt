pub mod Feeding
pub mod FileCauses
pub mod OpenFiles
