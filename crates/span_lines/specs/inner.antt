-- What private contracts alone cite.
pub mod FarCalls
pub mod FirstEntries
pub mod LabelTables
pub mod LentMappings
pub mod PlacedCalls
pub mod Printed
pub mod SeenMoments
