pub mod NearRelations
pub mod inner
