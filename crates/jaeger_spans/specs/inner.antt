-- What private contracts alone cite.
pub mod LinksViews
pub mod ParentViews
