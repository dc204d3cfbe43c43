pub mod Printable
pub mod PrintableLaws
pub mod ReadingLaws
pub mod SurvivingLaws
pub mod VerifyingLaws
pub mod WhyLaws
