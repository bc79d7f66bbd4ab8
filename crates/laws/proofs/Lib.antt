pub mod Tests
pub mod Lists
pub mod EachStage
