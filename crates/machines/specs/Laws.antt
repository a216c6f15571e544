pub mod Choices
pub mod Deadlines
pub mod Lists
pub mod Masks
