pub mod Faults
pub mod Letters
pub mod Lines
pub mod Numbers
pub mod Sources
pub mod Spelling
