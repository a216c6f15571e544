pub mod Decodes
mod Numerals
pub mod Places
mod Spellings
mod Steps
pub mod Words
