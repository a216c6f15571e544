pub mod Format
pub mod Model
pub mod Numbers
pub mod Laws
