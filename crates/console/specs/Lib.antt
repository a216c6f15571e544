pub mod Laws
pub mod Names
pub mod Stations
