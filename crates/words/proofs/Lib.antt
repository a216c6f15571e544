pub mod Edges
pub mod Members
pub mod Prefixes
pub mod Ranges
pub mod Runs
pub mod Splits
pub mod Values
pub mod Wide
