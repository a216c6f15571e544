pub mod Crowds
pub mod Follows
pub mod PairWords
pub mod Replays
pub mod Sets
pub mod Theorems
pub mod Words
