pub mod Chosen
pub mod EdgeReads
pub mod Heads
pub mod Joints
pub mod Pairs
pub mod PartLaws
pub mod StepLaws
