pub mod HalfTicks
pub mod HalfTickScale
