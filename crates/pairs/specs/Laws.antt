pub mod Atoms
pub mod Origins
pub mod Products
pub mod Unions
