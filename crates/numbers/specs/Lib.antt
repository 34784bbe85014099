pub mod Format
pub mod Outcome
pub mod Nearest
pub mod Coding
pub mod Binary
pub mod Lawful
pub mod Theorems
