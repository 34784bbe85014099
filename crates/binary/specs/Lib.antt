pub mod Layout
pub mod Canonical
pub mod Sums
