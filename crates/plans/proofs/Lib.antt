-- The lemmas of plans.
pub mod Texts
pub mod Bytes
pub mod Readings
pub mod Parts
pub mod Whole
pub mod Halves
pub mod Filling
