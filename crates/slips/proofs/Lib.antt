-- The lemmas of slips.
pub mod Filling
pub mod Granting
pub mod Passing
pub mod Crosses
