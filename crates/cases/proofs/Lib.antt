pub mod Numbers
pub mod Sums
pub mod Settling
pub mod Plans
