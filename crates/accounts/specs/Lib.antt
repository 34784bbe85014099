pub mod Meaning
pub mod Reach
pub mod Exact
pub mod Entries
pub mod Fleet
