pub mod Rounds
pub mod Nearby
pub mod Signs
pub mod Steps
pub mod Fields
pub mod Joins
pub mod Added
