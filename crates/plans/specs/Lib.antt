-- The specs of plans.
pub mod Plan
pub mod Goals
pub mod Halving
