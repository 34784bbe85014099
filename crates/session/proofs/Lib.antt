pub mod Lines
pub mod Hearing
pub mod Digits
