pub mod Keeps
pub mod Todo
pub mod Standing
pub mod Asking
