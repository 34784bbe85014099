pub mod Both
pub mod Meant
pub mod Blade
pub mod Logbook
pub mod Agree
pub mod Leaves
pub mod Theorem
