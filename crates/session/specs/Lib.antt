pub mod Logbook
pub mod Book
pub mod Agree
pub mod Fed
pub mod Room
