pub mod Powers
pub mod Folded
pub mod Wide
pub mod Ends
pub mod Tested
pub mod Settling
