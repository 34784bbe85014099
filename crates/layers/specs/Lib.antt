pub mod Quota
pub mod Staged
pub mod Tray
