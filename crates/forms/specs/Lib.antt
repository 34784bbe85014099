-- The specs of the session's lines.
pub mod Text
pub mod Read
pub mod Replies
