-- The lemmas of the session's lines.
pub mod Hexes
pub mod Numbers
pub mod Reading
