pub mod Answer
pub mod Count
pub mod Range
pub mod Coded
pub mod Counting
pub mod Flat
