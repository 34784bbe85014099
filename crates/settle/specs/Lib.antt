pub mod Both
pub mod Seen
pub mod Test
pub mod Budget
pub mod Settle
pub mod Laws
