pub mod Lists
pub mod Matrix
pub mod Checks
pub mod Methods
pub mod Entries
pub mod Product
pub mod Demand
