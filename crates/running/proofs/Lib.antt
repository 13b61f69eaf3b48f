-- what is taken
pub mod Widening
pub mod Entries
-- the value stands for it, after any calls
pub mod Standing
pub mod Histories
pub mod Calls
-- the entry of a product, and worked calls
pub mod Products
pub mod Examples
