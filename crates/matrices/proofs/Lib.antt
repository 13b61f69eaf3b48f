-- lists
pub mod Fronts
pub mod Firsts
pub mod Stores
-- places, and the entries at them
pub mod Places
pub mod Fitting
pub mod EntryNumbers
-- the checks
pub mod CheckLaws
pub mod CheckTells
pub mod MethodLaws
-- enclosure and width, and the worked examples
pub mod Keeping
pub mod Examples
