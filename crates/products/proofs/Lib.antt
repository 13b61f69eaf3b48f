-- sums that go on from pair to pair, the ranges that they hold, entries written by rows
pub mod Or
pub mod Carrying
pub mod Holding
pub mod Rows
pub mod EntryExt
-- the sums of method 1
pub mod Pairs
pub mod Zeros
pub mod ClassicalSums
pub mod PairStep
pub mod AddedPair
-- midpoints and radii, and what is worked out of them
pub mod Derivations
pub mod Raised
pub mod Converts
pub mod Chosen
pub mod MidRads
-- the sums of methods 3, 4 and 7
pub mod Radii
pub mod MidRadSteps
pub mod CentredSteps
pub mod Continuing
pub mod Ending
pub mod FourEntry
pub mod SevenEntry
pub mod Turns
pub mod NearestSteps
pub mod ThreeSteps
-- the sums of method 5
pub mod CentreSizes
pub mod ErrorBounds
pub mod FiveRange
pub mod FiveEntry
-- the entries and what a product leaves
pub mod WrittenExt
pub mod Accepted
pub mod Leaving
