-- chains of steps and sums
pub mod Accepted
pub mod Sums
pub mod NaturalSum
-- pairs of cells, unrounded
pub mod Corners
pub mod Fraction
pub mod Within
pub mod Converted
pub mod Part
pub mod Pair
-- rounded arithmetic: its laws, sums on the right side, errors of sums
pub mod Laws
pub mod FormatLaws
pub mod RoundedSum
pub mod Terms
pub mod Magnitude
pub mod Accumulate
pub mod Traces
pub mod NearSum
-- the conversion
pub mod Farther
pub mod Conversion
-- enclosure, method by method
pub mod Covers
pub mod RunningSums
pub mod Classical
pub mod Four
pub mod Seven
pub mod ThreeRadius
pub mod Three
pub mod FiveError
pub mod Five
-- the width of method 4
pub mod CellSize
pub mod PairSize
pub mod PairSums
pub mod EndsWidth
pub mod FourRadius
pub mod FourSteps
pub mod FourWidth
-- enclosure and width
pub mod Demand
pub mod Examples
