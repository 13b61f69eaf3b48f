-- magnitudes N / D: the grid of numbers, the brackets lo and hi, the nearest nr
pub mod Compare
pub mod Grid
pub mod Spacing
pub mod Bracket
pub mod Closest
pub mod Ties
pub mod Refusal
-- signed values X / D: up and down, nearest, how far off they are
pub mod Sign
pub mod Directed
pub mod DirectedLaws
pub mod Nearest
pub mod NearestLaws
pub mod Error
pub mod SpacingTimes
-- bit patterns, and what a machine computes
pub mod Pattern
pub mod Encoding
pub mod PatternRounding
pub mod Shift
pub mod Jam
pub mod Floor
pub mod Examples
