-- the machine's words, and a pattern taken apart
pub mod Ints
pub mod Values
-- rounding: a shifted magnitude, with its sign, from the signed shift and what it loses
pub mod Encodings
pub mod Shifted
pub mod Signs
pub mod Rests
pub mod LongShifts
pub mod Cutting
-- exact values: products, sums, sums of numbers far apart
pub mod Products
pub mod Far
pub mod Sums
-- what a pattern holds, and the answer of an operation; for other crates: Held, Numbers, Negation
pub mod Held
pub mod Numbers
pub mod Negation
pub mod Exacts
-- order
pub mod Orders
pub mod Examples
