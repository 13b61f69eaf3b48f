-- Intervals as patterns: the fault of a pair of bounds, and the conversions with the reasons for a refusal. Definitions only.
use Rattle.std.specs.Prelude.{cond, ℕ}
use Rattle.rounding.specs.Format.{binary32}
use Rattle.rounding.specs.Rounding.{up}
use Rattle.enclosure.specs.Arithmetic.{of}
use Rattle.enclosure.specs.Conversion.{mid, rad}
use Rattle.enclosure.specs.Optimal.{Optimal}
use Rattle.refusals.specs.declared.reason.Reason.TheVariants.{NotFinite, Crossed}
use Rattle.refusals.specs.Answer.{Judged, gives, refuses, done, then, both}
use Rattle.binary32.specs.Number.{value_of, finites, pattern_of, hold_up}
use Rattle.binary32.specs.Operations.{midpoint, with₂, sub_down, add_up}
use Rattle.binary32.specs.Order.{at_most}

-- the fault of two bounds: a pattern has exponent field 255; else, the lower bound is above the upper; else none
unfoldable pub fault_of : ℕ → ℕ → Judged (Unit {0})
fault_of lo hi = cond (finites lo hi) (cond (at_most lo hi) done (refuses Crossed)) (refuses NotFinite)

-- the fault of a midpoint and a radius: a pattern has exponent field 255; else, the radius is negative; else none
unfoldable pub radius_fault_of : ℕ → ℕ → Judged (Unit {0})
radius_fault_of m r = cond (finites m r) (cond (at_most 0 r) done (refuses Crossed)) (refuses NotFinite)

-- ---- bounds [a, b] to midpoint and radius: m is (a + b) / 2 to nearest, r is the larger of m - a and b - m, rounded up

unfoldable pub mid_of : ℕ → ℕ → ℕ
mid_of lo hi = pattern_of (mid (of binary32) (value_of lo) (value_of hi))

unfoldable pub rad_of : ℕ → ℕ → ℕ
rad_of lo hi = pattern_of (rad (of binary32) (value_of lo) (value_of hi))

-- the midpoint rounded up, which tells on which side of the exact one the nearest lies; for the contract of an inner function
abbrev pub mid_up_of : ℕ → ℕ → ℕ
mid_up_of lo hi = hold_up (with₂ (midpoint up) lo hi)

unfoldable pub midrad_of : ℕ → ℕ → Judged (ℕ × ℕ)
midrad_of lo hi = then (fault_of lo hi) (gives (mid_of lo hi, rad_of lo hi))

-- the midpoint and the radius of an answer enclose [lo, hi], and no pair of binary32 numbers that does has a smaller radius
abbrev pub OptimalFor : ℕ → ℕ → Judged (ℕ × ℕ) → Type 0
OptimalFor lo hi (gives (m, r)) = Optimal binary32 (value_of lo) (value_of hi) (value_of m) (value_of r)
OptimalFor lo hi (refuses x) = Unit {0}

-- ---- midpoint and radius to bounds: m - r rounded down, m + r rounded up

-- two bounds moved outward by w: lo - w rounded down, hi + w rounded up
abbrev pub outward_of : ℕ → ℕ → ℕ → Judged (ℕ × ℕ)
outward_of lo hi w = both (sub_down lo w) (add_up hi w)

unfoldable pub bounds_of : ℕ → ℕ → Judged (ℕ × ℕ)
bounds_of m r = then (radius_fault_of m r) (outward_of m m r)
