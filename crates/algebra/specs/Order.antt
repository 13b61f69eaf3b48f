-- The order of the integers. Definitions only.
-- `≼` and `≺` are the library's `≤ℤ` and `<ℤ`, which bind tighter than `+ℤ`. These bind as loosely as `≡`, so that sums need no brackets.
use Rattle.std.specs.Prelude.{ℤ, ◌≤ℤ◌, ◌<ℤ◌}

infix 4 ◌≼◌ ◌≺◌
abbrev pub ◌≼◌ : ℤ → ℤ → Type 0
a ≼ b = a ≤ℤ b

abbrev pub ◌≺◌ : ℤ → ℤ → Type 0
a ≺ b = a <ℤ b
