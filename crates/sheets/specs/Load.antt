-- A mill's own wear amounts, which take the place of the fixed table for one read. Definitions only.
use Rattle.std.specs.Prelude.{Bool, false, cond, List, [], ◌∷◌, ℕ, ◌+◌, eqb, length}
use Rattle.refusals.specs.declared.reason.Reason.TheVariants.{NotFinite, WrongLayout, WrongLoad}
use Rattle.refusals.specs.Answer.{Judged, gives, unless, then}
use Rattle.binary32.specs.Number.{finite}
use Rattle.binary32.specs.Order.{magnitude_of, at_most}
use Rattle.sheets.specs.AllFrom.{all_from}
use Rattle.sheets.specs.Layout.{u32_at}
use Rattle.sheets.specs.Wear.{amount_in}

-- the eight patterns of a load, little-endian
unfoldable pub patterns_of : List ℕ → List ℕ
patterns_of d = u32_at d 0 ∷ u32_at d 4 ∷ u32_at d 8 ∷ u32_at d 12 ∷ u32_at d 16 ∷ u32_at d 20 ∷ u32_at d 24 ∷ u32_at d 28 ∷ []

-- whether each of the eight amounts is a number: none has exponent field 255
unfoldable pub all_finite : List ℕ → Bool
all_finite amounts = all_from (λ c. finite (amount_in amounts c)) 0 8

-- whether none of them is below its forerunner; by value, so minus zero is not below zero
unfoldable pub rising : List ℕ → Bool
rising amounts = all_from (λ c. at_most (amount_in amounts c) (amount_in amounts (c + 1))) 0 7

-- whether the first amount is zero, of either sign, and none is below its forerunner
unfoldable pub ascending : List ℕ → Bool
ascending amounts = cond (eqb (magnitude_of (amount_in amounts 0)) 0) (rising amounts) false

-- the fault of eight amounts: an exponent field is 255; else, the first is not zero or one is below its forerunner; else none
unfoldable pub amounts_fault : List ℕ → Judged (Unit {0})
amounts_fault amounts = then (unless (all_finite amounts) NotFinite) (unless (ascending amounts) WrongLoad)

-- the fault of a load: it has not 32 bytes; else that of its amounts
unfoldable pub load_fault : List ℕ → Judged (Unit {0})
load_fault d = then (unless (eqb (length d) 32) WrongLayout) (amounts_fault (patterns_of d))

-- the eight amounts of a load, or its fault
unfoldable pub load_of : List ℕ → Judged (List ℕ)
load_of d = then (load_fault d) (gives (patterns_of d))
