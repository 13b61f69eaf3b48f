-- What a direction of rounding must keep, so that sums and products of unpacked numbers can be rounded in it by dropping bits. Definitions only.
use Rattle.std.specs.Prelude.{ℕ, ◌-◌, ◌^◌, ◌≤◌, ◌<◌, min, ℤ, nat_abs, ◌+ℤ◌}
use Rattle.std.proofs.Math.Option.{Option, some, bind}
use Rattle.rounding.specs.Format.{binary32}
use Rattle.binary32.specs.Operations.{Way}
use Rattle.unpacked.specs.declared.Number.{Number}
use Rattle.unpacked.specs.declared.Aligned.{Aligned}
use Rattle.unpacked.specs.declared.Product.{Product}
use Rattle.unpacked.specs.Number.{worth, Normal, IsNumber, Below, Holds}
use Rattle.unpacked.specs.Cuts.{Summands, AlignedIs, Cut, CutFilled}
use Rattle.unpacked.specs.Exact.{Exact, Formed, Short}

-- `part` is t / m rounded to an integer, `limited` what the largest number leaves of a value of 24 bits, `Sum` a sum of 24 bits before that
pub record ShortLaws (way : Way) (part : ℤ → ℕ → ℤ) (limited : ℤ → Option ℤ) (Sum : ℤ → Number → Type 0) : Type 0 where
  -- two summands, aligned and cut to 24 bits; and where neither is above zero
  pub cuts : {x y : Number} → Summands x y → (a : Aligned) → AlignedIs x y a → (r : Number) → Cut part a.w a.exp r → Sum (worth x +ℤ worth y) r
  pub fills : {x y : Number} → Summands x y → (a : Aligned) → AlignedIs x y a → Below x → Below y → (r : Number) → CutFilled part a.w a.exp r
      → Sum (worth x +ℤ worth y) r
  -- such a sum is in normal form, and limited it is the sum rounded once, or none
  pub normal : (X : ℤ) (r : Number) → Sum X r → Normal r × (r.exp ≤ 4002)
  pub sums : (s y q r : Number) → IsNumber s → Sum (worth s +ℤ worth y) q → Holds (limited (worth q)) r → (t : Option ℤ) → Holds t y
      → Holds (bind t λ v. way binary32 1 (worth s +ℤ v)) r
  -- a product below 2 ^ 24 units: the whole units that are left of it
  pub few : (p : Product) → nat_abs p.sig ≤ 2 ^ 48 → p.exp < 926 → nat_abs (part p.sig (2 ^ min (950 - p.exp) 61)) ≤ 2 ^ 24
  pub units : (p : Product) → nat_abs p.sig ≤ 2 ^ 48 → p.exp < 926 → (X : ℤ) → Exact X p → (r : Number)
      → Holds (some (part p.sig (2 ^ min (950 - p.exp) 61))) r → Holds (way binary32 (2 ^ 149) X) r
  -- the first 24 bits of any other: in normal form, a number where the exponent is usual, and limited where it is not
  pub whole : {p : Product} {r : Number} → Formed p → 926 ≤ p.exp → p.exp ≤ 1307 → Short part p r → Normal r
  pub usual : {p : Product} {r : Number} → Formed p → 926 ≤ p.exp → p.exp ≤ 1307 → Short part p r → {X : ℤ} → Exact X p → p.exp < 1179
      → Holds (way binary32 (2 ^ 149) X) r
  pub large : {p : Product} {r : Number} → Formed p → 926 ≤ p.exp → p.exp ≤ 1307 → Short part p r → {X : ℤ} → Exact X p → {q : Number}
      → Holds (limited (worth r)) q → Holds (way binary32 (2 ^ 149) X) q
