-- The end of an entry of methods 3, 4, 5 and 7: centre less radius, centre and radius. It is none where one of them or of its two ends is none,
-- and has both ends otherwise. And which entry stands at a place, and what is read for it.
use mathlib.Core.Path.{◌≡◌, refl, sym, ap, ap₂, ◌∙◌, subst}
use mathlib.Core.List.{List, [], ◌∷◌}
use mathlib.Core.Logic.{inl, inr}
use Rattle.std.specs.Prelude.{Option as Maybe}
use mathlib.Core.Option.{Option, none, some, bind, none-ne-some}
use Prim.Native.Nat.{ℕ, ◌+◌, ◌*◌, ◌≤◌, ◌<◌}
use native.Mathlib.Omega.{arith}
use lib.IntN.{ℤ, neg_ℤ, ◌+ℤ◌, ◌-ℤ◌}
use lib.ListN.{length, get_or}
use Rattle.algebra.proofs.Linear.{reading, lin_eq}
use Rattle.rounding.specs.Format.{binary32}
use Rattle.rounding.specs.Rounding.{up, down, negate}
use Rattle.enclosure.specs.Arithmetic.{of}
use Rattle.enclosure.specs.Methods.{Method, ends, entry}
use Rattle.enclosure.proofs.RunningSums.{both}
use Rattle.unpacked.specs.declared.Number.{Number}
use Rattle.products.specs.declared.sums.Sums.{Sums}
use Rattle.unpacked.specs.Number.{worth, Runs}
use Rattle.products.specs.Running.{Ended, HoldsRange}
use Rattle.products.specs.Centred.{OneNone}
use Rattle.products.specs.MidRad.{Sized, mid_rad_at, entry_from}
use Rattle.products.specs.Derived.{MidRad}
use Rattle.refusals.proofs.SizeLaws.{small}
use Rattle.matrices.proofs.Places.{below, position_row, position_column}
use Rattle.products.proofs.Carrying.{mirrored_is}
use Rattle.products.proofs.Holding.{holds_both}

-- ---- where a centre or the radius is none
pub ends_none : (R L H : Option ℤ) → OneNone L H R → ends (of binary32) R L H ≡ none
unfolding ends bind
ends_none none L H o = refl
ends_none (some r) none H o = refl
ends_none (some r) (some s) none o = refl
ends_none (some r) (some s) (some t) (inl e) = absurd (none-ne-some s (sym e))
ends_none (some r) (some s) (some t) (inr (inl e)) = absurd (none-ne-some t (sym e))
ends_none (some r) (some s) (some t) (inr (inr e)) = absurd (none-ne-some r (sym e))

-- ---- where all three are numbers, kept as l, o and r, the upper centre and the radius with the other sign
sub_neg : (x y : ℤ) → x -ℤ neg_ℤ y ≡ x +ℤ y
sub_neg x y = lin_eq (x ∷ y ∷ []) [] (search reading depth 20) (omega arith)

neg_add : (x y : ℤ) → neg_ℤ x +ℤ neg_ℤ y ≡ neg_ℤ (x +ℤ y)
neg_add x y = lin_eq (x ∷ y ∷ []) [] (search reading depth 20) (omega arith)

module _ (R L H : Option ℤ) (l o r : Number) (e : Maybe Sums) (a : Runs L l) (b : Runs (negate H) o) (c : Runs (negate R) r) (E : Ended l o r e) where
  abbrev low : Option ℤ
  low = down binary32 1 (worth l +ℤ worth r)

  abbrev high : Option ℤ
  high = up binary32 1 (neg_ℤ (worth o +ℤ worth r))

  are : ends (of binary32) R L H ≡ both low high
  unfolding ends bind
  are =
      ap₂ (λ t s. ends (of binary32) t s H) (mirrored_is R r c) a.is ∙ ap (λ t. ends (of binary32) (some (neg_ℤ (worth r))) (some (worth l)) t) (mirrored_is H o b)
      ∙ ap₂ both (ap (down binary32 1) (sub_neg (worth l) (worth r))) (ap (up binary32 1) (neg_add (worth o) (worth r)))

  pub ends_hold : HoldsRange (ends (of binary32) R L H) e
  unfolding down
  ends_hold = subst (λ m. HoldsRange m e) (sym are) (holds_both low high e E)

-- ---- the entry at the place of row i and column j, c by rows
module _ (method : Method) (k n i j c : ℕ) (e : c ≡ i * n + j) (h : j < n) where
  pub position_entry_from : (ma ra mb rb : List ℕ) → entry_from method k n ma ra mb rb c ≡ entry (of binary32) method k (λ l. mid_rad_at ma ra (i * k + l)) (λ l. mid_rad_at mb rb (l * n + j))
  unfolding entry_from
  position_entry_from ma ra mb rb = ap₂ (λ r t. entry (of binary32) method k (λ l. mid_rad_at ma ra (r * k + l)) (λ l. mid_rad_at mb rb (l * n + t))) (position_row i j n c e h) (position_column i j n c e h)

-- ---- what is read in row i and column j at pair l: places within the lists, below 1024, and midpoints and radii there
pub record Places (k n i j l : ℕ) (ma ra mb rb : List ℕ) (size : ℕ) : Type 0 where
  pub first : i * k + l < size
  pub small_first : i * k + l < 1024
  pub mid_first : i * k + l < length ma
  pub second : l * n + j < k * n
  pub small_second : l * n + j < 1024
  pub mid_second : l * n + j < length mb
  pub rad_second : l * n + j < length rb
  pub cell_first : MidRad (get_or ma (i * k + l) 0) (get_or ra (i * k + l) 0)
  pub cell_second : MidRad (get_or mb (l * n + j) 0) (get_or rb (l * n + j) 0)

pub places : (m k n i j l : ℕ) (ma ra mb rb : List ℕ) (lo up : ℕ) → Sized m k n ma ra mb rb lo up → i < m → j < n → l < k → Places k n i j l ma ra mb rb (m * k)
places m k n i j l ma ra mb rb lo up S p q r =
    let a : i * k + l < m * k = below i m l k p r in
    let b : l * n + j < k * n = below l k j n r q in
    let c : m * k ≤ 1024 = small m k S.rows S.inner in
    let d : k * n ≤ 1024 = small k n S.inner S.columns in
    let e = S.a.mids in
    let g = S.b.mids in
    let h = S.b.rads in
    record {
      first = a;
      small_first = omega arith;
      mid_first = omega arith;
      second = b;
      small_second = omega arith;
      mid_second = omega arith;
      rad_second = omega arith;
      cell_first = S.a.each (i * k + l) a;
      cell_second = S.b.each (l * n + j) b;
    }
