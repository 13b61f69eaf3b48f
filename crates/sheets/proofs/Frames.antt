-- Laws of 6 on length and head: `framed` by its tests, and what passing them tells. Assumes nothing.
use mathlib.Core.Path.{◌≡◌, refl}
use mathlib.Core.Bool.{Bool, true, false, cond}
use mathlib.Core.List.{List}
use Prim.Native.Nat.{ℕ, ◌*◌, ◌%◌, ◌≤◌, ◌<◌}
use lib.Dec.{eqb, leb}
use lib.ListN.{length, get_or}
use borrow.Author.Tests.{eqb-true, leb-true, lt-leb}
use Rattle.refusals.proofs.Answers.{and_tells}
use Rattle.sheets.specs.Kind.{byte_of, kind_of}
use Rattle.sheets.specs.Layout.{u16_at, blank, whole, framed, count_of}

module _ (s : List ℕ) where
  pub framed_by : (t u v w x b : Bool) (n : ℕ) → eqb (length s % 16) 0 ≡ t → leb 16 (length s) ≡ u → leb (length s) 16400 ≡ v → n ≡ u16_at s 4
      → eqb (16 * n) (length s) ≡ w → eqb (get_or s 6 0) (byte_of (kind_of s)) ≡ x → b ≡ blank s 7 9
      → cond (cond t (cond u (cond v w false) false) false) (cond x b false) false ≡ framed s
  unfolding whole framed
  framed_by t u v w x b n e f g h i j l = rw (e, f, g, ← h, i, j, ← l)

  whole_tells : whole s ≡ true → (16 ≤ length s) × (16 * count_of s ≡ length s)
  unfolding whole
  whole_tells e =
      let a = and_tells (eqb (length s % 16) 0) _ e in
      let b = and_tells (leb 16 (length s)) _ a.1 in
      let c = and_tells (leb (length s) 16400) _ b.1 in
      (leb-true _ _ b.0, eqb-true _ _ c.1)

  pub framed_tells : framed s ≡ true → (16 ≤ length s) × (16 * count_of s ≡ length s)
  unfolding framed
  framed_tells e = whole_tells (and_tells (whole s) _ e).0

  -- a sheet of more than 16,400 bytes
  pub unframed_long : 16400 < length s → framed s ≡ false
  unfolding whole framed
  unframed_long h = rw (lt-leb (length s) 16400 h) (go (eqb (length s % 16) 0) (leb 16 (length s)))
    where
      go : (a b : Bool) → cond (cond a (cond b false false) false) (cond (eqb (get_or s 6 0) (byte_of (kind_of s))) (blank s 7 9) false) false ≡ false
      go true true = refl
      go true false = refl
      go false b = refl
