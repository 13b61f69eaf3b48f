-- One entry of method 7: the sums over midpoints, the radius continued with the outer terms, all three then with the parts, and the entry that they end in.
use mathlib.Core.Path.{◌≡◌, refl, sym, ap, ◌∙◌, subst}
use mathlib.Core.Bool.{Bool, true, false}
use mathlib.Core.List.{List}
use mathlib.Core.Logic.{inl, inr}
use mathlib.Core.Option.{Option, none, some, bind, none-ne-some}
use Rattle.std.specs.Prelude.{Option as Maybe, Some, None}
use Rattle.products.specs.Entries.{Going}
use Prim.Native.Nat.{ℕ, ◌+◌, ◌*◌, ◌<◌}
use lib.IntN.{ℤ, neg_ℤ}
use lib.ListN.{get_or}
use Rattle.rounding.specs.Format.{binary32}
use Rattle.rounding.specs.Rounding.{up, down, negate}
use Rattle.enclosure.specs.Arithmetic.{of}
use Rattle.enclosure.specs.Sums.{sum}
use Rattle.enclosure.specs.Methods.{seven, part_term, shared_term, total, radius₄, radius₇, centre, centre₇, ends, entry}
use Rattle.enclosure.proofs.Sums.{sum_ext}
use Rattle.binary32.specs.Number.{value_of, Finite, finite, held}
use Rattle.binary32.specs.Operations.{Way}
use Rattle.binary32.proofs.Held.{finite_is, held_none}
use Rattle.unpacked.specs.declared.Number.{Number}
use Rattle.products.specs.declared.centred.Centred.{Centred}
use Rattle.products.specs.declared.sums.Sums.{Sums}
use Rattle.unpacked.specs.Number.{worth, Runs}
use Rattle.products.specs.Running.{Ended, HoldsRange}
use Rattle.products.specs.Centred.{OneNone}
use Rattle.products.specs.Continued.{centre_by, shrunk_by, PartsSum, PartsNone}
use Rattle.products.specs.Derived.{part_of}
use Rattle.products.proofs.Carrying.{bind_some, bind_none, mirrored_is, negate²}
use Rattle.products.proofs.MidRadSteps.{part_is, shared_is}
use Rattle.products.proofs.Ending.{ends_none, ends_hold, position_entry_from}
use Rattle.products.specs.Spot.{Spot, a_mid, a_rad, b_mid, b_rad, left, right, middles, inners, MiddleSum, MiddleNone, MiddleAfter}
use Rattle.products.proofs.FourEntry.{entry_by, line, outers}

module _ (p : Spot) where
  -- a and b hold the parts of pair l
  pub record Made (l a b : ℕ) : Type 0 where
    pub first : held a ≡ part_of (value_of (a_mid p l)) (value_of (a_rad p l))
    pub second : held b ≡ part_of (value_of (b_mid p l)) (value_of (b_rad p l))

  -- ---- the sums continued with the parts
  unfoldable pub parts : Way → ℤ → ℕ → Option ℤ
  parts way v l = sum (way binary32 1) (λ l. part_term (of binary32) (way binary32) (left p l) (right p l)) v l

  unfoldable pub shareds : ℤ → ℕ → Option ℤ
  shareds v l = sum (up binary32 1) (λ l. shared_term (of binary32) (left p l) (right p l)) v l

  -- ---- the entry, at position c by rows
  abbrev centred : Way → Option ℤ
  centred way = bind (middles p way p.k) λ v. parts way v p.k

  abbrev outer : Option ℤ
  outer = bind (inners p p.k) λ v. outers p v p.k

  abbrev radius : Option ℤ
  radius = bind outer λ v. shareds v p.k

  module _ (s : Centred) (S : MiddleSum p p.k s) where
    low_is : centred down ≡ parts down (worth s.lower) p.k
    unfolding MiddleSum
    low_is = bind_some _ (λ v. parts down v p.k) _ S.0.lower.is

    high_is : centred up ≡ parts up (neg_ℤ (worth s.opposed)) p.k
    unfolding MiddleSum
    high_is = bind_some _ (λ v. parts up v p.k) _ (mirrored_is (middles p up p.k) s.opposed S.0.upper)

    outer_is' : outer ≡ outers p (neg_ℤ (worth s.radius)) p.k
    unfolding MiddleSum
    outer_is' = bind_some _ (λ v. outers p v p.k) _ (mirrored_is (inners p p.k) s.radius S.0.radius)

    radius_is : (y : Number) → Runs (negate (outers p (neg_ℤ (worth s.radius)) p.k)) y → radius ≡ shareds (neg_ℤ (worth y)) p.k
    radius_is y R = bind_some outer (λ v. shareds v p.k) _ (outer_is' ∙ mirrored_is (outers p (neg_ℤ (worth s.radius)) p.k) y R)

  module _ (c : ℕ) (at : c ≡ p.i * p.n + p.j) (in_row : p.j < p.n) where
    is : entry_by p seven c ≡ ends (of binary32) radius (centred down) (centred up)
    unfolding entry radius₄ radius₇ centre centre₇ total middles inners outers parts shareds
    is = position_entry_from seven p.k p.n p.i p.j c at in_row p.ma p.ra p.mb p.rb

    pub seven_middle : MiddleNone p → entry_by p seven c ≡ none
    unfolding MiddleNone
    seven_middle o = is ∙ ends_none radius (centred down) (centred up) (go o)
      where
        go : OneNone (middles p down p.k) (middles p up p.k) (inners p p.k) → OneNone (centred down) (centred up) radius
        go (inl e) = inl (bind_none _ (λ v. parts down v p.k) e)
        go (inr (inl e)) = inr (inl (bind_none _ (λ v. parts up v p.k) e))
        go (inr (inr e)) = inr (inr (bind_none outer (λ v. shareds v p.k) (bind_none _ (λ v. outers p v p.k) e)))

    -- the sums after a pair more, or no entry
    pub seven_goes : (l : ℕ) (r : Maybe Centred) → MiddleAfter p l r → Going (MiddleSum p (l + 1)) (entry_by p seven c) r
    seven_goes l None o = seven_middle o
    seven_goes l (Some t) S = S

    pub seven_outer : (s : Centred) → MiddleSum p p.k s → outers p (neg_ℤ (worth s.radius)) p.k ≡ none → entry_by p seven c ≡ none
    seven_outer s S e = is ∙ ends_none radius (centred down) (centred up) (inr (inr (bind_none outer (λ v. shareds v p.k) (outer_is' s S ∙ e))))

    -- pa and pb hold the parts of the cells
    module _ (pa pb : List ℕ) (made : (l : ℕ) → l < p.k → Made l (get_or pa (p.i * p.k + l) 0) (get_or pb (l * p.n + p.j) 0)) where
      parts_are : (way : Way) (v : ℤ) → parts way v p.k ≡ centre_by (line p pa pb) way v p.k
      unfolding parts centre_by
      parts_are way v = sum_ext (way binary32 1) _ _ v p.k (λ l m. part_is (a_mid p l) (a_rad p l) (b_mid p l) (b_rad p l) way _ _ (made l m).first (made l m).second)

      shareds_are : (v : ℤ) → shareds v p.k ≡ shrunk_by (line p pa pb) v p.k
      unfolding shareds shrunk_by
      shareds_are v =
          sum_ext (up binary32 1) _ _ v p.k
          (λ l m. sym (ap negate (shared_is (a_mid p l) (a_rad p l) (b_mid p l) (b_rad p l) _ _ (made l m).first (made l m).second) ∙ negate² _))

      module _ (s : Centred) (y : Number) (S : MiddleSum p p.k s) (R : Runs (negate (outers p (neg_ℤ (worth s.radius)) p.k)) y) where
        abbrev from : Centred
        from = record { lower = s.lower; opposed = s.opposed; radius = y; lower_number = s.lower_number; opposed_number = s.opposed_number; radius_number = R.number }

        pub seven_parts : PartsNone (line p pa pb) from p.k → entry_by p seven c ≡ none
        seven_parts o = is ∙ ends_none radius (centred down) (centred up) (go o)
          where
            go : PartsNone (line p pa pb) from p.k → OneNone (centred down) (centred up) radius
            go (inl e) = inl (low_is s S ∙ parts_are down _ ∙ e)
            go (inr (inl e)) = inr (inl (high_is s S ∙ parts_are up _ ∙ e))
            go (inr (inr e)) = inr (inr (radius_is s S y R ∙ shareds_are _ ∙ e))

        pub seven_holds : (t : Centred) (e : Maybe Sums) → PartsSum (line p pa pb) from p.k t → Ended t.lower t.opposed t.radius e → HoldsRange (entry_by p seven c) e
        seven_holds t e Q E =
            subst (λ m. HoldsRange m e) (sym is)
            (ends_hold radius (centred down) (centred up) t.lower t.opposed t.radius e
            (subst (λ m. Runs m t.lower) (sym (low_is s S ∙ parts_are down _)) Q.lower)
            (subst (λ m. Runs (negate m) t.opposed) (sym (high_is s S ∙ parts_are up _)) Q.upper)
            (subst (λ m. Runs (negate m) t.radius) (sym (radius_is s S y R ∙ shareds_are _)) Q.radius)
            E)

-- a pattern that holds a part is a number
pub held_number : (p : ℕ) (v : ℤ) → held p ≡ some v → Finite p
held_number p v h = finite_is p (go (finite p) refl)
  where
    go : (t : Bool) → finite p ≡ t → finite p ≡ true
    go true e = e
    go false e = absurd (none-ne-some v (sym (held_none p e) ∙ h))
