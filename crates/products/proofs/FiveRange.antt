-- The bounds of an entry of method 5, from what its steps return: the sums over midpoints, over parts, the radius, and the two bounds.
use mathlib.Core.Path.{◌≡◌, sym, ap, ◌∙◌, subst}
use mathlib.Core.Bool.{true, false}
use mathlib.Core.Logic.{◌⊎◌, inl, inr}
use Rattle.std.specs.Prelude.{Option as Maybe}
use mathlib.Core.Option.{Option, none, bind}
use lib.IntN.{ℤ, pos, neg_ℤ}
use lib.Dec.{ltb}
use Rattle.rounding.specs.Rounding.{negate}
use Rattle.unpacked.specs.declared.Number.{Number}
use Rattle.unpacked.specs.Number.{worth, Holds, Runs, Opposite}
use Rattle.products.specs.declared.sums.Sums.{Sums}
use Rattle.products.specs.declared.centre_size.CentreSize.{CentreSize}
use Rattle.products.specs.Continued.{Line}
use Rattle.products.specs.CentreSize.{Pairs, centre_from, size_from, SizedSum, SizedNone, radius_for, centre_over, size_over, range_of}
use Rattle.products.specs.Running.{Ended, HoldsRange}
use Rattle.products.proofs.Carrying.{bind_some, bind_none, holds_runs, holds_none, negate_none, mirrored_is}
use Rattle.products.proofs.Ending.{ends_none, ends_hold}
use Rattle.products.proofs.NearestSteps.{opposite_runs}

-- p are the pairs of midpoints, q those of parts, and w those of |m| + r; the sums start from zero
module _ (p q : Pairs) (w : Line) (z : CentreSize) (zc : worth z.centre ≡ pos 0) (zs : worth z.size ≡ pos 0) where
  abbrev radius : Option ℤ
  radius = bind (size_over p q) λ g. radius_for w g

  centre_first : centre_from p (worth z.centre) p.k ≡ centre_from p (pos 0) p.k
  centre_first = ap (λ v. centre_from p v p.k) zc

  size_first : size_from p (neg_ℤ (worth z.size)) p.k ≡ size_from p (pos 0) p.k
  size_first = ap (λ v. size_from p (neg_ℤ v) p.k) zs

  -- where one of C and G is none
  one_none : (centre_over p q ≡ none) ⊎ (size_over p q ≡ none) → range_of p q w ≡ none
  unfolding range_of
  one_none (inl e) = ends_none radius (centre_over p q) (centre_over p q) (inl e)
  one_none (inr e) = ends_none radius (centre_over p q) (centre_over p q) (inr (inr (bind_none (size_over p q) (λ g. radius_for w g) e)))

  pub first_none : SizedNone p z p.k → range_of p q w ≡ none
  first_none (inl e) = one_none (inl (bind_none _ (λ v. centre_from q v q.k) (sym centre_first ∙ e)))
  first_none (inr e) = one_none (inr (bind_none _ (λ v. size_from q v q.k) (sym size_first ∙ e)))

  module _ (s : CentreSize) (S : SizedSum p z p.k s) where
    centre_is : centre_over p q ≡ centre_from q (worth s.centre) q.k
    centre_is = bind_some _ (λ v. centre_from q v q.k) _ (sym centre_first ∙ S.centre.is)

    size_is : size_over p q ≡ size_from q (neg_ℤ (worth s.size)) q.k
    size_is = bind_some _ (λ v. size_from q v q.k) _ (sym size_first ∙ mirrored_is _ s.size S.size)

    pub second_none : SizedNone q s q.k → range_of p q w ≡ none
    second_none (inl e) = one_none (inl (centre_is ∙ e))
    second_none (inr e) = one_none (inr (size_is ∙ e))

    module _ (t : CentreSize) (T : SizedSum q s q.k t) where
      radius_is : radius ≡ radius_for w (neg_ℤ (worth t.size))
      radius_is = bind_some (size_over p q) (λ g. radius_for w g) _ (size_is ∙ mirrored_is _ t.size T.size)

      module _ (r : Number) (R : Holds (negate (radius_for w (neg_ℤ (worth t.size)))) r) where
        pub radius_none : ltb 653 r.exp ≡ true → range_of p q w ≡ none
        unfolding range_of
        radius_none e = ends_none radius (centre_over p q) (centre_over p q) (inr (inr (radius_is ∙ negate_none _ (holds_none _ r R e))))

        pub radius_runs : ltb 653 r.exp ≡ false → Runs (negate radius) r
        radius_runs e = subst (λ m. Runs (negate m) r) (sym radius_is) (holds_runs _ r R e)

        pub range_holds : (o : Number) (e : Maybe Sums) → ltb 653 r.exp ≡ false → Opposite t.centre o → Ended t.centre o r e → HoldsRange (range_of p q w) e
        unfolding range_of
        range_holds o e f O E =
            let c : Runs (centre_over p q) t.centre = subst (λ m. Runs m t.centre) (sym centre_is) T.centre in
            ends_hold radius (centre_over p q) (centre_over p q) t.centre o r e c (opposite_runs (centre_over p q) t.centre o c O) (radius_runs f) E
