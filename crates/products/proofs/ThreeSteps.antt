-- One entry of method 3: its first sums, the radius with 2^-125 and continued with the outer terms, and the entry that they end in.
use mathlib.Core.Path.{◌≡◌, refl, sym, ap, ◌∙◌, subst}
use mathlib.Core.Bool.{true, false}
use mathlib.Core.Logic.{◌⊎◌, inl, inr}
use Rattle.std.specs.Prelude.{Option as Maybe, Some, None}
use Rattle.products.specs.Entries.{Going}
use mathlib.Core.Option.{Option, none, some, bind}
use Prim.Native.Nat.{ℕ, ◌+◌, ◌*◌, ◌<◌}
use lib.Dec.{ltb}
use lib.IntN.{ℤ, pos, neg_ℤ, ◌+ℤ◌}
use Rattle.rounding.proofs.Sign.{neg_le_pos}
use Rattle.rounding.specs.Format.{binary32}
use Rattle.rounding.specs.Rounding.{up, near, negate}
use Rattle.enclosure.specs.Arithmetic.{of}
use Rattle.enclosure.specs.Methods.{total, radius₃, centre, ends, entry, three}
use Rattle.enclosure.specs.Sums.{sum}
use Rattle.binary32.specs.Number.{value_of, held}
use Rattle.binary32.specs.Operations.{mul, with₂}
use Rattle.unpacked.specs.declared.Number.{Number}
use Rattle.products.specs.declared.nearest.Nearest.{Nearest}
use Rattle.products.specs.declared.sums.Sums.{Sums}
use Rattle.unpacked.specs.Number.{worth, IsNumber, Below, Holds, Runs, Opposite, minus_tiny, zero_number, no_number}
use Rattle.products.specs.Running.{plus_down, Ended, HoldsRange}
use Rattle.products.specs.Centred.{growth, NearAdded, OneNone}
use Rattle.products.specs.Terms.{adds_of}
use Rattle.products.specs.Derived.{raised_of, factor_of}
use Rattle.products.proofs.Carrying.{holds_runs, runs_holds, number_runs, no_holds, holds_none, zero_runs, mirrored_is, negate_none, any_more, up_more, sum_stays}
use Rattle.products.proofs.Radii.{plus_below}
use Rattle.unpacked.proofs.CornerTerms.{zero_value}
use Rattle.products.proofs.Zeros.{near_same, up_same, adds_not, near_zero, mid_zero, raised_zero}
use Rattle.products.proofs.MidRadSteps.{mid_is, raised_is}
use Rattle.products.proofs.NearestSteps.{opposite_runs, tiny, tiny_holds, tinied, tiny_more}
use Rattle.products.proofs.Ending.{ends_none, ends_hold, position_entry_from}
use Rattle.products.specs.Spot.{Spot, a_mid, a_rad, b_mid, b_rad, left, right, middles, raiseds, FirstSum}
use Rattle.products.proofs.FourEntry.{Read, entry_by, outers}

nested : (m : Option ℤ) (g : ℤ → Option ℤ) → bind m (λ s. bind (up binary32 1 (s +ℤ pos tiny)) g) ≡ bind (tinied m) g
unfolding tinied bind
nested none g = refl
nested (some s) g = refl

module _ (p : Spot) where
  -- one of them is none in the end
  unfoldable pub FirstNone : Type 0
  FirstNone = (middles p near p.k ≡ none) ⊎ (raiseds p p.k ≡ none)

  pub first_start : (s : Nearest) → (s.centre ≡ zero_number) × (s.radius ≡ zero_number) → FirstSum p 0 s
  unfolding FirstSum middles raiseds sum
  first_start s e = record { centre = subst (Runs (some (pos 0))) (sym e.0) zero_runs; radius = subst (Runs (some (pos 0))) (sym e.1) zero_runs; below = s.below }

  -- ---- after one pair more
  module _ (l size v : ℕ) (s : Nearest) (P : Read p l size) (S : FirstSum p l s) (d : held v ≡ raised_of (factor_of p.k) (value_of (b_mid p l)) (value_of (b_rad p l))) where
    centre_next : (r : Number) → Holds (bind (with₂ (mul near) (a_mid p l) (b_mid p l)) λ t. near binary32 1 (worth s.centre +ℤ t)) r → Holds (middles p near (l + 1)) r
    unfolding FirstSum middles
    centre_next r =
        any_more _ (pos 0) (near binary32 1) l s.centre r (with₂ (mul near) (a_mid p l) (b_mid p l)) S.centre (mid_is (a_mid p l) (a_rad p l) (b_mid p l) (b_rad p l) near P.cell_first.mid P.cell_second.mid)

    radius_next : (r : Number) → Holds (plus_down (worth s.radius) (growth (a_mid p l) v)) r → Holds (negate (raiseds p (l + 1))) r
    unfolding FirstSum raiseds
    radius_next r = up_more _ (pos 0) l s.radius r _ S.radius (raised_is (a_mid p l) (a_rad p l) (b_mid p l) (b_rad p l) p.k v P.cell_first.mid P.cell_second.nonneg d)

    pub first_more : (r : Nearest) → NearAdded s (a_mid p l) (b_mid p l) (a_mid p l) v (Some r) → FirstSum p (l + 1) r
    unfolding FirstSum
    first_more r A =
        record { centre = number_runs r.centre_number (centre_next r.centre (runs_holds A.0)); radius = number_runs r.radius_number (radius_next r.radius (runs_holds A.1)); below = r.below }

    pub first_none : NearAdded s (a_mid p l) (b_mid p l) (a_mid p l) v None → l < p.k → FirstNone
    unfolding FirstNone middles raiseds
    first_none (inl e) h = inl (sum_stays (near binary32 1) _ (pos 0) l p.k h (holds_none _ no_number (centre_next no_number (no_holds e)) refl))
    first_none (inr e) h = inr (sum_stays (up binary32 1) _ (pos 0) l p.k h (negate_none _ (holds_none _ no_number (radius_next no_number (no_holds e)) refl)))

  -- a pair that is passed over adds nothing
  pub first_skip : (l v : ℕ) (s : Nearest) → FirstSum p l s → held v ≡ raised_of (factor_of p.k) (value_of (b_mid p l)) (value_of (b_rad p l)) → adds_of (a_mid p l) v ≡ false → FirstSum p (l + 1) s
  unfolding FirstSum middles raiseds
  first_skip l v s S d t =
      let z = adds_not (a_mid p l) v t in
      let m = zero_value (a_mid p l) z.0 in
      record {
        centre = near_same _ (pos 0) l (mid_zero (left p l) (right p l) near near_zero m) s.centre S.centre;
        radius = up_same _ (pos 0) l (raised_zero (left p l) (right p l) p.k v m z.1 d) s.radius S.radius;
        below = S.below;
      }

  -- ---- the radius with 2^-125 more
  unfoldable pub TinyNext : Number → Type 0
  TinyNext x = Holds (negate (tinied (raiseds p p.k))) x × Below x

  unfoldable pub TinySum : Number → Type 0
  TinySum x = Runs (negate (tinied (raiseds p p.k))) x × Below x

  unfoldable pub TinyNone : Type 0
  TinyNone = tinied (raiseds p p.k) ≡ none

  pub tiny_next : (s : Nearest) (y x : Number) → FirstSum p p.k s → y ≡ minus_tiny → ((t : Option ℤ) → Holds t y → Holds (plus_down (worth s.radius) t) x) → TinyNext x
  unfolding FirstSum TinyNext
  tiny_next s y x S e H =
      let h = H (some (neg_ℤ (pos tiny))) (tiny_holds y e) in
      (tiny_more (raiseds p p.k) s.radius x S.radius h, plus_below s.radius x (some (neg_ℤ (pos tiny))) S.below (neg_le_pos tiny 0) h)

  pub tiny_sum : (x : Number) → TinyNext x → ltb 653 x.exp ≡ false → TinySum x
  unfolding TinyNext TinySum
  tiny_sum x H t = (holds_runs _ x H.0 t, H.1)

  pub tiny_none : (x : Number) → TinyNext x → ltb 653 x.exp ≡ true → TinyNone
  unfolding TinyNext TinyNone
  tiny_none x H t = negate_none (tinied (raiseds p p.k)) (holds_none _ x H.0 t)

  pub tiny_number : (x : Number) → TinySum x → IsNumber x × Below x
  unfolding TinySum
  tiny_number x S = (S.0.number, S.1)

  -- ---- the entry, at position c by rows
  module _ (c : ℕ) (at : c ≡ p.i * p.n + p.j) (in_row : p.j < p.n) where
    abbrev continued : Option ℤ → Option ℤ
    continued m = bind m λ v. outers p v p.k

    abbrev radius : Option ℤ
    radius = continued (tinied (raiseds p p.k))

    abbrev middle : Option ℤ
    middle = middles p near p.k

    is : entry_by p three c ≡ ends (of binary32) radius middle middle
    unfolding entry radius₃ centre total middles raiseds outers
    is =
        position_entry_from three p.k p.n p.i p.j c at in_row p.ma p.ra p.mb p.rb
        ∙ ap (λ r. ends (of binary32) r middle middle) (nested (raiseds p p.k) (λ v. outers p v p.k))

    pub three_first : FirstNone → entry_by p three c ≡ none
    unfolding FirstNone tinied bind
    three_first o = is ∙ ends_none radius middle middle (go o)
      where
        go : FirstNone → OneNone middle middle radius
        go (inl e) = inl e
        go (inr e) = inr (inr (ap (λ m. continued (tinied m)) e))

    -- the sums after a pair more, or no entry
    pub three_goes : (l size v : ℕ) (s : Nearest) (P : Read p l size) → FirstSum p l s → held v ≡ raised_of (factor_of p.k) (value_of (b_mid p l)) (value_of (b_rad p l)) → l < p.k
        → (r : Maybe Nearest) → NearAdded s (a_mid p l) (b_mid p l) (a_mid p l) v r → Going (FirstSum p (l + 1)) (entry_by p three c) r
    three_goes l size v s P S d h (Some r) A = first_more l size v s P S d r A
    three_goes l size v s P S d h None A = three_first (first_none l size v s P S d A h)

    pub three_tiny : TinyNone → entry_by p three c ≡ none
    unfolding TinyNone bind
    three_tiny e = is ∙ ends_none radius middle middle (inr (inr (ap continued e)))

    radius_is : (y : Number) → TinySum y → radius ≡ outers p (neg_ℤ (worth y)) p.k
    unfolding TinySum bind
    radius_is y S = ap continued (mirrored_is (tinied (raiseds p p.k)) y S.0)

    pub three_outer : (y : Number) → TinySum y → outers p (neg_ℤ (worth y)) p.k ≡ none → entry_by p three c ≡ none
    three_outer y S e = is ∙ ends_none radius middle middle (inr (inr (radius_is y S ∙ e)))

    pub three_holds : (s : Nearest) (y o x : Number) (e : Maybe Sums) → FirstSum p p.k s → TinySum y → Opposite s.centre o → Runs (negate (outers p (neg_ℤ (worth y)) p.k)) x → Ended s.centre o x e
        → HoldsRange (entry_by p three c) e
    unfolding FirstSum
    three_holds s y o x e F S O R E =
        subst (λ m. HoldsRange m e) (sym is)
        (ends_hold radius middle middle s.centre o x e F.centre (opposite_runs middle s.centre o F.centre O) (subst (λ m. Runs (negate m) x) (sym (radius_is y S)) R) E)
