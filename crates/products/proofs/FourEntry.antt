-- One entry of method 4: its sums over midpoints, the radius continued with the outer terms, and the entry that they end in.
-- Method 7 starts with the same sums.
use mathlib.Core.Path.{◌≡◌, sym, ap, ◌∙◌, subst}
use mathlib.Core.Bool.{true, false}
use mathlib.Core.List.{List}
use mathlib.Core.Logic.{inl, inr}
use mathlib.Core.Option.{Option, none, bind}
use Rattle.std.specs.Prelude.{Option as Maybe, Some, None}
use Rattle.products.specs.Entries.{Going}
use Prim.Native.Nat.{ℕ, ◌+◌, ◌*◌, ◌≤◌, ◌<◌}
use native.Mathlib.Omega.{arith}
use lib.Dec.{ltb}
use lib.IntN.{ℤ, pos, neg_ℤ}
use lib.ListN.{length, get_or}
use Rattle.rounding.specs.Format.{binary32}
use Rattle.rounding.specs.Rounding.{up, down, negate}
use Rattle.enclosure.specs.Arithmetic.{of}
use Rattle.enclosure.specs.Sums.{sum}
use Rattle.enclosure.proofs.Sums.{sum_ext}
use Rattle.enclosure.specs.Methods.{Method, Range, four, outer_term, total, radius₄, centre, ends, entry}
use Rattle.binary32.specs.Number.{value_of, held}
use Rattle.binary32.specs.Order.{magnitude_of}
use Rattle.unpacked.specs.declared.Number.{Number}
use Rattle.products.specs.declared.centred.Centred.{Centred}
use Rattle.products.specs.declared.sums.Sums.{Sums}
use Rattle.unpacked.specs.Number.{worth, Below, Holds, Runs, zero_number}
use Rattle.products.specs.Running.{Ended, HoldsRange}
use Rattle.products.specs.Centred.{growth, Added, OneNone}
use Rattle.products.specs.Continued.{Line, Reaches, grown_by, Continued}
use Rattle.products.specs.Derived.{outer_of}
use Rattle.products.specs.MidRad.{entry_from}
use Rattle.products.specs.Spot.{Spot, a_mid, a_rad, b_mid, b_rad, left, right, middles, inners, MiddleSum, MiddleNone, MiddleAfter}
use Rattle.products.proofs.Carrying.{holds_runs, runs_holds, holds_none, zero_below, mirrored_is, negate_none}
use Rattle.products.proofs.Radii.{grown_below}
use Rattle.products.proofs.MidRadSteps.{mid_is, inner_is, outer_is}
use Rattle.products.proofs.CentredSteps.{centred_none, centred_more, centred_none_yet, one_stays}
use Rattle.products.proofs.Zeros.{centred_same, is_zero, down_zero, up_zero, mid_zero, inner_zero}
use Rattle.products.proofs.Ending.{ends_none, ends_hold, Places, position_entry_from}

module _ (p : Spot) where
  -- what is read for it
  abbrev pub Read : ℕ → ℕ → Type 0
  Read l size = Places p.k p.n p.i p.j l p.ma p.ra p.mb p.rb size

  abbrev pub entry_by : Method → ℕ → Option Range
  entry_by method c = entry_from method p.k p.n p.ma p.ra p.mb p.rb c

  -- ---- the sums over midpoints: of no pairs, and after one pair more
  pub middle_start : (s : Centred) → (s.lower ≡ zero_number) × (s.opposed ≡ zero_number) × (s.radius ≡ zero_number) → MiddleSum p 0 s
  unfolding MiddleSum middles inners
  middle_start s e = (centred_none_yet _ _ _ s e, subst Below (sym e.2) zero_below)

  pub middle_below : (l : ℕ) (s : Centred) → MiddleSum p l s → Below s.radius
  unfolding MiddleSum
  middle_below l s S = S.1

  module _ (l size : ℕ) (s : Centred) (P : Read l size) (S : MiddleSum p l s) where
    pub middle_more : (r : Centred) → Added s (a_mid p l) (b_mid p l) (growth (a_mid p l) (b_rad p l)) (Some r) → MiddleSum p (l + 1) r
    unfolding MiddleSum middles inners
    middle_more r A = (
      centred_more _ _ _ (pos 0) (pos 0) (pos 0) l s (a_mid p l) (b_mid p l) _ S.0
          (mid_is (a_mid p l) (a_rad p l) (b_mid p l) (b_rad p l) down P.cell_first.mid P.cell_second.mid)
          (mid_is (a_mid p l) (a_rad p l) (b_mid p l) (b_rad p l) up P.cell_first.mid P.cell_second.mid)
          (ap negate (sym (inner_is (a_mid p l) (a_rad p l) (b_mid p l) (b_rad p l) P.cell_first.mid P.cell_second.rad P.cell_second.nonneg)))
          r A,
      grown_below s.radius (a_mid p l) (b_rad p l) r.radius S.1 (runs_holds A.radius),
    )

    pub middle_none : Added s (a_mid p l) (b_mid p l) (growth (a_mid p l) (b_rad p l)) None → l < p.k → MiddleNone p
    unfolding MiddleSum MiddleNone middles inners
    middle_none A h =
        one_stays _ _ _ (pos 0) (pos 0) (pos 0) l p.k h
        (centred_none _ _ _ (pos 0) (pos 0) (pos 0) l s (a_mid p l) (b_mid p l) _ S.0
        (mid_is (a_mid p l) (a_rad p l) (b_mid p l) (b_rad p l) down P.cell_first.mid P.cell_second.mid)
        (mid_is (a_mid p l) (a_rad p l) (b_mid p l) (b_rad p l) up P.cell_first.mid P.cell_second.mid)
        (ap negate (sym (inner_is (a_mid p l) (a_rad p l) (b_mid p l) (b_rad p l) P.cell_first.mid P.cell_second.rad P.cell_second.nonneg)))
        A)

    pub middle_after : (r : Maybe Centred) → Added s (a_mid p l) (b_mid p l) (growth (a_mid p l) (b_rad p l)) r → l < p.k → MiddleAfter p l r
    middle_after (Some r) A h = middle_more r A
    middle_after None A h = middle_none A h

  -- a midpoint of A that is zero adds nothing
  pub middle_skip : (l : ℕ) (s : Centred) → MiddleSum p l s → ltb 0 (magnitude_of (a_mid p l)) ≡ false → MiddleSum p (l + 1) s
  unfolding MiddleSum middles inners
  middle_skip l s S t =
      let z = is_zero (a_mid p l) t in
      (centred_same _ _ _ (pos 0) (pos 0) (pos 0) l s (mid_zero (left p l) (right p l) down down_zero z) (mid_zero (left p l) (right p l) up up_zero z) (inner_zero (left p l) (right p l) z) S.0, S.1)

  -- ---- the radius, continued from v with the outer terms
  unfoldable pub outers : ℤ → ℕ → Option ℤ
  outers v l = sum (up binary32 1) (λ l. outer_term (of binary32) (left p l) (right p l)) v l

  -- a row of A's patterns and a column of B's
  abbrev pub line : (row column : List ℕ) → Line
  line row column = record { k = p.k; n = p.n; i = p.i; j = p.j; row = row; column = column }

  pub reaches : (row column : List ℕ) (size : ℕ) → ((l : ℕ) → l < p.k → Read l size) → size ≤ length row → p.k * p.n ≤ length column → Reaches (line row column)
  reaches row column size P a b = record {
    left = λ l m. ((P l m).small_first, omega (arith, (P l m).first));
    right = λ l m. ((P l m).small_second, omega (arith, (P l m).second));
  }

  -- wb holds |mB| + rB
  module _ (wb : List ℕ) (size : ℕ) (P : (l : ℕ) → l < p.k → Read l size) (wide : (l : ℕ) → l < p.k → held (get_or wb (l * p.n + p.j) 0) ≡ outer_of (value_of (b_mid p l)) (value_of (b_rad p l))) where
    outers_are : (v : ℤ) → grown_by (line p.ra wb) v p.k ≡ outers v p.k
    unfolding outers grown_by
    outers_are v =
        sum_ext (up binary32 1) _ _ v p.k
        (λ l m. sym (outer_is (a_mid p l) (a_rad p l) (b_mid p l) (b_rad p l) _ (P l m).cell_first.rad (P l m).cell_first.nonneg (P l m).cell_second.nonneg (wide l m)))

    outer_holds : (x r : Number) → Continued (line p.ra wb) x r → Holds (negate (outers (neg_ℤ (worth x)) p.k)) r
    outer_holds x r C = subst (λ m. Holds (negate m) r) (outers_are (neg_ℤ (worth x))) C

    pub outer_runs : (x r : Number) → Continued (line p.ra wb) x r → ltb 653 r.exp ≡ false → Runs (negate (outers (neg_ℤ (worth x)) p.k)) r
    outer_runs x r C t = holds_runs _ r (outer_holds x r C) t

    pub outer_none : (x r : Number) → Continued (line p.ra wb) x r → ltb 653 r.exp ≡ true → outers (neg_ℤ (worth x)) p.k ≡ none
    outer_none x r C t = negate_none _ (holds_none _ r (outer_holds x r C) t)

  -- ---- the entry, at position c by rows
  pub radius_stays : MiddleNone p → (next : ℤ → Option ℤ) → OneNone (middles p down p.k) (middles p up p.k) (bind (inners p p.k) next)
  unfolding MiddleNone bind
  radius_stays (inl e) next = inl e
  radius_stays (inr (inl e)) next = inr (inl e)
  radius_stays (inr (inr e)) next = inr (inr (ap (λ m. bind m next) e))

  pub radius_is : (s : Centred) → MiddleSum p p.k s → (next : ℤ → Option ℤ) → bind (inners p p.k) next ≡ next (neg_ℤ (worth s.radius))
  unfolding MiddleSum bind
  radius_is s S next = ap (λ m. bind m next) (mirrored_is (inners p p.k) s.radius S.0.radius)

  module _ (c : ℕ) (at : c ≡ p.i * p.n + p.j) (in_row : p.j < p.n) where
    abbrev radius : Option ℤ
    radius = bind (inners p p.k) λ v. outers v p.k

    is : entry_by four c ≡ ends (of binary32) radius (middles p down p.k) (middles p up p.k)
    unfolding entry radius₄ centre total middles inners outers
    is = position_entry_from four p.k p.n p.i p.j c at in_row p.ma p.ra p.mb p.rb

    pub four_middle : MiddleNone p → entry_by four c ≡ none
    four_middle o = is ∙ ends_none radius (middles p down p.k) (middles p up p.k) (radius_stays o (λ v. outers v p.k))

    -- the sums after a pair more, or no entry
    pub four_goes : (l : ℕ) (r : Maybe Centred) → MiddleAfter p l r → Going (MiddleSum p (l + 1)) (entry_by four c) r
    four_goes l None o = four_middle o
    four_goes l (Some t) S = S

    pub four_outer : (s : Centred) → MiddleSum p p.k s → outers (neg_ℤ (worth s.radius)) p.k ≡ none → entry_by four c ≡ none
    four_outer s S e = is ∙ ends_none radius (middles p down p.k) (middles p up p.k) (inr (inr (radius_is s S (λ v. outers v p.k) ∙ e)))

    pub four_holds : (s : Centred) (x : Number) (e : Maybe Sums) → MiddleSum p p.k s → Runs (negate (outers (neg_ℤ (worth s.radius)) p.k)) x → Ended s.lower s.opposed x e → HoldsRange (entry_by four c) e
    unfolding MiddleSum
    four_holds s x e S R E =
        subst (λ m. HoldsRange m e) (sym is)
        (ends_hold radius (middles p down p.k) (middles p up p.k) s.lower s.opposed x e S.0.lower S.0.upper
        (subst (λ m. Runs (negate m) x) (sym (radius_is s S (λ v. outers v p.k))) R) E)
