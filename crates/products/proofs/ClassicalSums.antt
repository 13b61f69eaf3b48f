-- The running sums of an entry by method 1 from pair to pair (`SumsAfter`): they start at [0, 0], a step adds a pair, a pair with a cell [0, 0] adds nothing,
-- after k pairs they hold the entry, and once a step is refused the entry is.
use mathlib.Core.Path.{◌≡◌, refl, sym, ap, ap₂, ◌∙◌, subst}
use mathlib.Core.Option.{none, some, bind}
use Prim.Native.Nat.{ℕ, ◌+◌, ◌*◌, ◌<◌}
use native.Mathlib.Numerals.{add-one}
use native.Mathlib.Omega.{arith}
use lib.Dec.{lit<}
use lib.IntN.{ℤ, pos, neg_ℤ, ◌+ℤ◌, neg_ℤ-neg_ℤ}
use Rattle.rounding.specs.Format.{binary32}
use Rattle.rounding.specs.Rounding.{up, down, negate}
use Rattle.rounding.proofs.DirectedLaws.{up_exact, down_exact}
use Rattle.rounding.proofs.Sign.{num_neg}
use Rattle.enclosure.specs.Arithmetic.{of}
use Rattle.enclosure.specs.Cell.{Cell}
use Rattle.enclosure.specs.Methods.{classical, least_term, greatest_term}
use Rattle.enclosure.specs.RunningSums.{add_pair}
use Rattle.enclosure.proofs.RunningSums.{both, sums_start, sums_more, sums_stay}
use Rattle.std.specs.Prelude.{Option as Maybe, Some, None}
use Rattle.unpacked.specs.declared.Number.{Number}
use Rattle.unpacked.specs.Number.{worth, zero_number}
use Rattle.products.specs.Entries.{Going}
use Rattle.unpacked.proofs.CornerTerms.{ZeroTerms}
use Rattle.unpacked.proofs.Packing.{num_of}
use Rattle.matrices.specs.Matrix.{Matrix, cell_at}
use Rattle.matrices.specs.Entries.{entry_of}
use Rattle.products.specs.declared.sums.Sums.{Sums}
use Rattle.products.specs.Classical.{sums_to, SumsAfter}
use Rattle.products.specs.Running.{HoldsRange, Summed, bounds_of, plus_down}
use Rattle.products.proofs.Carrying.{mirror_plus, zero_worth}
use Rattle.products.proofs.Holding.{holds_both}
use Rattle.products.proofs.Zeros.{plus_zero}

-- ---- one step: each sum with its term
pub pair_holds : (s : Sums) (a b : Cell) (r : Maybe Sums) → Summed (plus_down (worth s.lower) (least_term (of binary32) a b)) (plus_down (worth s.opposed) (negate (greatest_term (of binary32) a b))) r
    → HoldsRange (add_pair (of binary32) (bounds_of s) a b) r
unfolding add_pair
pair_holds s a b r h = holds_both _ _ r (subst (λ m. Summed (plus_down (worth s.lower) (least_term (of binary32) a b)) m r) (sym turned) h)
  where
    turned : negate (bind (greatest_term (of binary32) a b) λ t. up binary32 1 (neg_ℤ (worth s.opposed) +ℤ t)) ≡ plus_down (worth s.opposed) (negate (greatest_term (of binary32) a b))
    turned = mirror_plus (neg_ℤ (worth s.opposed)) (greatest_term (of binary32) a b) ∙ ap (λ v. plus_down v (negate (greatest_term (of binary32) a b))) (neg_ℤ-neg_ℤ (worth s.opposed))

-- ---- a pair whose terms are 0
pair_zero : (s : Sums) (a b : Cell) → ZeroTerms a b → add_pair (of binary32) (bounds_of s) a b ≡ some (bounds_of s)
unfolding add_pair bind
pair_zero s a b z =
    ap₂ both (ap (plus_down (worth s.lower)) z.least ∙ lower) (ap (λ m. bind m λ t. up binary32 1 (neg_ℤ (worth s.opposed) +ℤ t)) z.greatest ∙ upper)
  where
    lower : down binary32 1 (worth s.lower +ℤ pos 0) ≡ some (worth s.lower)
    lower = ap (down binary32 1) (plus_zero (worth s.lower)) ∙ down_exact binary32 1 (lit< tt) (num_of s.lower s.lower_number)

    upper : up binary32 1 (neg_ℤ (worth s.opposed) +ℤ pos 0) ≡ some (neg_ℤ (worth s.opposed))
    upper = ap (up binary32 1) (plus_zero (neg_ℤ (worth s.opposed))) ∙ up_exact binary32 1 (lit< tt) (num_neg (num_of s.opposed s.opposed_number))

-- ---- from pair to pair
module _ (k n : ℕ) (A B : Matrix) (i j : ℕ) where
  -- the cells of pair l
  abbrev a : ℕ → Cell
  a l = cell_at A (i * k + l)

  abbrev b : ℕ → Cell
  b l = cell_at B (l * n + j)

  pub after_none : (s : Sums) → (s.lower ≡ zero_number) × (s.opposed ≡ zero_number) → SumsAfter k n A B i j 0 s
  unfolding sums_to
  after_none s e =
      sums_start (of binary32) a b ∙ ap (λ (v : ℤ). some (record { lower = v; upper = neg_ℤ v })) (sym zero_worth)
      ∙ ap₂ (λ (x y : Number). some (record { lower = worth x; upper = neg_ℤ (worth y) })) (sym e.0) (sym e.1)

  -- the whole entry
  pub after_all : (l : ℕ) (s : Sums) → l ≡ k → SumsAfter k n A B i j l s → HoldsRange (entry_of classical k n A B i j) (Some s)
  unfolding sums_to entry_of
  after_all l s e S = subst (λ m. HoldsRange (sums_to k n A B i j m) (Some s)) e S

  module _ (l : ℕ) (s : Sums) (S : SumsAfter k n A B i j l s) where
    next : sums_to k n A B i j (l + 1) ≡ add_pair (of binary32) (bounds_of s) (a l) (b l)
    unfolding sums_to bind
    next =
        ap (sums_to k n A B i j) (add-one l) ∙ sums_more (of binary32) a b l
        ∙ ap (λ m. bind m λ r. add_pair (of binary32) r (a l) (b l)) S

    -- a pair with a cell [0, 0]
    pub after_zero : ZeroTerms (a l) (b l) → SumsAfter k n A B i j (l + 1) s
    after_zero z = next ∙ pair_zero s (a l) (b l) z

    -- a step
    module _ (r : Maybe Sums) (h : HoldsRange (add_pair (of binary32) (bounds_of s) (a l) (b l)) r) where
      -- it holds the sums over one pair more, or the refusal that either gives
      pub after_step : HoldsRange (sums_to k n A B i j (l + 1)) r
      after_step = subst (λ m. HoldsRange m r) (sym next) h

      -- which refuses the entry
      pub entry_refused : l < k → r ≡ None → entry_of classical k n A B i j ≡ none
      unfolding sums_to entry_of
      entry_refused m e = sums_stay (of binary32) a b (l + 1) k (omega arith) (subst (HoldsRange (sums_to k n A B i j (l + 1))) e after_step)

    -- both, as the loop asks for them
    pub after_going : (r : Maybe Sums) → HoldsRange (add_pair (of binary32) (bounds_of s) (a l) (b l)) r → l < k
        → Going (SumsAfter k n A B i j (l + 1)) (entry_of classical k n A B i j) r
    after_going None h m = entry_refused None h m refl
    after_going (Some r) h m = after_step (Some r) h
