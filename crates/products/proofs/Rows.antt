-- Entries written by rows until the first that is refused, whatever computes them: what the loops over rows and columns keep, and what their two ways out leave.
use Rattle.std.specs.Prelude.{Some, None}
use mathlib.Core.Path.{◌≡◌, refl, sym, ap, subst, ◌∙◌}
use mathlib.Core.List.{List}
use mathlib.Core.Option.{Option, none}
use Prim.Native.Nat.{ℕ, ◌+◌, ◌*◌, ◌≤◌, ◌<◌}
use native.Mathlib.Nat.{suc-mul}
use native.Mathlib.Numerals.{add-one}
use native.Mathlib.Omega.{arith}
use lib.IntN.{neg_ℤ}
use lib.ListN.{length, set}
use borrow.Author.Tests.{lt-ltb, le-ltb}
use Rattle.enclosure.specs.Methods.{Range}
use Rattle.binary32.specs.Number.{pattern_of}
use Rattle.unpacked.specs.Number.{worth}
use Rattle.refusals.proofs.SizeLaws.{small}
use Rattle.matrices.specs.Entries.{refused, lower_of, upper_of, stop_of}
use Rattle.matrices.proofs.Firsts.{first_none, first_more, first_here}
use Rattle.matrices.proofs.Fronts.{Filled, filled_none, filled_more, filled_from, filled_is}
use Rattle.matrices.proofs.Places.{below, position_row, position_column}
use Rattle.products.specs.declared.sums.Sums.{Sums}
use Rattle.products.specs.Running.{HoldsRange}
use Rattle.products.specs.Written.{Found, place_of, Written}

module _ (E : ℕ → Option Range) where
  -- the entries below `at` are in lo and up, which were lo₀ and up₀, and none of them was refused
  pub record WrittenTo (at : ℕ) (lo₀ up₀ lo up : List ℕ) (place : Found) : Type 0 where
    pub nowhere : place ≡ None
    pub stop : stop_of E at ≡ at
    pub lowers : Filled at (λ c. lower_of (E c)) lo₀ lo
    pub uppers : Filled at (λ c. upper_of (E c)) up₀ up

  pub to_start : (lo up : List ℕ) → WrittenTo 0 lo up lo up None
  unfolding stop_of
  to_start lo up = record { nowhere = refl; stop = first_none (λ c. refused (E c)); lowers = filled_none _ lo; uppers = filled_none _ up }

  module _ {at : ℕ} {lo₀ up₀ lo up : List ℕ} {place : Found} (W : WrittenTo at lo₀ up₀ lo up place) where
    -- a row begins
    pub to_again : WrittenTo at lo up lo up place
    to_again = record {
      nowhere = W.nowhere;
      stop = W.stop;
      lowers = record { long = refl; head = W.lowers.head; rest = refl };
      uppers = record { long = refl; head = W.uppers.head; rest = refl };
    }

    -- the same position, written otherwise
    pub to_at : {to : ℕ} → at ≡ to → WrittenTo to lo₀ up₀ lo up place
    to_at e = subst (λ (t : ℕ). WrittenTo t lo₀ up₀ lo up place) e W

    -- a loop within it left the place nowhere
    pub to_still : {place' : Found} → place' ≡ None → WrittenTo at lo₀ up₀ lo up place'
    to_still e = record { nowhere = e; stop = W.stop; lowers = W.lowers; uppers = W.uppers }

    -- it has got from `at` to `to`
    pub to_from : {to : ℕ} {lo' up' : List ℕ} {place' : Found} → at ≤ to → WrittenTo to lo up lo' up' place' → WrittenTo to lo₀ up₀ lo' up' place'
    to_from {to} h X = record {
      nowhere = X.nowhere;
      stop = X.stop;
      lowers = filled_from at to _ _ _ _ h W.lowers X.lowers;
      uppers = filled_from at to _ _ _ _ h W.uppers X.uppers;
    }

    -- one entry more, x and y the patterns of its bounds
    pub to_more : (s : Sums) (x y : ℕ) → HoldsRange (E at) (Some s) → at < length lo → at < length up
        → x ≡ pattern_of (worth s.lower) → y ≡ pattern_of (neg_ℤ (worth s.opposed)) → WrittenTo (at + 1) lo₀ up₀ (set lo at x) (set up at y) place
    unfolding stop_of
    to_more s x y e l u ex ey =
        record {
          nowhere = W.nowhere;
          stop = first_more (λ c. refused (E c)) at W.stop (ap refused e);
          lowers = filled_more at _ _ _ x (omega (arith, W.lowers.long)) (ex ∙ sym (ap lower_of e)) W.lowers;
          uppers = filled_more at _ _ _ y (omega (arith, W.uppers.long)) (ey ∙ sym (ap upper_of e)) W.uppers;
        }

    -- ---- all rows, or up to a refused entry
    ended : (m n : ℕ) (r : Found) → stop_of E (m * n) ≡ at → r ≡ place_of m n at → Written E m n lo₀ up₀ r lo up
    ended m n r t e = record { place = rw t e; lowers = rw t (filled_is at _ lo₀ lo W.lowers); uppers = rw t (filled_is at _ up₀ up W.uppers) }

    pub to_all : (m n : ℕ) → at ≡ m * n → Written E m n lo₀ up₀ place lo up
    to_all m n e = ended m n place (ap (stop_of E) (sym e) ∙ W.stop) (rw (le-ltb at (m * n) (omega arith)) W.nowhere)

    pub to_none : (m n i j : ℕ) → at ≡ i * n + j → i < m → j < n → E at ≡ none → Written E m n lo₀ up₀ (Some (record { row = i; column = j })) lo up
    unfolding stop_of
    to_none m n i j e h k g =
        let l : at < m * n = omega (arith, below i m j n h k) in
        ended m n (Some (record { row = i; column = j })) (first_here (λ c. refused (E c)) at (m * n) W.stop (ap refused g) l) (rw (lt-ltb at (m * n) l, position_row i j n at e k, position_column i j n at e k))

    pub to_long : (length lo ≡ length lo₀) × (length up ≡ length up₀)
    to_long = (W.lowers.long, W.uppers.long)

    -- the next entry's place is within lists that are long enough
    pub to_place : (m n i j : ℕ) → m ≤ 32 → n ≤ 32 → m * n ≤ length lo₀ → m * n ≤ length up₀ → at ≡ i * n + j → i < m → j < n → (at < 1024) × (at < length lo) × (at < length up)
    to_place m n i j rows columns l u e h k =
        let a = below i m j n h k in
        let b = small m n rows columns in
        (omega arith, omega (arith, W.lowers.long), omega (arith, W.uppers.long))

-- the first place of the next row
pub next_row : (i n at : ℕ) → at ≡ i * n + n → at ≡ (i + 1) * n
next_row i n at e =
    let q : (i + 1) * n ≡ i * n + n = rw add-one (suc-mul i n) in
    omega arith
