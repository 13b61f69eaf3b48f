-- One entry of method 5: what `Five::finish` computes from midpoints, parts and |m| + r is the entry of the definition.
use mathlib.Core.Path.{◌≡◌, refl, sym, ap, ap₂, ◌∙◌, subst}
use mathlib.Core.List.{List}
use Rattle.std.specs.Prelude.{Option as Maybe}
use mathlib.Core.Option.{Option, none, some, bind, some-injective}
use Prim.Native.Nat.{ℕ, ◌+◌, ◌*◌, ◌≤◌, ◌<◌}
use native.Mathlib.Omega.{arith}
use lib.IntN.{ℤ, pos, ◌+ℤ◌, ◌*ℤ◌, ◌-ℤ◌}
use lib.ListN.{length, get_or}
use Rattle.algebra.specs.Absolute.{abs}
use Rattle.rounding.specs.Format.{binary32}
use Rattle.rounding.specs.Rounding.{up, near}
use Rattle.enclosure.specs.Arithmetic.{of}
use Rattle.enclosure.specs.Methods.{five, part, mid_term, part_term, mid_size_term, part_size_term, largest_term, error_bound, total, radius₅, size₅, error₅, centre, centre₇, ends, entry}
use Rattle.enclosure.proofs.Sums.{sum_ext}
use Rattle.binary32.specs.Number.{value_of, held}
use Rattle.binary32.specs.Operations.{mul}
use Rattle.unpacked.specs.declared.Number.{Number}
use Rattle.unpacked.specs.Number.{worth, IsNumber}
use Rattle.unpacked.proofs.Patterns.{held_is}
use Rattle.refusals.proofs.SizeLaws.{small}
use Rattle.matrices.proofs.Places.{below}
use Rattle.products.specs.declared.sums.Sums.{Sums}
use Rattle.products.specs.CentreSize.{Pairs, Paired, number, centre_from, size_from, centre_over, size_over, radius_for, range_of}
use Rattle.products.specs.Continued.{Line, Reaches, grown_by}
use Rattle.products.specs.Derived.{Derived, outer_of, part_of}
use Rattle.products.specs.MidRad.{Sized}
use Rattle.products.specs.Row.{RowReaches, RowUnpacked}
use Rattle.products.specs.Running.{HoldsRange}
use Rattle.products.proofs.CentreSizes.{finite_number}
use Rattle.products.proofs.Ending.{places, position_entry_from}
use Rattle.products.proofs.EntryExt.{bind_each}
use Rattle.products.specs.Spot.{Spot, a_mid, a_rad, b_mid, b_rad, left, right}
use Rattle.products.proofs.FourEntry.{Read, entry_by, line, reaches}
use Rattle.products.proofs.MidRadSteps.{largest_is}
use Rattle.products.proofs.SevenEntry.{Made, held_number}

-- a pattern that holds v has the value v
held_value : (q : ℕ) (v : ℤ) → held q ≡ some v → value_of q ≡ v
held_value q v h = some-injective (value_of q) v (sym (held_is q (held_number q v h)) ∙ h)

-- the radius from the sum S and the size G: G may be looked at first, and once
by_size : (k : ℕ) (S G : Option ℤ) →
    (bind G λ g. bind S λ s. bind (up binary32 1 (s -ℤ g)) λ t. bind (error_bound (of binary32) k g) λ e. bind (up binary32 1 (pos 2 *ℤ e)) λ d. up binary32 1 (t +ℤ d))
    ≡ (bind S λ s. bind G λ g. bind (up binary32 1 (s -ℤ g)) λ t. bind (bind G (error_bound (of binary32) k)) λ e. bind (up binary32 1 (pos 2 *ℤ e)) λ d. up binary32 1 (t +ℤ d))
unfolding bind
by_size k S (some g) = refl
by_size k none none = refl
by_size k (some s) none = refl

-- row i of A's patterns is within them
pub row_reaches : (m k i : ℕ) (patterns : List ℕ) → m ≤ 32 → k ≤ 32 → i < m → m * k ≤ length patterns → RowReaches k i patterns
row_reaches m k i patterns rows few h long = record {
  few = few;
  each = λ l t. let a = below i m l k h t in (omega (arith, a, small m k rows few), omega (arith, a));
}

-- what is worked out once for each cell, |m| + r (w) and the part (p), and once for each row: its midpoints (xs) and its parts (ps) unpacked
pub record Lists : Type 0 where
  pub xs : List Number
  pub ps : List Number
  pub wa : List ℕ
  pub pa : List ℕ
  pub wb : List ℕ
  pub pb : List ℕ

module _ (p : Spot) (q : Lists) where
  -- the pairs of midpoints, of parts, and of |m| + r
  abbrev pub mids : Pairs
  mids = record { k = p.k; n = p.n; j = p.j; row = q.xs; column = p.mb }

  abbrev pub parts : Pairs
  parts = record { k = p.k; n = p.n; j = p.j; row = q.ps; column = q.pb }

  abbrev pub outers : Line
  outers = line p q.wa q.wb

  -- the entry is one of m rows, and the lists hold what their names say
  pub record Prepared (m lowers uppers : ℕ) : Type 0 where
    pub sized : Sized m p.k p.n p.ma p.ra p.mb p.rb lowers uppers
    pub row : p.i < m
    pub column : p.j < p.n
    pub a_outers : Derived outer_of (m * p.k) p.ma p.ra q.wa
    pub a_parts : Derived part_of (m * p.k) p.ma p.ra q.pa
    pub b_outers : Derived outer_of (p.k * p.n) p.mb p.rb q.wb
    pub b_parts : Derived part_of (p.k * p.n) p.mb p.rb q.pb
    pub mid_row : RowUnpacked p.k p.i p.ma q.xs
    pub part_row : RowUnpacked p.k p.i q.pa q.ps

  module _ {m lowers uppers : ℕ} (P : Prepared m lowers uppers) where
    read : (l : ℕ) → l < p.k → Read p l (m * p.k)
    read l h = places m p.k p.n p.i p.j l p.ma p.ra p.mb p.rb lowers uppers P.sized P.row P.column h

    made : (l : ℕ) → l < p.k → Made p l (get_or q.pa (p.i * p.k + l) 0) (get_or q.pb (l * p.n + p.j) 0)
    made l h = record { first = P.a_parts.each _ (read l h).first; second = P.b_parts.each _ (read l h).second }

    -- the numbers of the row
    mid_number : (l : ℕ) → l < p.k → IsNumber (number mids l) × (worth (number mids l) ≡ value_of (a_mid p l))
    mid_number l h = finite_number (a_mid p l) (number mids l) (read l h).cell_first.mid (P.mid_row.each l h)

    part_number : (l : ℕ) → l < p.k → IsNumber (number parts l) × (worth (number parts l) ≡ part (value_of (a_mid p l)) (value_of (a_rad p l)))
    part_number l h =
        let w = finite_number (get_or q.pa (p.i * p.k + l) 0) (number parts l) (held_number _ _ (made l h).first) (P.part_row.each l h) in
        (w.0, w.1 ∙ held_value _ _ (made l h).first)

    -- ---- what the calls of `Five::finish` ask for
    pub outers_reach : Reaches outers
    outers_reach = reaches p q.wa q.wb (m * p.k) read P.a_outers.long P.b_outers.long

    pub mids_paired : Paired mids
    mids_paired =
        let r = reaches p p.ma p.mb (m * p.k) read P.sized.a.mids P.sized.b.mids in
        record {
          few = P.sized.inner;
          left = λ l h. (omega (arith, P.mid_row.long), (mid_number l h).0);
          right = λ l h. ((r.right l h).0, (r.right l h).1, (read l h).cell_second.mid);
        }

    pub parts_paired : Paired parts
    parts_paired =
        let r = reaches p q.pa q.pb (m * p.k) read P.a_parts.long P.b_parts.long in
        record {
          few = P.sized.inner;
          left = λ l h. (omega (arith, P.part_row.long), (part_number l h).0);
          right = λ l h. ((r.right l h).0, (r.right l h).1, held_number _ _ (made l h).second);
        }

    -- ---- its sums are those of the definition
    b_part : (l : ℕ) → l < p.k → value_of (get_or q.pb (l * p.n + p.j) 0) ≡ part (value_of (b_mid p l)) (value_of (b_rad p l))
    b_part l h = held_value _ _ (made l h).second

    centre_is : centre_over mids parts ≡ centre₇ (of binary32) p.k (left p) (right p) (near binary32)
    unfolding centre_from centre₇ centre total mid_term part_term
    centre_is =
        ap (λ m. bind m λ v. centre_from parts v p.k) (sum_ext (near binary32 1) _ _ (pos 0) p.k (λ l h. ap (λ x. mul near x (value_of (b_mid p l))) (mid_number l h).1))
        ∙ bind_each _ (λ v. sum_ext (near binary32 1) _ _ v p.k (λ l h. ap₂ (mul near) (part_number l h).1 (b_part l h)))

    size_is : size_over mids parts ≡ size₅ (of binary32) p.k (left p) (right p)
    unfolding size_from size₅ total mid_size_term part_size_term
    size_is =
        ap (λ m. bind m λ v. size_from parts v p.k) (sum_ext (near binary32 1) _ _ (pos 0) p.k (λ l h. ap (λ x. mul near (abs x) (abs (value_of (b_mid p l)))) (mid_number l h).1))
        ∙ bind_each _ (λ v. sum_ext (near binary32 1) _ _ v p.k (λ l h. ap₂ (λ x y. mul near (abs x) (abs y)) (part_number l h).1 (b_part l h)))

    sum_is : grown_by outers (pos 0) p.k ≡ total (of binary32) p.k (left p) (right p) (up binary32) (largest_term (of binary32)) (pos 0)
    unfolding grown_by total
    sum_is =
        sum_ext (up binary32 1) _ _ (pos 0) p.k
        (λ l h. let r = read l h in largest_is (a_mid p l) (a_rad p l) (b_mid p l) (b_rad p l) _ _ r.cell_first.nonneg r.cell_second.nonneg (P.a_outers.each _ r.first) (P.b_outers.each _ r.second))

    radius_is : bind (size_over mids parts) (radius_for outers) ≡ radius₅ (of binary32) p.k (left p) (right p)
    unfolding radius₅ error₅ radius_for
    radius_is =
        ap₂ (λ G S. bind G λ g. bind S λ s. bind (up binary32 1 (s -ℤ g)) λ t. bind (error_bound (of binary32) p.k g) λ e. bind (up binary32 1 (pos 2 *ℤ e)) λ d. up binary32 1 (t +ℤ d)) size_is sum_is
        ∙ by_size p.k _ _

    -- ---- the entry, at position c by rows
    five_is : (c : ℕ) → c ≡ p.i * p.n + p.j → range_of mids parts outers ≡ entry_by p five c
    unfolding range_of entry
    five_is c at = ap₂ (λ r s. ends (of binary32) r s s) radius_is centre_is ∙ sym (position_entry_from five p.k p.n p.i p.j c at P.column p.ma p.ra p.mb p.rb)

    pub five_none : (c : ℕ) → c ≡ p.i * p.n + p.j → range_of mids parts outers ≡ none → entry_by p five c ≡ none
    five_none c at e = sym (five_is c at) ∙ e

    pub five_holds : (c : ℕ) → c ≡ p.i * p.n + p.j → (e : Maybe Sums) → HoldsRange (range_of mids parts outers) e → HoldsRange (entry_by p five c) e
    five_holds c at e = subst (λ m. HoldsRange m e) (five_is c at)
