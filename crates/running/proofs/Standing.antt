-- A value stands for the pairs taken: amounts and number are theirs, and its bounds are the patterns of the entry over them. The first value does, and so does
-- the next one after a pair or an exchange of amounts, with the same answer on both sides.
use mathlib.Core.Path.{◌≡◌, refl, sym, ap, ap₂, ◌∙◌}
use mathlib.Core.Bool.{Bool, true, false, not}
use mathlib.Core.List.{List, [], ◌∷◌, ◌++◌}
use mathlib.Core.Option.{Option, none, some, bind}
use Prim.Native.Nat.{ℕ, ◌+◌, ◌≤◌, ◌<◌}
use native.Mathlib.Omega.{arith}
use lib.Dec.{ltb}
use lib.Ieee.{size}
use lib.ListN.{length, get_or, length-append, get_or-append}
use lib.Seq.{get_or-append_seam}
use borrow.Author.Count.{below_more}
use borrow.Author.Tests.{ltb-true}
use Rattle.rounding.specs.Format.{binary32, expo}
use Rattle.rounding.specs.Pattern.{encode}
use Rattle.enclosure.specs.Arithmetic.{of}
use Rattle.enclosure.specs.Methods.{Range, classical}
use Rattle.enclosure.specs.RunningSums.{zero_range, add_pair}
use Rattle.refusals.specs.declared.reason.Reason.TheVariants.{TooLarge, WrongSize}
use Rattle.refusals.specs.Answer.{Answer, Judged, gives, refuses, done, unplaced, unless, then, and_then}
use Rattle.refusals.proofs.Answers.{then_gives}
use Rattle.binary32.specs.Number.{finites, pattern_of}
use Rattle.binary32.proofs.Held.{is_finite, pattern_value, pattern_finite}
use Rattle.intervals.specs.Conversion.{fault_of}
use Rattle.matrices.specs.Entries.{refused}
use Rattle.matrices.proofs.EntryNumbers.{Numbers, numbers_of}
use Rattle.sheets.specs.Load.{load_of}
use Rattle.products.specs.Classical.{pattern_cell}
use Rattle.products.specs.Pair.{range_of, range_answer, pair_fault, pair_added}
use Rattle.products.proofs.AddedPair.{faultless}
use Rattle.running.specs.declared.cell.Gauged.{Gauged}
use Rattle.running.specs.declared.Running.{Running}
use Rattle.running.specs.Gauged.{gauged_of}
use Rattle.running.specs.Value.{new_of, sums_of, take_of, exchange_of}
use Rattle.running.specs.History.{Pair, Taken, first_at, second_at, entry_over, taken_with, taken_load, taken, new}
use Rattle.running.proofs.Widening.{NotBelow, fixed_not_below, load_not_below, gauged_fine}
use Rattle.running.proofs.Entries.{over_none, over_more}

-- neither cell of a pair has a fault
abbrev pub Fine : Pair → Type 0
Fine p = (fault_of p.0.0 p.0.1 ≡ done) × (fault_of p.1.0 p.1.1 ≡ done)

-- pair l of a list
abbrev pub pair_at : List Pair → ℕ → Pair
pair_at ps l = get_or ps l ((0, 0), (0, 0))

pub record Stands (v : Running) (t : Taken) : Type 0 where
  pub amounts : v.amounts ≡ t.amounts
  pub not_below : NotBelow t.amounts
  pub pairs : v.pairs ≡ length t.pairs
  pub few : length t.pairs ≤ 32
  pub fine : (l : ℕ) → l < length t.pairs → Fine (pair_at t.pairs l)
  pub range : Range
  pub over : entry_over t.pairs ≡ some range
  pub lower : v.lower ≡ pattern_of range.lower
  pub upper : v.upper ≡ pattern_of range.upper

-- ---- the bounds are numbers, and have the values of the range
module _ (v : Running) (t : Taken) (s : Stands v t) where
  numbers : Numbers s.range
  unfolding entry_over
  numbers = numbers_of classical (length t.pairs) (first_at t.pairs) (second_at t.pairs) s.range s.over

  abbrev range_from : ℕ → ℕ → Range
  range_from l u = range_of (l, u)

  pub range_is : range_of (v.lower, v.upper) ≡ s.range
  range_is =
      ap₂ range_from s.lower s.upper
      ∙ ap₂ (λ l u. record { lower = l; upper = u }) (pattern_value numbers.lower) (pattern_value numbers.upper)

  bounds_finite : finites v.lower v.upper ≡ true
  bounds_finite =
      ap₂ finites s.lower s.upper
      ∙ rw (is_finite (pattern_of s.range.lower) (pattern_finite numbers.lower), is_finite (pattern_of s.range.upper) (pattern_finite numbers.upper))

-- ---- the first value
pub stands_new : Stands new_of (taken new)
unfolding new_of taken encode expo size
stands_new =
    record {
      amounts = refl;
      not_below = fixed_not_below;
      pairs = refl;
      few = omega arith;
      fine = λ l h. absurd (omega arith);
      range = zero_range;
      over = over_none;
      lower = refl;
      upper = refl;
    }

-- ---- the same answer: the same refusal, or a value that stands for what is taken then
abbrev pub Agree : Answer Running → Answer Taken → Type 0
Agree (gives v) (gives t) = Stands v t
Agree (refuses r) (refuses s) = r ≡ s
Agree (gives v) (refuses s) = ⊥
Agree (refuses r) (gives t) = ⊥

module _ (v : Running) (t : Taken) (s : Stands v t) where
  -- ---- a pair of cells without fault
  module _ (x y : ℕ × ℕ) (fx : fault_of x.0 x.1 ≡ done) (fy : fault_of y.0 y.1 ≡ done) where
    abbrev more : List Pair
    more = t.pairs ++ ((x, y) ∷ [])

    -- the sums with it, from those of the value and over the list
    abbrev next : Option Range
    next = add_pair (of binary32) (range_of (v.lower, v.upper)) (pattern_cell x.0 x.1) (pattern_cell y.0 y.1)

    by_value : pair_added (v.lower, v.upper) x y ≡ range_answer next
    unfolding pair_added
    by_value = sym (then_gives (pair_fault (v.lower, v.upper) x y) tt _ _ (faultless (v.lower, v.upper) x y fx fy (bounds_finite v t s)) refl)

    by_list : entry_over more ≡ next
    unfolding bind
    by_list =
        over_more t.pairs (x, y)
        ∙ ap (λ m. bind m λ r. add_pair (of binary32) r (pattern_cell x.0 x.1) (pattern_cell y.0 y.1)) (s.over ∙ ap some (sym (range_is v t s)))

    longer : length more ≡ length t.pairs + 1
    longer = length-append t.pairs ((x, y) ∷ [])

    all_fine : (l : ℕ) → l < length t.pairs + 1 → Fine (pair_at more l)
    all_fine =
        below_more (λ l. Fine (pair_at more l)) (length t.pairs)
        (λ l h. rw (get_or-append t.pairs ((x, y) ∷ []) ((0, 0), (0, 0)) l h) (s.fine l h))
        (rw (get_or-append_seam t.pairs (x, y) [] ((0, 0), (0, 0))) (fx, fy))

    stands_more : (e : Range) → entry_over more ≡ some e → length t.pairs < 32
        → Stands (record { lower = pattern_of e.lower; upper = pattern_of e.upper; pairs = length t.pairs + 1; amounts = t.amounts }) (record { amounts = t.amounts; pairs = more })
    stands_more e o h =
        record {
          amounts = refl;
          not_below = s.not_below;
          pairs = sym longer;
          few = omega (arith, longer);
          fine = λ l k. all_fine l (omega (arith, longer, k));
          range = e;
          over = o;
          lower = refl;
          upper = refl;
        }

  -- ---- a pair as it is gauged

  -- with these sums, and with these pairs
  abbrev with_sums : ℕ × ℕ → Judged Running
  with_sums z = gives (record { lower = z.0; upper = z.1; pairs = length t.pairs + 1; amounts = t.amounts })

  abbrev with_pairs : List Pair → Judged Taken
  with_pairs ps = then (unless (not (refused (entry_over ps))) TooLarge) (gives (record { amounts = t.amounts; pairs = ps }))

  pub agree_take : (a b : Gauged) → Agree (take_of v a b) (taken_with t a b)
  unfolding take_of sums_of taken_with
  agree_take a b =
      rw (s.pairs, s.amounts) (go (ltb (length t.pairs) 32) (gauged_of t.amounts a) (gauged_of t.amounts b) refl refl refl)
    where
      last : (x y : ℕ × ℕ) → fault_of x.0 x.1 ≡ done → fault_of y.0 y.1 ≡ done → length t.pairs < 32 → (m : Option Range)
          → pair_added (v.lower, v.upper) x y ≡ range_answer m → entry_over (t.pairs ++ ((x, y) ∷ [])) ≡ m
          → Agree (unplaced (and_then (pair_added (v.lower, v.upper) x y) with_sums)) (unplaced (with_pairs (t.pairs ++ ((x, y) ∷ []))))
      last x y fx fy h none p q = rw (p, q) refl
      last x y fx fy h (some e) p q = rw (p, q) (stands_more x y fx fy e q h)

      go : (n : Bool) (x y : Judged (ℕ × ℕ)) → ltb (length t.pairs) 32 ≡ n → gauged_of t.amounts a ≡ x → gauged_of t.amounts b ≡ y
          → Agree (unplaced (and_then (then (unless n WrongSize) (and_then x λ z. and_then y λ w. pair_added (v.lower, v.upper) z w)) with_sums))
          (unplaced (then (unless n WrongSize) (and_then x λ z. and_then y λ w. with_pairs (t.pairs ++ ((z, w) ∷ [])))))
      go false x y h p q = refl
      go true (refuses r) y h p q = refl
      go true (gives x) (refuses r) h p q = refl
      go true (gives x) (gives y) h p q =
          let fx = gauged_fine t.amounts a x s.not_below p in
          let fy = gauged_fine t.amounts b y s.not_below q in
          last x y fx fy (ltb-true (length t.pairs) 32 h) (next x y fx fy) (by_value x y fx fy) (by_list x y fx fy)

  -- ---- the amounts of a load
  pub agree_exchange : (load : List ℕ) → Agree (exchange_of v load) (taken_load t load)
  unfolding exchange_of taken_load
  agree_exchange load = go (load_of load) refl
    where
      go : (l : Judged (List ℕ)) → load_of load ≡ l
          → Agree (unplaced (and_then l λ w. gives (record { lower = v.lower; upper = v.upper; pairs = v.pairs; amounts = w }))) (unplaced (and_then l λ w. gives (record { amounts = w; pairs = t.pairs })))
      go (refuses r) e = refl
      go (gives w) e =
          record {
            amounts = refl;
            not_below = load_not_below load w e;
            pairs = s.pairs;
            few = s.few;
            fine = s.fine;
            range = s.range;
            over = s.over;
            lower = s.lower;
            upper = s.upper;
          }
