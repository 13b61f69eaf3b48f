-- The entry over a list of pairs: over no pairs it is [0, 0], and one pair more at the end is one step.
use mathlib.Core.Path.{◌≡◌, ap, ap₂, ◌∙◌}
use mathlib.Core.List.{List, [], ◌∷◌, ◌++◌}
use mathlib.Core.Option.{some, bind}
use Prim.Native.Nat.{ℕ}
use native.Mathlib.Numerals.{add-one}
use lib.ListN.{length, length-append, get_or-append}
use lib.Seq.{get_or-append_seam}
use Rattle.rounding.specs.Format.{binary32}
use Rattle.enclosure.specs.Arithmetic.{of}
use Rattle.enclosure.specs.Cell.{Cell}
use Rattle.enclosure.specs.Methods.{classical, entry}
use Rattle.enclosure.specs.RunningSums.{zero_range, add_pair}
use Rattle.enclosure.proofs.RunningSums.{sums_start, sums_more}
use Rattle.products.specs.Classical.{pattern_cell}
use Rattle.products.proofs.EntryExt.{entry_ext}
use Rattle.running.specs.History.{Pair, first_at, second_at, entry_over}

pub over_none : entry_over [] ≡ some zero_range
unfolding entry_over
over_none = sums_start (of binary32) (first_at []) (second_at [])

abbrev cell : ℕ × ℕ → Cell
cell x = pattern_cell x.0 x.1

module _ (ps : List Pair) (p : Pair) where
  abbrev more : List Pair
  more = ps ++ (p ∷ [])

  pub over_more : entry_over more ≡ bind (entry_over ps) λ s. add_pair (of binary32) s (cell p.0) (cell p.1)
  unfolding entry_over
  over_more =
      ap (λ (k : ℕ). entry (of binary32) classical k (first_at more) (second_at more)) (length-append ps (p ∷ []) ∙ add-one (length ps))
      ∙ sums_more (of binary32) (first_at more) (second_at more) (length ps)
      ∙ ap₂ (λ m (q : Pair). bind m λ s. add_pair (of binary32) s (cell q.0) (cell q.1)) same (get_or-append_seam ps p [] none)
    where
      none : Pair
      none = ((0, 0), (0, 0))

      same : entry (of binary32) classical (length ps) (first_at more) (second_at more) ≡ entry (of binary32) classical (length ps) (first_at ps) (second_at ps)
      same =
          entry_ext (of binary32) (length ps) (first_at more) (second_at more) (first_at ps) (second_at ps)
          (λ l h. ap (λ (q : Pair). cell q.0) (get_or-append ps (p ∷ []) none l h)) (λ l h. ap (λ (q : Pair). cell q.1) (get_or-append ps (p ∷ []) none l h)) classical
