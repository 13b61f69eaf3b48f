-- The round trip: what `put` writes, `read` reads back as the same matrix by value. Assumes nothing.
use mathlib.Core.Path.{◌≡◌, refl, sym, ap, subst, ◌∙◌}
use mathlib.Core.List.{List, ◌++◌}
use Prim.Native.Nat.{ℕ, ◌+◌, ◌*◌, ◌≤◌, ◌<◌}
use native.Mathlib.Omega.{arith}
use lib.ListN.{length, get_or, drop, replicate, length-replicate}
use Rattle.std.specs.Prelude.{Some, None}
use Rattle.refusals.specs.Answer.{gives, refuses, done}
use Rattle.refusals.proofs.Answers.{then_gives}
use Rattle.intervals.specs.Conversion.{fault_of}
use Rattle.sheets.specs.declared.chain.Cell.{Cell}
use Rattle.sheets.specs.Cell.{HandedIn, canonical_of, handed_of}
use Rattle.sheets.specs.Wear.{fixed_amounts}
use Rattle.sheets.specs.Load.{patterns_of, load_fault, load_of}
use Rattle.sheets.specs.Reading.{sizes, read_by, read_of, cell_lower, cell_upper, slice_by, slice_after, read_with, slice_with, lowers_with, uppers_with}
use Rattle.sheets.specs.Sheet.{cell_at, count_to, sheet_of}
use Rattle.sheets.specs.Writing.{out_after}
use Rattle.sheets.specs.Trip.{canonicals, ReadsBack, TripOf}
use Rattle.sheets.proofs.Rooms.{Granted}
use Rattle.sheets.proofs.Outs.{part_is}
use Rattle.sheets.proofs.Loads.{with_loaded}
use Rattle.sheets.proofs.CellBack.{Tells, handed_tells}
use Rattle.sheets.proofs.RecordBack.{rows_back, columns_back}
use Rattle.sheets.proofs.WalkBack.{read_back, chain_back}
use Rattle.sheets.proofs.MatrixBack.{Holds, put_back}

-- a cell without a fault holds its bounds
holds : (a b : ℕ) → fault_of a b ≡ done → Holds cell_lower (canonical_of a) (handed_of a b) × Holds cell_upper (canonical_of b) (handed_of a b)
holds a b e = go (handed_of a b) (handed_tells a b)
  where
    go : (h : HandedIn) → Tells a b h → Holds cell_lower (canonical_of a) h × Holds cell_upper (canonical_of b) h
    go (gives None) t = t
    go (gives (Some (x, y))) t = (λ n p. t.lower, λ n p. t.upper)
    go (refuses n) t = absurd (t e)

-- ---- for every matrix that a write accepts, slices that are long enough, and any amounts of the classes

module _ (amounts : List ℕ) (rows columns : ℕ) (lo up : List ℕ) {room n : ℕ} (g : Granted rows columns lo up room n) where
  answer_back : (l u : List ℕ) → rows * columns ≤ length l → rows * columns ≤ length u
      → read_by amounts (sheet_of rows columns lo up) (length l) (length u) ≡ gives (sizes rows columns)
  answer_back l u hl hu = read_back amounts rows columns lo up g.sized g.few (length l) (length u) hl hu

  slice_back : (b : Cell → ℕ) (m d : List ℕ) → ((q : ℕ) → q < 0 + rows * columns → Holds b (canonical_of (get_or m q 0)) (cell_at lo up q))
      → slice_by amounts b (sheet_of rows columns lo up) (gives (sizes rows columns)) d ≡ canonicals m (rows * columns) 0 ++ drop (rows * columns) d
  slice_back b m d h =
      let few = g.few in
      rw (rows_back rows columns lo up few, columns_back rows columns lo up few, chain_back amounts rows columns lo up g.sized few)
      (ap (λ (k : List ℕ). k ++ drop (rows * columns) d)
      (put_back b (count_to lo up (rows * columns)) m lo up (rows * columns) 0 (replicate (rows * columns) 0) (length-replicate (rows * columns) 0 ∙ omega arith) refl h))

  lowers_back : (l : List ℕ) → slice_by amounts cell_lower (sheet_of rows columns lo up) (gives (sizes rows columns)) l ≡ canonicals lo (rows * columns) 0 ++ drop (rows * columns) l
  lowers_back l = slice_back cell_lower lo l (λ q h. (holds (get_or lo q 0) (get_or up q 0) (g.fine q (omega arith))).0)

  uppers_back : (u : List ℕ) → slice_by amounts cell_upper (sheet_of rows columns lo up) (gives (sizes rows columns)) u ≡ canonicals up (rows * columns) 0 ++ drop (rows * columns) u
  uppers_back u = slice_back cell_upper up u (λ q h. (holds (get_or lo q 0) (get_or up q 0) (g.fine q (omega arith))).1)

-- by a plain read
pub round_trip : (rows columns : ℕ) (lo up : List ℕ) (room n : ℕ) → Granted rows columns lo up room n
    → (l u : List ℕ) → rows * columns ≤ length l → rows * columns ≤ length u → ReadsBack rows columns lo up (sheet_of rows columns lo up) l u
unfolding read_of slice_after
round_trip rows columns lo up room n g l u hl hu =
    record {
      answer = answer_back fixed_amounts rows columns lo up g l u hl hu;
      lowers = lowers_back fixed_amounts rows columns lo up g l;
      uppers = uppers_back fixed_amounts rows columns lo up g u;
    }

-- by a read with any load that is accepted
pub trip_with : (load : List ℕ) → load_fault load ≡ done → (rows columns : ℕ) (lo up : List ℕ) (room n : ℕ) → Granted rows columns lo up room n
    → (l u : List ℕ) → rows * columns ≤ length l → rows * columns ≤ length u
    → (read_with load (sheet_of rows columns lo up) (length l) (length u) ≡ gives (sizes rows columns))
    × ((lowers_with load (sheet_of rows columns lo up) (gives (sizes rows columns)) l ≡ canonicals lo (rows * columns) 0 ++ drop (rows * columns) l)
    × (uppers_with load (sheet_of rows columns lo up) (gives (sizes rows columns)) u ≡ canonicals up (rows * columns) 0 ++ drop (rows * columns) u))
unfolding load_of slice_with
trip_with load e rows columns lo up room n g l u hl hu =
    let amounts : List ℕ = patterns_of load in (
      sym (with_loaded load (load_of load) refl _ _ _ amounts (sym (then_gives _ tt _ _ e refl))) ∙ answer_back amounts rows columns lo up g l u hl hu,
      (lowers_back amounts rows columns lo up g l, uppers_back amounts rows columns lo up g u),
    )

-- of the buffer that `put` leaves
pub trip_done : (rows columns n : ℕ) (lo up d out : List ℕ) → Granted rows columns lo up (length d) n → out ≡ out_after rows columns lo up (gives n) d
    → TripOf rows columns lo up (gives n) out
trip_done rows columns n lo up d out g f l u hl hu =
    subst (λ (k : List ℕ). ReadsBack rows columns lo up k l u) (sym (part_is rows columns n lo up d g out f)) (round_trip rows columns lo up (length d) n g l u hl hu)
