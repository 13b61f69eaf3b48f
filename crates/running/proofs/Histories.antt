-- After any calls the value stands for the pairs taken: what it shows is the entry by method 1 over them, which encloses, and its answers are those of the
-- pairs taken.
use mathlib.Core.Path.{◌≡◌, refl, sym, ap, ap₂, subst, ◌∙◌}
use mathlib.Core.List.{List}
use Prim.Native.Nat.{ℕ}
use lib.ListN.{length}
use Rattle.rounding.specs.Format.{binary32, units}
use Rattle.enclosure.specs.Methods.{classical}
use Rattle.enclosure.specs.Demand.{Encloses}
use Rattle.enclosure.proofs.Demand.{binary32_encloses}
use Rattle.refusals.specs.Answer.{Answer, gives, refuses, done, then}
use Rattle.matrices.proofs.Keeping.{fine_valid}
use Rattle.products.specs.Pair.{range_answer}
use Rattle.running.specs.declared.cell.Gauged.{Gauged}
use Rattle.running.specs.declared.Running.{Running}
use Rattle.running.specs.Value.{take_of, exchange_of, show_of, or_same}
use Rattle.running.specs.History.{History, new, take, exchange, carried, Pair, first_at, second_at, entry_over, Taken, taken_with, taken_load, taken, ShowsAfter, AnswersAfter, ShowsEntry}
use Rattle.running.proofs.Standing.{Stands, Agree, range_is, stands_new, agree_take, agree_exchange}

-- the same answer on both sides leaves a value that stands for what is taken
left : (x : Answer Running) (y : Answer Taken) (v : Running) (t : Taken) → Agree x y → Stands v t → Stands (or_same x v) (or_same y t)
left (gives w) (gives u) v t a s = a
left (refuses r) (refuses q) v t a s = s
left (gives w) (refuses q) v t a s = absurd a
left (refuses r) (gives u) v t a s = absurd a

same_answer : (x : Answer Running) (y : Answer Taken) → Agree x y → then x done ≡ then y done
same_answer (gives w) (gives u) a = refl
same_answer (refuses r) (refuses q) a = ap refuses a
same_answer (gives w) (refuses q) a = absurd a
same_answer (refuses r) (gives u) a = absurd a

pub stands : (h : History) → Stands (carried h) (taken h)
unfolding carried taken
stands new = stands_new
stands (take h a b) = left (take_of (carried h) a b) (taken_with (taken h) a b) (carried h) (taken h) (agree_take (carried h) (taken h) (stands h) a b) (stands h)
stands (exchange h load) = left (exchange_of (carried h) load) (taken_load (taken h) load) (carried h) (taken h) (agree_exchange (carried h) (taken h) (stands h) load) (stands h)

-- ---- what is shown
module _ (h : History) where
  abbrev ps : List Pair
  ps = (taken h).pairs

  encloses : Encloses (units binary32) (length ps) (first_at ps) (second_at ps) (stands h).range
  unfolding entry_over
  encloses =
      let s = stands h in
      binary32_encloses classical (length ps) (first_at ps) (second_at ps) s.range s.few
      (λ l k. fine_valid _ _ (s.fine l k).0) (λ l k. fine_valid _ _ (s.fine l k).1) s.over

  pub shows : ShowsAfter h (show_of (carried h))
  unfolding show_of
  shows =
      let s = stands h in
      record {
        pairs = s.pairs;
        range = ap range_answer s.over ∙ ap₂ (λ (l u : ℕ). gives (l, u)) (sym s.lower) (sym s.upper);
        encloses = subst (Encloses (units binary32) (length ps) (first_at ps) (second_at ps)) (sym (range_is (carried h) (taken h) s)) encloses;
      }

-- ---- of any value, whatever calls carried it on
pub shows_entry : (v : Running) → ShowsEntry v (show_of v)
shows_entry v h e = subst (λ w. ShowsAfter h (show_of w)) (sym e) (shows h)

pub answers_after : (v : Running) (a b : Gauged) → AnswersAfter v a b (then (take_of v a b) done)
answers_after v a b h e =
    ap (λ w. then (take_of w a b) done) e ∙ same_answer (take_of (carried h) a b) (taken_with (taken h) a b) (agree_take (carried h) (taken h) (stands h) a b)
