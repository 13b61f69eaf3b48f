-- A running entry's value in a lent slice: the numbers of a value are read back as it, and histories of calls go on from slice to slice. Assumes nothing.
use mathlib.Core.Path.{◌≡◌, refl, sym, ap, subst, ◌∙◌}
use mathlib.Core.List.{List, [], ◌∷◌, ◌++◌}
use Prim.Native.Nat.{ℕ, ◌≤◌}
use native.Mathlib.Omega.{arith}
use lib.ListN.{length, drop, length-append}
use borrow.Author.Tests.{le-leb}
use Rattle.refusals.specs.Answer.{Answer, gives, refuses}
use Rattle.refusals.proofs.Answers.{gives_injective, next_tells, then_tells, placed_tells}
use Rattle.sheets.specs.Wear.{fixed_amounts}
use Rattle.sheets.specs.Load.{patterns_of, load_fault, load_of}
use Rattle.running.specs.declared.cell.Gauged.{Gauged}
use Rattle.running.specs.declared.Running.{Running}
use Rattle.running.specs.Value.{new_of, sums_of, take_of, exchange_of, or_same}
use Rattle.running.specs.History.{History, new, take, exchange, carried}
use Rattle.running.proofs.Histories.{shows_entry}
use Rattle.coupling.specs.RunningValue.{eight_from, words_of, value_in, in_slice, start_in, take_in, amounts_in, words_after, HoldsAfter, Begins, GoesOn}

-- ---- eight amounts, and the numbers of a value

-- what holds of any eight numbers in a list holds of a list of eight
eight : (P : List ℕ → Type 0) → ((a b c d e f g h : ℕ) → P (a ∷ b ∷ c ∷ d ∷ e ∷ f ∷ g ∷ h ∷ [])) → (l : List ℕ) → length l ≡ 8 → P l
eight P p (a ∷ b ∷ c ∷ d ∷ e ∷ f ∷ g ∷ h ∷ []) n = p a b c d e f g h
eight P p [] n = absurd (omega arith)
eight P p (a ∷ []) n = absurd (omega arith)
eight P p (a ∷ b ∷ []) n = absurd (omega arith)
eight P p (a ∷ b ∷ c ∷ []) n = absurd (omega arith)
eight P p (a ∷ b ∷ c ∷ d ∷ []) n = absurd (omega arith)
eight P p (a ∷ b ∷ c ∷ d ∷ e ∷ []) n = absurd (omega arith)
eight P p (a ∷ b ∷ c ∷ d ∷ e ∷ f ∷ []) n = absurd (omega arith)
eight P p (a ∷ b ∷ c ∷ d ∷ e ∷ f ∷ g ∷ []) n = absurd (omega arith)
eight P p (a ∷ b ∷ c ∷ d ∷ e ∷ f ∷ g ∷ h ∷ i ∷ l) n = absurd (omega arith)

abbrev with_amounts : Running → List ℕ → Running
with_amounts v l = record { lower = v.lower; upper = v.upper; pairs = v.pairs; amounts = l }

words_long : (v : Running) (rest : List ℕ) → 11 ≤ length (words_of v ++ rest)
words_long v rest = omega (arith, length-append (words_of v) rest)

module _ (v : Running) (n : length v.amounts ≡ 8) where
  -- in front of other numbers
  value_back : (rest : List ℕ) → value_in (words_of v ++ rest) ≡ v
  value_back rest =
      eight (λ l. with_amounts v (eight_from l 0) ≡ with_amounts v l)
      (λ a b c d e f g h. refl) v.amounts n

  -- where calls carried the value on, they did so in the slice
  pub holds_after : (h : History) (rest : List ℕ) → v ≡ carried h → HoldsAfter h (words_of v ++ rest)
  holds_after h rest e =
      let k = value_back rest ∙ e in
      record { long = words_long v rest; value = k; shows = shows_entry (value_in (words_of v ++ rest)) h k }

-- ---- a slice that is long enough is not refused
in_slice_is : (d : List ℕ) (n : Answer Running) → 11 ≤ length d → in_slice d n ≡ n
in_slice_is d n h = rw (le-leb 11 (length d) h)

-- ---- a start
pub start_begins : (d : List ℕ) → Begins d (words_after (start_in d) d)
unfolding start_in new_of carried fixed_amounts
start_begins d h = subst (λ m. HoldsAfter new (words_after m d)) (sym (in_slice_is d (gives new_of) h)) (holds_after new_of refl new (drop 11 d) refl)

-- ---- a call whose answer n has eight amounts, if any, and which carries each history of the value on to `next`
module _ (next : History → History) (d : List ℕ) (n : Answer Running) (eights : (v : Running) → n ≡ gives v → length v.amounts ≡ 8)
    (carries : (h : History) → value_in d ≡ carried h → carried (next h) ≡ or_same n (value_in d)) where
  goes_on : GoesOn next d (words_after (in_slice d n) d)
  goes_on h H = subst (λ m. HoldsAfter (next h) (words_after m d)) (sym (in_slice_is d n H.long)) (go n refl)
    where
      go : (m : Answer Running) → n ≡ m → HoldsAfter (next h) (words_after m d)
      go (gives v) e = holds_after v (eights v e) (next h) (drop 11 d) (sym (carries h H.value ∙ ap (λ m. or_same m (value_in d)) e))
      go (refuses r) e =
          let k = sym (carries h H.value ∙ ap (λ m. or_same m (value_in d)) e) in
          record { long = H.long; value = k; shows = shows_entry (value_in d) (next h) k }

-- a pair of cells
pub take_goes_on : (d : List ℕ) (a b : Gauged) → GoesOn (λ h. take h a b) d (words_after (take_in d a b) d)
unfolding take_in carried take_of
take_goes_on d a b =
    goes_on (λ h. take h a b) d (take_of (value_in d) a b)
    (λ v e. subst (λ (w : Running). length w.amounts ≡ 8) (gives_injective (next_tells (sums_of (value_in d) a b) _ v (placed_tells _ _ _ _ v e)).2) refl)
    (λ h e. ap (λ w. or_same (take_of w a b) w) (sym e))

-- the amounts of a load
pub amounts_go_on : (d load : List ℕ) → GoesOn (λ h. exchange h load) d (words_after (amounts_in d load) d)
unfolding amounts_in carried exchange_of load_of patterns_of
amounts_go_on d load =
    goes_on (λ h. exchange h load) d (exchange_of (value_in d) load)
    (λ v e.
    let t = next_tells (load_of load) _ v (placed_tells _ _ _ _ v e) in
    let l = gives_injective (then_tells (load_fault load) (gives (patterns_of load)) t.0 t.1).1 in
    subst (λ (w : Running). length w.amounts ≡ 8) (gives_injective t.2) (subst (λ (l : List ℕ). length l ≡ 8) l refl))
    (λ h e. ap (λ w. or_same (exchange_of w load) w) (sym e))
