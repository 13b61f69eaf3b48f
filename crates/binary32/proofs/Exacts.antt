-- The exact value of an operation on two partial results, from the exact value of their parts; and the answer with its refusals.
use mathlib.Core.Path.{◌≡◌, refl, sym, ap, ap₂, ◌∙◌}
use mathlib.Core.Bool.{Bool, true, false, cond}
use mathlib.Core.Logic.{◌⊎◌, inl, inr}
use mathlib.Core.Option.{Option, none, some, bind}
use Prim.Native.Nat.{ℕ, ◌<◌}
use lib.IntN.{ℤ}
use Rattle.rounding.specs.Format.{binary32}
use Rattle.rounding.specs.Rounding.{up, down, near}
use Rattle.refusals.specs.declared.reason.Reason.TheVariants.{NotFinite, TooLarge}
use Rattle.refusals.specs.declared.Refusal.{Refusal}
use Rattle.refusals.specs.Answer.{Answer, Judged, gives, refuses, refuse, unplaced}
use Rattle.binary32.specs.declared.parts.Parts.{Parts}
use Rattle.binary32.specs.declared.funnel.Ways.{Ways}
use Rattle.std.specs.Prelude.{Some, None}
use Rattle.binary32.specs.Number.{value_of, finite, finites, held, hold}
use Rattle.binary32.specs.Operations.{Way, on₂, with₂, answer_of, answer, checked_of}
use Rattle.binary32.specs.Steps.{of, Decoded, Same, Rounds}
use Rattle.binary32.specs.Directions.{DirectionLaws}
use Rattle.binary32.proofs.Held.{Fits, is_finite, pattern_finite, finites_first, finites_second, held_finite, held_none, with_some}

-- ---- an operation on two partial results: F in units of 1 / D, where both are numbers
pub rounds_some : (D : ℕ) (F : ℤ → ℤ → ℤ) (m n : Option ℤ) (x y : Parts) {r : Parts} → m ≡ some (of x) → n ≡ some (of y) → Same D (F (of x) (of y)) r
    → Rounds (λ way. on₂ (λ u v. way binary32 D (F u v)) m n) (Some r)
unfolding bind
rounds_some D F m n x y em en s = record { downs = s.downs ∙ each down; ups = s.ups ∙ each up; nears = s.nears ∙ each near; safe = s.small }
  where
    each : (way : Way) → way binary32 D (F (of x) (of y)) ≡ on₂ (λ u v. way binary32 D (F u v)) m n
    each way = sym (ap₂ (on₂ (λ u v. way binary32 D (F u v))) em en)

-- none, where one of them is none
pub on_none : (op : ℤ → ℤ → Option ℤ) (m n : Option ℤ) → (m ≡ none) ⊎ (n ≡ none) → none ≡ on₂ op m n
unfolding bind
on_none op m n (inl e) = sym (ap (λ t. on₂ op t n) e)
on_none op none n (inr e) = refl
on_none op (some u) n (inr e) = sym (ap (λ t. on₂ op (some u) t) e)

pub rounds_none : (op : Way → ℤ → ℤ → Option ℤ) (m n : Option ℤ) → (m ≡ none) ⊎ (n ≡ none) → Rounds (λ way. on₂ (op way) m n) None
rounds_none op m n h = record { downs = on_none (op down) m n h; ups = on_none (op up) m n h; nears = on_none (op near) m n h; safe = tt }

-- of two patterns
pub held_decoded : (p : ℕ) {x : Parts} → finite p ≡ true → Decoded p x → held p ≡ some (of x)
held_decoded p t d = held_finite p t ∙ ap some (sym d.value)

pub held_either : (a b : ℕ) → finites a b ≡ false → (held a ≡ none) ⊎ (held b ≡ none)
held_either a b e = go (finite a) refl
  where
    go : (t : Bool) → finite a ≡ t → (held a ≡ none) ⊎ (held b ≡ none)
    go false f = inl (held_none a f)
    go true f = inr (held_none b (sym (ap (λ t. cond t (finite b) false) f) ∙ e))

pub rounds_finite : (D : ℕ) (F : ℤ → ℤ → ℤ) (a b : ℕ) {x y r : Parts} → finites a b ≡ true → Decoded a x → Decoded b y → Same D (F (of x) (of y)) r
    → Rounds (λ way. with₂ (λ u v. way binary32 D (F u v)) a b) (Some r)
unfolding with₂
rounds_finite D F a b {x} {y} t d e s =
    rounds_some D F (held a) (held b) x y (held_decoded a (finites_first a b t) d) (held_decoded b (finites_second a b t) e) s

-- ---- the answer, from a result that holds a number or none
pub checked_is : (op : ℤ → ℤ → Option ℤ) (a b z : ℕ) → finite z ≡ false → Fits (op (value_of a) (value_of b))
    → checked_of a b (hold z (with₂ op a b)) ≡ answer op a b
unfolding checked_of answer Fits
checked_is op a b z f n = go (finites a b) refl
  where
    told : (m : Option ℤ) → Fits m → cond (finite (hold z m)) (gives (hold z m)) (refuses TooLarge) ≡ answer_of m
    told none k = ap (λ t. cond t (gives z) (refuses TooLarge)) f
    told (some v) k = ap (λ t. cond t (gives (hold z (some v))) (refuses TooLarge)) (is_finite (hold z (some v)) (pattern_finite (k v refl)))

    go : (t : Bool) → finites a b ≡ t
        → cond t (cond (finite (hold z (with₂ op a b))) (gives (hold z (with₂ op a b))) (refuses TooLarge)) (refuses NotFinite)
        ≡ cond t (answer_of (op (value_of a) (value_of b))) (refuses NotFinite)
    go true e = ap (λ m. cond (finite (hold z m)) (gives (hold z m)) (refuses TooLarge)) (with_some op a b e) ∙ told (op (value_of a) (value_of b)) n
    go false e = refl

-- the same in one direction, of the whole number F x y in units of 1 / D
pub answered : {way : Way} {picked : Ways → ℤ} {z below above : ℕ} → DirectionLaws way picked z below above
    → (D : ℕ) (F : ℤ → ℤ → ℤ) (a b : ℕ) {p : ℕ} {r : Judged ℕ} → 0 < D → r ≡ checked_of a b p → p ≡ hold z (with₂ (λ x y. way binary32 D (F x y)) a b)
    → r ≡ answer (λ x y. way binary32 D (F x y)) a b
unfolding Fits
answered {z} laws D F a b d e f = e ∙ ap (checked_of a b) f ∙ checked_is _ a b z laws.outside (λ v. laws.numbers D _ v d)

-- a refusal of an operation names no matrix and no cell: its reason is all of it
pub answer_number : (op : ℤ → ℤ → Option ℤ) (a b : ℕ) (r : Refusal) → refuses r ≡ unplaced (answer op a b) → refuse r.reason ≡ unplaced (answer op a b)
answer_number op a b r e = ap again e ∙ go (answer op a b)
  where
    again : Answer ℕ → Answer ℕ
    again (gives p) = gives p
    again (refuses x) = refuse x.reason

    go : (m : Judged ℕ) → again (unplaced m) ≡ unplaced m
    go (gives p) = refl
    go (refuses n) = refl
