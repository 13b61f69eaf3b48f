-- A list that is filled from the front: below c it holds f, from c on what it held before. What its cells are, how long it is, and which values count.
use mathlib.Core.Path.{◌≡◌, refl, sym, ap, ap₂, subst, ◌∙◌}
use mathlib.Core.List.{List, [], ◌∷◌, ◌++◌}
use Prim.Native.Nat.{ℕ, zero, suc, ◌+◌, ◌-◌, ◌≤◌, ◌<◌}
use native.Mathlib.Numerals.{add-one}
use native.Mathlib.Omega.{arith}
use borrow.Author.Count.{below_more}
use lib.ListN.{length, get_or, take, drop, set, length-set, length-append, length-drop, take-append-drop, get_or-append}
use lib.Seq.{take-suc-set, drop-set-lt, drop-drop, get_or-append_seam}
use Rattle.matrices.specs.Lists.{tabulate, front}

pub record Filled (c : ℕ) (f : ℕ → ℕ) (d out : List ℕ) : Type 0 where
  pub long : length out ≡ length d
  pub head : take c out ≡ tabulate c f
  pub rest : drop c out ≡ drop c d

pub filled_none : (f : ℕ → ℕ) (d : List ℕ) → Filled 0 f d d
unfolding tabulate
filled_none f d = record { long = refl; head = refl; rest = refl }

drop_more : (c : ℕ) (xs ys : List ℕ) → drop c xs ≡ drop c ys → drop (suc c) xs ≡ drop (suc c) ys
drop_more c xs ys e =
    let s : c + 1 ≡ suc c = add-one c in
    rw (← s, ← drop-drop 1 c xs, ← drop-drop 1 c ys) (ap (λ (l : List ℕ). drop 1 l) e)

-- one cell more
pub filled_more : (c : ℕ) (f : ℕ → ℕ) (d out : List ℕ) (v : ℕ) → c < length d → v ≡ f c → Filled c f d out → Filled (c + 1) f d (set out c v)
unfolding tabulate
filled_more c f d out v h e w =
    rw (add-one c)
    record {
      long = simp length-set w.long;
      head = take-suc-set out c v (omega (arith, w.long)) ∙ rw (w.head, e);
      rest = drop-set-lt (suc c) out c v (omega arith) ∙ drop_more c out d w.rest;
    }

-- from a start at which `mid` is filled on `d`
pub filled_from : (p c : ℕ) (f : ℕ → ℕ) (d mid out : List ℕ) → p ≤ c → Filled p f d mid → Filled c f mid out → Filled c f d out
filled_from p c f d mid out h u w = record { long = w.long ∙ u.long; head = w.head; rest = w.rest ∙ further }
  where
    further : drop c mid ≡ drop c d
    further =
        let s : p + (c - p) ≡ c = omega arith in
        subst (λ (t : ℕ). drop t mid ≡ drop t d) s (rw (← drop-drop (c - p) p mid, ← drop-drop (c - p) p d) (ap (λ (l : List ℕ). drop (c - p) l) u.rest))

-- all of it
pub filled_is : (c : ℕ) (f : ℕ → ℕ) (d out : List ℕ) → Filled c f d out → out ≡ front c f d
filled_is c f d out w = sym (take-append-drop c out) ∙ rw (w.head, w.rest)

pub tabulate_length : (c : ℕ) (f : ℕ → ℕ) → length (tabulate c f) ≡ c
unfolding tabulate
tabulate_length zero f = refl
tabulate_length (suc c) f = simp (length-append, tabulate_length c f) (omega arith)

-- ---- the cells of such a list
pub get_d_tabulate : (f : ℕ → ℕ) (n c : ℕ) → c < n → get_or (tabulate n f) c 0 ≡ f c
unfolding tabulate
get_d_tabulate f zero c h = absurd (omega arith)
get_d_tabulate f (suc n) c h =
    below_more (λ a. get_or (tabulate n f ++ (f n ∷ [])) a 0 ≡ f a) n
    (λ a t. get_or-append (tabulate n f) (f n ∷ []) 0 a (omega (arith, tabulate_length n f)) ∙ get_d_tabulate f n a t)
    (subst (λ l. get_or (tabulate n f ++ (f n ∷ [])) l 0 ≡ f n) (tabulate_length n f) (get_or-append_seam (tabulate n f) (f n) [] 0)) c (omega arith)

pub get_d_front : (f : ℕ → ℕ) (n : ℕ) (d : List ℕ) (c : ℕ) → c < n → get_or (front n f d) c 0 ≡ f c
get_d_front f n d c h = get_or-append (tabulate n f) (drop n d) 0 c (omega (arith, tabulate_length n f)) ∙ get_d_tabulate f n c h

pub length_front : (f : ℕ → ℕ) (n : ℕ) (d : List ℕ) → n ≤ length d → length (front n f d) ≡ length d
length_front f n d h = simp (length-append, tabulate_length n f, length-drop) (omega arith)

-- ---- values below n only count
tabulate_ext : (f g : ℕ → ℕ) (n : ℕ) → ((c : ℕ) → c < n → f c ≡ g c) → tabulate n f ≡ tabulate n g
unfolding tabulate
tabulate_ext f g zero e = refl
tabulate_ext f g (suc n) e =
    ap₂ (λ (s : List ℕ) (t : ℕ). s ++ (t ∷ [])) (tabulate_ext f g n (λ c h. e c (omega arith))) (e n (omega arith))

pub front_ext : (f g : ℕ → ℕ) (n : ℕ) (d : List ℕ) → ((c : ℕ) → c < n → f c ≡ g c) → front n f d ≡ front n g d
front_ext f g n d e = ap (λ (s : List ℕ). s ++ drop n d) (tabulate_ext f g n e)
