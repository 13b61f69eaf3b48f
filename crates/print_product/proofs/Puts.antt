-- Laws of text that is put into a buffer piece by piece. Assumes nothing.
use mathlib.Core.Path.{◌≡◌, refl, sym, subst, ap, ap₂, ◌∙◌}
use mathlib.Core.List.{List, [], ◌++◌, append_assoc, append-nil}
use Prim.Native.Nat.{ℕ, ◌+◌, ◌-◌}
use native.Mathlib.Omega.{arith}
use lib.ListN.{length, take, drop, length-append, length-drop}
use lib.Seq.{take_at, drop_at, drop-drop, take_all}
use Rattle.std.proofs.lemmas.List.{drop_all}
use borrow.Rule.Slice.PartMut.{mid_of, put_mid}
use Rattle.print_product.specs.Put.{Put}

-- the same text, written in another way
pub put_as : {t u d out : List ℕ} {n : ℕ} → t ≡ u → Put t d n out → Put u d n out
put_as {d = d} {out = out} {n = n} e p = subst (λ l. Put l d n out) e p

behind : {t d out : List ℕ} {n : ℕ} → Put t d n out → mid_of n (length out - n) out ≡ drop (length t) d
behind {t = t} {d = d} {out = out} {n = n} p =
    take_all (length out - n) (drop n out) (omega (arith, length-drop n out)) ∙ ap₂ drop p.size p.left ∙ drop_at t (drop (length t) d) (length t) refl

-- one piece behind the other
pub put_more : {t u d out part : List ℕ} {n m : ℕ} → Put t d n out → Put u (mid_of n (length out - n) out) m part → Put (t ++ u) d (n + m) (put_mid n (length out - n) out part)
put_more {t = t} {u = u} {d = d} {out = out} {part = part} {n = n} p q =
    let front : take n out ≡ t = ap₂ take p.size p.left ∙ take_at t (drop (length t) d) (length t) refl in
    let none : drop (length out - n) (drop n out) ≡ [] = drop_all (length out - n) (drop n out) (omega (arith, length-drop n out)) in
    let rest : part ≡ u ++ drop (length t + length u) d = q.left ∙ ap (λ l. u ++ drop (length u) l) (behind p) ∙ ap (λ l. u ++ l) (drop-drop (length u) (length t) d) in
    let same : length (t ++ u) ≡ length t + length u = length-append t u in
    record {
      size = omega (arith, p.size, q.size, same);
      left = ap₂ (λ x y. x ++ (part ++ y)) front none ∙ ap (λ l. t ++ l) (append-nil part ∙ rest) ∙ sym (append_assoc t u (drop (length t + length u) d)) ∙ ap (λ j. (t ++ u) ++ drop j d) (sym same);
    }
