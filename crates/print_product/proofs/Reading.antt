-- The text for the bytes that were read into the buffer is that for the whole input. Assumes nothing.
use Rattle.std.proofs.Common.{◌≡◌, ℕ, ◌≤◌, ◌<◌, Bool, true, false, List, ◌++◌, Option, None, Some, IfSome, refl, sym, subst, ap, ◌∙◌, append-nil, arith, ltb, length, take, length-take-le, take_at}
use borrow.Author.Tests.{ltb-true, ltb-false}
use Rattle.std.specs.Io.KnownBytes.{Consumes, IsAtEnd}
use Rattle.print_product.specs.Printed.{printed_of}
use Rattle.print_product.proofs.Cuts.{printed_cut}

pub read_whole : (a b : Option (List ℕ)) (n : ℕ) (buf t : List ℕ) → length buf ≡ 32802 → n ≤ length buf → t ≡ printed_of (take n buf)
    → Consumes a b (take n buf) → (n < length buf → IsAtEnd b) → IfSome a (λ s. t ≡ printed_of s)
read_whole None b n buf t l h f p e = tt
read_whole (Some s) None n buf t l h f p e = absurd p
read_whole (Some s) (Some rest) n buf t l h f p e = go (ltb n 32802) refl
  where
    go : (less : Bool) → ltb n 32802 ≡ less → t ≡ printed_of s
    go true q =
        let k : n < length buf = omega (arith, ltb-true n 32802 q) in
        f ∙ ap printed_of (sym (p ∙ ap (λ r. take n buf ++ r) (e k) ∙ append-nil (take n buf)))
    go false q =
        let k : n ≡ 32802 = omega (arith, ltb-false n 32802 q) in
        let m : length (take n buf) ≡ 32802 = length-take-le n buf h ∙ k in
        f ∙ ap printed_of (sym (ap (take 32802) p ∙ take_at (take n buf) rest 32802 m)) ∙ printed_cut s

-- what begins a buffer
pub text_is : (k : ℕ) (t rest out : List ℕ) → k ≡ length t → out ≡ t ++ rest → take k out ≡ t
text_is k t rest out h e = ap (take k) e ∙ take_at t rest k (sym h)

-- what holds of the text t that is written holds of the text for the whole input a
pub whole : (P : List ℕ → Type 0) (a : Option (List ℕ)) (t : List ℕ) → IfSome a (λ s. t ≡ printed_of s) → P t → IfSome a (λ s. P (printed_of s))
whole P None t e p = tt
whole P (Some s) t e p = subst P e p
