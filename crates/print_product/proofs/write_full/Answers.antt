-- `write_full` meets its contract: what a write takes of `rest` comes next in the text.
use Rattle.std.proofs.Common.{◌≡◌, ℕ, ◌+◌, ◌-◌, ◌≤◌, List, ◌++◌, arith, length, take, drop, sym, ap, ◌∙◌, subst}
use Rattle.std.proofs.lemmas.List.{take_rest}
use Rattle.std.specs.Io.KnownBytes.{Appends}
use Rattle.std.proofs.KnownBytes.{Appends-trans}
use lib.ListN.{length-drop}
use lib.Seq.{take-add, drop-drop}
use Rattle.print_product.proofs.write_full.Goals as goal

module _ (text rest : List ℕ) (n : ℕ) (behind : rest ≡ drop (length text - length rest) text) (some : n ≤ length rest) where
  abbrev left : List ℕ
  left = take (length rest - n) (drop n rest)

  moved : length text - length rest + n ≡ length text - length left
  moved = omega (arith, ap length behind, length-drop (length text - length rest) text, ap length (take_rest rest n), length-drop n rest)

  still_behind : left ≡ drop (length text - length left) text
  still_behind = take_rest rest n ∙ ap (drop n) behind ∙ drop-drop n (length text - length rest) text ∙ ap (λ k. drop k text) moved

  joined : take (length text - length rest) text ++ take n rest ≡ take (length text - length left) text
  joined = ap (λ r. take (length text - length rest) text ++ take n r) behind ∙ sym (take-add (length text - length rest) n text) ∙ ap (λ k. take k text) moved

pub loop-rest-preserved : goal.loop-rest-preserved
loop-rest-preserved g c =
    let h = c.loop-rest.invariant in
    let text = c.args.text.now in
    let rest = c.loop-rest.rest.now in
    let n = c.in_ok-n in
    (still_behind text rest n.n h.0 n.ensures.bound, subst (Appends _ _) (joined text rest n.n h.0 n.ensures.bound) (Appends-trans _ _ _ _ _ h.1 n.ensures.bytes))
