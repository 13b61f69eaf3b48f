-- What the sums with a pair tell, and what a pair is answered after any calls. Assumes nothing.
use mathlib.Core.Path.{◌≡◌, ap, ◌∙◌}
use Prim.Native.Nat.{ℕ, ◌≤◌, ◌<◌}
use lib.Dec.{ltb}
use borrow.Author.Tests.{ltb-true, le-ltb}
use Rattle.refusals.specs.declared.reason.Reason.TheVariants.{WrongSize}
use Rattle.refusals.specs.Answer.{Answer, gives, refuses, done, unless, then}
use Rattle.refusals.proofs.Answers.{then_tells, unless_tells}
use Rattle.running.specs.declared.cell.Gauged.{Gauged}
use Rattle.running.specs.declared.Running.{Running}
use Rattle.running.specs.Value.{sums_of, take_of}
use Rattle.running.specs.History.{AnswersAfter}
use Rattle.running.proofs.Histories.{answers_after}

module _ (v : Running) (a b : Gauged) where
  -- a value with 32 pairs takes no more
  pub full : 32 ≤ v.pairs → refuses WrongSize ≡ sums_of v a b
  unfolding sums_of
  full h = rw (le-ltb v.pairs 32 h)

  -- sums that are given have room for one pair more
  pub sums_room : (x : ℕ × ℕ) → sums_of v a b ≡ gives x → v.pairs < 32
  unfolding sums_of
  sums_room x e = ltb-true v.pairs 32 (unless_tells _ _ (then_tells (unless (ltb v.pairs 32) WrongSize) _ x e).0.1)

  -- the answer n to the pair is that of the pairs taken
  pub answers_said : (n : Answer Running) → n ≡ take_of v a b → AnswersAfter v a b (then n done)
  answers_said n e h k = ap (λ x. then x done) e ∙ answers_after v a b h k
