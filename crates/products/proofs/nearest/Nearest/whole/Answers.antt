-- `Nearest::whole` meets its contract: a sum that is none has no value.
use mathlib.Core.Path.{sym, ◌∙◌}
use mathlib.Core.Logic.{inl, inr}
use Rattle.products.proofs.Carrying.{holds_none}
use Rattle.products.proofs.nearest.Nearest.whole.Goals.{then-is_none-via-then-is_none, then-is_none-via-else-is_none+then-is_none-2}
use Rattle.products.proofs.nearest.Nearest.whole.Goals as goal

pub returns-then-is_none : goal.returns-then-is_none
returns-then-is_none c m r hm hr = elim c.then-is_none.branch [
  | then-is_none-via-then-is_none w ↦ inl (holds_none m _ hm (sym c.is_none.ensures ∙ w.if-is_none.true))
  | then-is_none-via-else-is_none+then-is_none-2 w ↦ inr (holds_none r _ hr (sym w.is_none-else-is_none.ensures ∙ w.if-is_none-2.true))
]
