-- `load::rise` meets its contract.
use Rattle.std.proofs.Common.{refl, ◌+◌, ◌∙◌, rules}
use borrow.Author.Tests.{tests}
use Rattle.std.proofs.lemmas.Iterator.{YieldsList-from_range}
use Rattle.std.proofs.lemmas.Iterator.Search.{all_from_yields_List}
use Rattle.binary32.specs.Order.{at_most}
use Rattle.sheets.specs.Wear.{amount_in}
use Rattle.sheets.proofs.Loads.{rising_ranged}
use Rattle.sheets.proofs.load.rise.Goals as goal

pub returns : goal.returns
returns c =
    all_from_yields_List (λ i. at_most (amount_in c.args.amounts.now i) (amount_in c.args.amounts.now (i + 1))) _ _ _ c.all.ensures.ran (YieldsList-from_range 0 7 7 refl refl) (λ x b q k. search (rules, tests))
    ∙ rising_ranged c.args.amounts.now
