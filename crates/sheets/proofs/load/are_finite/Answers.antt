-- `load::are_finite` meets its contract.
use Rattle.std.proofs.Common.{◌∙◌, rules}
use borrow.Author.Tests.{tests}
use Rattle.std.proofs.lemmas.Iterator.{YieldsList-from_slice}
use Rattle.std.proofs.lemmas.Iterator.Search.{all_from_yields_List}
use Rattle.binary32.specs.Number.{finite}
use Rattle.sheets.proofs.Loads.{finite_listed}
use Rattle.sheets.proofs.load.are_finite.Goals as goal

pub returns : goal.returns
returns c =
    let a = c.args.amounts.now in
    all_from_yields_List finite _ _ _ c.all.ensures.ran (YieldsList-from_slice a (search rules)) (λ x b q k. search (rules, tests)) ∙ finite_listed a (search rules)
