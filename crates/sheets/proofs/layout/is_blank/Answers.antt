-- `layout::is_blank` meets its contract.
use Rattle.std.proofs.Common.{◌∙◌, arith, rules, take, drop}
use lib.Dec.{eqb}
use borrow.Author.Tests.{tests}
use Rattle.std.proofs.lemmas.Iterator.{YieldsList-from_slice}
use Rattle.std.proofs.lemmas.Iterator.Search.{all_from_yields_List}
use Rattle.sheets.proofs.Bytes.{blank_listed}
use Rattle.sheets.proofs.layout.is_blank.Goals as goal

pub returns : goal.returns
returns c =
    let a = c.args in
    all_from_yields_List (λ b. eqb b 0) _ _ _ c.all.ensures.ran (YieldsList-from_slice (take a.n (drop a.p a.s.now)) (search rules)) (λ x b q k. search (rules, tests)) ∙ blank_listed a.s.now a.p a.n (omega arith)
