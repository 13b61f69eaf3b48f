-- `products::converted::converted` meets its contract: each value stands for the method that is called.
use mathlib.Core.Path.{ap, sym}
use Rattle.matrices.specs.Methods.{meant}
use Rattle.products.proofs.Chosen.{last}
use Rattle.products.proofs.WrittenExt.{written_by}
use Rattle.products.proofs.converted.converted.Goals as goal

pub returns-in-Three : goal.returns-in-Three
unfolding meant
returns-in-Three c = let a = c.args in written_by a.of.shape.m a.of.shape.k a.of.shape.n a.of.ma.now a.of.ra.now a.of.mb.now a.of.rb.now _ _ _ _ _ (sym (ap meant c.in-Three.is)) c.by_three.ensures

pub returns-in-Four : goal.returns-in-Four
unfolding meant
returns-in-Four c = let a = c.args in written_by a.of.shape.m a.of.shape.k a.of.shape.n a.of.ma.now a.of.ra.now a.of.mb.now a.of.rb.now _ _ _ _ _ (sym (ap meant c.in-Four.is)) c.by_four.ensures

pub returns-in-Five : goal.returns-in-Five
unfolding meant
returns-in-Five c = let a = c.args in written_by a.of.shape.m a.of.shape.k a.of.shape.n a.of.ma.now a.of.ra.now a.of.mb.now a.of.rb.now _ _ _ _ _ (sym (ap meant c.in-Five.is)) c.by_five.ensures

pub returns-in_default : goal.returns-in_default
unfolding meant
returns-in_default c =
    let a = c.args in
    let seven = last a.by c.requires.0 c.in_default.not-Three c.in_default.not-Four c.in_default.not-Five in
    written_by a.of.shape.m a.of.shape.k a.of.shape.n a.of.ma.now a.of.ra.now a.of.mb.now a.of.rb.now _ _ _ _ _ (sym (ap meant seven)) c.by_seven.ensures
