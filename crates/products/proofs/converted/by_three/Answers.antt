-- `products::converted::by_three` meets its contract: the two lists that are lent hold what the entries' function asks for.
use mathlib.Core.Path.{◌∙◌}
use borrow.Author.Rules.{rules}
use Rattle.products.specs.Derived.{outer_of}
use Rattle.products.proofs.Derivations.{fitting, derived, factor_held}
use Rattle.products.proofs.converted.by_three.Goals as goal

pub entries-requires : goal.entries-requires
entries-requires c =
    let z = c.requires in
    ((fitting z, derived _ (λ x y p M e. search rules ∙ factor_held c.raised-c.result c.args.of.shape.k _ _ c.raised-c.ensures) z.b c.derive_all.ensures, derived outer_of (λ x y p M e. search rules) z.b c.derive_all-2.ensures), z.rows, z.columns, z.lowers, z.uppers)
