-- `products::corners::corner_of` meets its contract: the product and its rank.
use mathlib.Core.Path.{◌≡◌, ap, ◌∙◌}
use native.Mathlib.Omega.{arith}
use mir.Syntax.{w64}
use mir.Val.{of_z, to_z}
use borrow.Author.Rules.{rules}
use Rattle.binary32.proofs.Ints.{read, read_small}
use Rattle.unpacked.specs.Corners.{rank_of}
use Rattle.unpacked.proofs.ExactProducts.{exact_worths}
use Rattle.unpacked.proofs.Limits.{number_part}
use Rattle.products.proofs.corners.corner_of.Goals as goal

pub times-p-requires : goal.times-p-requires
times-p-requires c = record { first = number_part c.requires.0; second = number_part c.requires.1 }

-- the significand, read back
sig_read : (c : goal.After-rank) → to_z w64 (of_z w64 c.times-p.result.sig) ≡ c.times-p.result.sig
sig_read c = read_small c.times-p.result.sig (omega (arith, c.times-p.ensures.few))

pub rank-requires : goal.rank-requires
rank-requires c =
    (search rules, omega (arith, c.times-p.ensures.high, (number_part c.requires.0).high, (number_part c.requires.1).high))

pub returns : goal.returns
returns c =
    record {
      exact = exact_worths c.args.x c.args.y c.times-p.result c.requires.0 c.requires.1 c.times-p.ensures;
      rank = read c.rank.result c.rank.type_inv ∙ c.rank.ensures ∙ ap (λ z. rank_of z c.times-p.result.exp) (sig_read c);
    }
