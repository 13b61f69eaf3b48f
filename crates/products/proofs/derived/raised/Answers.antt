-- `products::derived::raised` meets its contract: one test that is computed over the table's 33 entries.
use mathlib.Core.List.{List, [], ◌∷◌}
use Prim.Native.Nat.{ℕ}
use lib.ListN.{get_or}
use borrow.Author.Rules.{rules}
use Rattle.binary32.specs.Number.{value_of}
use Rattle.rounding.specs.Pattern.{val}
use Rattle.algebra.proofs.Table.{at}
use Rattle.products.proofs.Raised.{right, right_held}
use Rattle.products.proofs.derived.raised.Goals as goal

numbers : List ℕ
numbers =
    0x34000000 ∷ 0x34400000 ∷ 0x34800000 ∷ 0x34A00000 ∷ 0x34C00000 ∷ 0x34E00000 ∷ 0x35000000 ∷ 0x35100000 ∷ 0x35200000 ∷ 0x35300000 ∷ 0x35400000 ∷
    0x35500000 ∷ 0x35600000 ∷ 0x35700000 ∷ 0x35800000 ∷ 0x35880000 ∷ 0x35900000 ∷ 0x35980000 ∷ 0x35A00000 ∷ 0x35A80000 ∷ 0x35B00000 ∷ 0x35B80000 ∷
    0x35C00000 ∷ 0x35C80000 ∷ 0x35D00000 ∷ 0x35D80000 ∷ 0x35E00000 ∷ 0x35E80000 ∷ 0x35F00000 ∷ 0x35F80000 ∷ 0x36000000 ∷ 0x36040000 ∷ 0x36080000 ∷ []

pub returns : goal.returns
unfolding numbers right value_of val
returns c = right_held c.args.k (get_or numbers c.args.k 0) (at right numbers tt c.args.k (search rules))
