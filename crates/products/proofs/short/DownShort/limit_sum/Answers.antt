-- `products::short::DownShort::limit_sum` meets its contract: below the largest exponent by `fits_below`.
use mathlib.Core.Path.{sym}
use Rattle.unpacked.proofs.Worths.{fits_below}
use Rattle.unpacked.proofs.Limits.{limit_fits}
use Rattle.products.proofs.short.DownShort.limit_sum.Goals as goal

pub returns-then-x-lt-LARGEST_EXPONENT : goal.returns-then-x-lt-LARGEST_EXPONENT
returns-then-x-lt-LARGEST_EXPONENT c =
    limit_fits c.args.x c.requires.0 (sym (fits_below c.args.x c.requires.0 c.if-x-lt-LARGEST_EXPONENT.true))
