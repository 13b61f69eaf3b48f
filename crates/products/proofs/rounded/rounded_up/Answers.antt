-- `products::rounded::rounded_up` meets its contract: the product with the other sign, rounded down.
use Rattle.unpacked.proofs.RoundedProducts.{rounded_turned}
use Rattle.products.proofs.rounded.rounded_up.Goals as goal

pub returns : goal.returns
returns c = rounded_turned c.turned.ensures c.rounded.ensures
