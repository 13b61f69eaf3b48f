-- The pairs of a row of unpacked numbers and a column as contracts see them. Definitions only, for the contracts of private functions.
use Rattle.products.specs.declared.row.Pairs.{Pairs as Lent}
use Rattle.products.specs.CentreSize.{Pairs}

abbrev pub pairs_of : Lent → Pairs
pairs_of x = record { k = x.k; n = x.n; j = x.j; row = x.row.now; column = x.column.now }
