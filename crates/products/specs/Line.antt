-- The pairs of a row and a column as contracts see them. Definitions only, for the contracts of private functions.
use Rattle.products.specs.declared.operands.Line.{Line as Lent}
use Rattle.products.specs.Continued.{Line}

abbrev pub line_of : Lent → Line
line_of x = record { k = x.k; n = x.n; i = x.i; j = x.j; row = x.row.now; column = x.column.now }
