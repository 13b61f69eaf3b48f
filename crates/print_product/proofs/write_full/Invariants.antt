-- What was written is the front of text, and `rest` is what stands behind it.
use Rattle.std.proofs.Common.{◌≡◌, length, ◌-◌, take, drop}
use Rattle.std.specs.Io.KnownBytes.{Appends}
use Rattle.print_product.proofs.write_full.Given as goal

abbrev pub invariant-loop-rest : goal.invariant-loop-rest
invariant-loop-rest g l = (l.rest ≡ drop (length l.text - length l.rest) l.text) × Appends (g.W.Write.contents l.initial.output) (g.W.Write.contents l.output) (take (length l.text - length l.rest) l.text)

abbrev pub decreases-loop-rest : goal.decreases-loop-rest
decreases-loop-rest g l = length l.rest
