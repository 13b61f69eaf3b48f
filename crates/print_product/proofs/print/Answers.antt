-- `print` meets its contract.
use Rattle.print_product.specs.Streams.{Writes}
use Rattle.print_product.proofs.Reading.{read_whole, text_is, whole}
use Rattle.print_product.proofs.print.Goals as goal

pub returns : goal.returns
returns g c =
    let n = c.in_ok-n in
    let k = c.printed-k in
    whole (Writes _ _ c.write_full.result) (g.R.Read.remaining c.args.input.now) _
    (read_whole (g.R.Read.remaining c.args.input.now) _ n.n c.read_full.new.buf _ c.read_full.auto.buf n.ensures.bound (text_is k.result _ _ k.new.out k.ensures.size k.ensures.left) n.ensures.bytes n.ensures.end)
    c.write_full.ensures
