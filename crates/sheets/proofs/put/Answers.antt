-- `put` meets its contract.
use mathlib.Core.Path.{refl, sym, ◌∙◌}
use native.Mathlib.Omega.{arith}
use Rattle.sheets.proofs.Rooms.{bytes_tell}
use Rattle.sheets.proofs.Outs.{put_done}
use Rattle.sheets.proofs.RoundTrip.{trip_done}
use Rattle.sheets.proofs.put.Goals as goal

pub overflow_sub-total : goal.overflow_sub-total
overflow_sub-total c = omega (arith, (bytes_tell _ _ _ _ _ _ (sym c.check_write.ensures ∙ c.in_ok-n.was)).bytes)

pub overflow_cast-rows : goal.overflow_cast-rows
overflow_cast-rows c = omega (arith, (bytes_tell _ _ _ _ _ _ (sym c.check_write.ensures ∙ c.in_ok-n.was)).sized.rows)

pub overflow_cast-columns : goal.overflow_cast-columns
overflow_cast-columns c = omega (arith, (bytes_tell _ _ _ _ _ _ (sym c.check_write.ensures ∙ c.in_ok-n.was)).sized.columns)

pub overflow_cast-total : goal.overflow_cast-total
overflow_cast-total c = let g = bytes_tell _ _ _ _ _ _ (sym c.check_write.ensures ∙ c.in_ok-n.was) in omega (arith, g.bytes, g.few, g.counted)

pub put_head-requires : goal.put_head-requires
put_head-requires c =
    let g = bytes_tell _ _ _ _ _ _ (sym c.check_write.ensures ∙ c.in_ok-n.was) in
    omega (arith, g.bytes, g.roomy)

pub put_cells-requires : goal.put_cells-requires
put_cells-requires c =
    let g = bytes_tell _ _ _ _ _ _ (sym c.check_write.ensures ∙ c.in_ok-n.was) in
    let z = g.sized in
    (z.some_column, z.rows, z.columns, z.lowers, z.uppers, omega (arith, g.bytes), omega (arith, g.bytes, g.roomy))

pub returns-clause-left : goal.returns-clause-left
returns-clause-left c =
    put_done _ _ _ _ _ _ (bytes_tell _ _ _ _ _ _ (sym c.check_write.ensures ∙ c.in_ok-n.was)) _ _ _ _ refl c.next_of.ensures c.put_head.ensures c.put_cells.ensures

pub returns-clause-trip : goal.returns-clause-trip
returns-clause-trip c =
    trip_done _ _ _ _ _ _ _ (bytes_tell _ _ _ _ _ _ (sym c.check_write.ensures ∙ c.in_ok-n.was)) (returns-clause-left c)
