use mathlib.Core.Path.{◌≡◌, refl, ap}
use native.Mathlib.Numerals.{add-one}
use native.Mathlib.Omega.{arith}
use lib.Seq.{paste-suc}
use lib.ListN.{length}
use Rattle.sheets.proofs.Fronts.{put_ends}
use Rattle.sheets.proofs.records.put_record.Goals as goal

pub loop-j-preserved : goal.loop-j-preserved
loop-j-preserved c =
    let h = c.loop-j in
    let a = c.args in
    let sixteen : length c.bytes-bytes.result ≡ 16 = ap length c.bytes-bytes.ensures in
    rw (h.invariant, add-one h.j) (paste-suc a.out.now a.at c.bytes-bytes.result h.j 0 (omega arith) (omega (arith, sixteen)))

pub returns : goal.returns
returns c =
    let h = c.loop-j in
    let a = c.args in
    put_ends a.out.now _ c.bytes-bytes.result _ a.at h.j h.invariant (omega arith) c.bytes-bytes.ensures refl
