-- `binary32::funnel::rest` meets its contract: shift and difference fit, and what is left is the remainder (`machine_rest`).
use Prim.Native.Nat.{ℕ, ◌^◌, ◌≤◌, ◌<◌}
use native.Mathlib.Omega.{arith}
use lib.Pow.{pow_mono, pow_pos}
use lib.IntN.{ℤ, pos, nat_abs}
use Rattle.algebra.proofs.Machine.{fits_nat_abs}
use Rattle.rounding.specs.Quotient.{rem}
use Rattle.rounding.proofs.Floor.{rem_lt}
use Rattle.binary32.proofs.Ints.{read_small}
use Rattle.binary32.proofs.Rests.{machine_rest}
use Rattle.binary32.proofs.funnel.rest.Goals as goal

few : (w : ℤ) (n : ℕ) → n ≤ 62 → nat_abs (pos (rem w (2 ^ n))) < 2 ^ 63
few w n h = omega (arith, pow_mono {i = n} {j = 62} h, rem_lt w (2 ^ n) (pow_pos n))

pub overflow_sub-result : goal.overflow_sub-result
overflow_sub-result c =
    let s = c.args in
    rw (machine_rest s.w s.c s.n c.requires.0 c.requires.1 c.requires.2) (fits_nat_abs _ (few s.w s.n c.requires.1))

pub overflow_cast-result-2 : goal.overflow_cast-result-2
overflow_cast-result-2 c =
    let s = c.args in
    let f = few s.w s.n c.requires.1 in
    rw (machine_rest s.w s.c s.n c.requires.0 c.requires.1 c.requires.2, read_small (pos (rem s.w (2 ^ s.n))) f) (tt, record { fits = omega (arith, f) })

pub returns : goal.returns
returns c =
    let s = c.args in
    rw (machine_rest s.w s.c s.n c.requires.0 c.requires.1 c.requires.2, read_small (pos (rem s.w (2 ^ s.n))) (few s.w s.n c.requires.1))
