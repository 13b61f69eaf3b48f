-- `products::rounded::rounded` meets its contract: 24 digits where the exponent is usual.
use mathlib.Core.Path.{◌≡◌, sym, ◌∙◌}
use mathlib.Core.Bool.{Bool, true, false, cond}
use Prim.Native.Nat.{ℕ, ◌≤◌, ◌<◌}
use native.Mathlib.Omega.{arith}
use lib.Dec.{ltb}
use Rattle.unpacked.specs.Exact.{Usual}
use Rattle.unpacked.proofs.Ranges.{range_yes}
use Rattle.products.proofs.rounded.rounded.Goals as goal

usual : (e : ℕ) (b : Bool) → b ≡ cond (ltb e 926) false (ltb e 1179) → b ≡ true → Usual e
usual e b h t = range_yes e 926 1179 (sym h ∙ t)

within : (e : ℕ) → e < 1179 → e ≤ 1307
within e h = omega arith

beyond : (e : ℕ) → e < 1179 → 1307 < e → ⊥
beyond e h k = omega arith

pub returns-then-is_usual : goal.returns-then-is_usual
returns-then-is_usual g c =
    let u = usual c.args.p.exp _ c.is_usual.ensures c.if-is_usual.true in
    record {
      number = λ X i. g.met.D.Short.laws.usual c.requires u.0 (within c.args.p.exp u.1) c.shortened.ensures i u.1;
      none = λ l. absurd (beyond c.args.p.exp u.1 l);
    }
