-- `Five::finish` meets its contract: the sums over midpoints, then over parts, the radius, and the bounds that they end in.
use mathlib.Core.Path.{◌≡◌, refl, sym, ap, ◌∙◌, subst}
use mathlib.Core.List.{List}
use Prim.Native.Nat.{ℕ, ◌+◌, ◌*◌, ◌<◌}
use Rattle.enclosure.specs.Methods.{five}
use Rattle.products.specs.Running.{HoldsRange}
use lib.IntN.{pos}
use Rattle.unpacked.specs.declared.Number.{Number}
use Rattle.unpacked.specs.Number.{worth, zero_number}
use Rattle.products.specs.Derived.{Derived, outer_of, part_of}
use Rattle.products.specs.MidRad.{Sized, entries_of}
use Rattle.products.specs.Row.{RowUnpacked}
use Rattle.products.specs.Spot.{Spot, spot}
use Rattle.products.proofs.FiveEntry.{Lists, Prepared, mids, parts, outers, five_none, five_holds, mids_paired, parts_paired}
use Rattle.products.proofs.FiveRange.{first_none, second_none, radius_none, range_holds}
use Rattle.products.proofs.five.FiveSteps.finish.Goals as goal

-- what was worked out before
abbrev lists : (xs ps : List Number) (wa pa wb pb : List ℕ) → Lists
lists xs ps wa pa wb pb = record { xs = xs; ps = ps; wa = wa; pa = pa; wb = wb; pb = pb }

prepared : (p : Spot) (q : Lists) (m : ℕ) {lo up : ℕ}
    → Sized m p.k p.n p.ma p.ra p.mb p.rb lo up × Derived outer_of (m * p.k) p.ma p.ra q.wa × Derived part_of (m * p.k) p.ma p.ra q.pa × Derived outer_of (p.k * p.n) p.mb p.rb q.wb × Derived part_of (p.k * p.n) p.mb p.rb q.pb
    → p.i < m → p.j < p.n → RowUnpacked p.k p.i p.ma q.xs × RowUnpacked p.k p.i q.pa q.ps → Prepared p q m lo up
prepared p q m z row column r = record {
  sized = z.0;
  row = row;
  column = column;
  a_outers = z.1;
  a_parts = z.2;
  b_outers = z.3;
  b_parts = z.4;
  mid_row = r.0;
  part_row = r.1;
}

zero_worth : {x : Number} → x ≡ zero_number → worth x ≡ pos 0
unfolding worth
zero_worth e = ap worth e

pub invariant_of-mids : goal.invariant_of-mids
invariant_of-mids c =
    let p = spot c.args.self.of c.args.i c.args.j in
    let q = lists c.args.row.now.mids c.args.row.now.parts c.args.self.wa.now c.args.self.pa.now c.args.self.wb.now c.args.self.pb.now in
    record { paired = mids_paired p q (prepared p q c.args.self.of.shape.m c.requires.0 c.requires.1 c.requires.2 c.requires.3) }

pub returns-in_err-s : goal.returns-in_err-s
returns-in_err-s c =
    let p = spot c.args.self.of c.args.i c.args.j in
    let q = lists c.args.row.now.mids c.args.row.now.parts c.args.self.wa.now c.args.self.pa.now c.args.self.wb.now c.args.self.pb.now in
    let W = prepared p q c.args.self.of.shape.m c.requires.0 c.requires.1 c.requires.2 c.requires.3 in
    let z = c.new.result in
    let zc = zero_worth c.new.ensures.0 in
    let zs = zero_worth c.new.ensures.1 in
    subst (HoldsRange (entries_of five c.args.self.of (c.args.i * c.args.self.of.shape.n + c.args.j))) (sym c.from_residual.ensures)
    (five_none p q W _ refl (first_none (mids p q) (parts p q) (outers p q) z zc zs c.in_err-s.ensures))

pub invariant_of-parts : goal.invariant_of-parts
invariant_of-parts c =
    let p = spot c.args.self.of c.args.i c.args.j in
    let q = lists c.args.row.now.mids c.args.row.now.parts c.args.self.wa.now c.args.self.pa.now c.args.self.wb.now c.args.self.pb.now in
    record { paired = parts_paired p q (prepared p q c.args.self.of.shape.m c.requires.0 c.requires.1 c.requires.2 c.requires.3) }

pub returns-in_err-t : goal.returns-in_err-t
returns-in_err-t c =
    let p = spot c.args.self.of c.args.i c.args.j in
    let q = lists c.args.row.now.mids c.args.row.now.parts c.args.self.wa.now c.args.self.pa.now c.args.self.wb.now c.args.self.pb.now in
    let W = prepared p q c.args.self.of.shape.m c.requires.0 c.requires.1 c.requires.2 c.requires.3 in
    let z = c.new.result in
    let zc = zero_worth c.new.ensures.0 in
    let zs = zero_worth c.new.ensures.1 in
    subst (HoldsRange (entries_of five c.args.self.of (c.args.i * c.args.self.of.shape.n + c.args.j))) (sym c.from_residual-in_err-t.ensures)
    (five_none p q W _ refl (second_none (mids p q) (parts p q) (outers p q) z zc zs c.in_ok-s.s c.in_ok-s.ensures c.in_err-t.ensures))

pub radius-r-requires : goal.radius-r-requires
radius-r-requires c =
    (c.in_ok-t.t.size_number, c.in_ok-t.t.below, c.requires.0.0.inner)

pub returns-then-is_none : goal.returns-then-is_none
returns-then-is_none c =
    let p = spot c.args.self.of c.args.i c.args.j in
    let q = lists c.args.row.now.mids c.args.row.now.parts c.args.self.wa.now c.args.self.pa.now c.args.self.wb.now c.args.self.pb.now in
    let W = prepared p q c.args.self.of.shape.m c.requires.0 c.requires.1 c.requires.2 c.requires.3 in
    let z = c.new.result in
    let zc = zero_worth c.new.ensures.0 in
    let zs = zero_worth c.new.ensures.1 in
    five_none p q W _ refl (radius_none (mids p q) (parts p q) (outers p q) z zc zs c.in_ok-s.s c.in_ok-s.ensures c.in_ok-t.t c.in_ok-t.ensures c.radius-r.result c.radius-r.ensures (sym c.is_none.ensures ∙ c.if-is_none.true))

pub returns : goal.returns
returns c =
    let p = spot c.args.self.of c.args.i c.args.j in
    let q = lists c.args.row.now.mids c.args.row.now.parts c.args.self.wa.now c.args.self.pa.now c.args.self.wb.now c.args.self.pb.now in
    let W = prepared p q c.args.self.of.shape.m c.requires.0 c.requires.1 c.requires.2 c.requires.3 in
    let z = c.new.result in
    let zc = zero_worth c.new.ensures.0 in
    let zs = zero_worth c.new.ensures.1 in
    five_holds p q W _ refl c.ends.result
    (range_holds (mids p q) (parts p q) (outers p q) z zc zs c.in_ok-s.s c.in_ok-s.ensures c.in_ok-t.t c.in_ok-t.ensures c.radius-r.result c.radius-r.ensures c.opposite.result c.ends.result (sym c.is_none.ensures ∙ c.if-is_none.false) c.opposite.ensures c.ends.ensures)
