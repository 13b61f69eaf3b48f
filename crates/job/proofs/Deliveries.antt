-- The sheet that a job has written encloses. Assumes nothing.
use mathlib.Core.Path.{◌≡◌, sym, subst}
use mathlib.Core.List.{List}
use Prim.Native.Nat.{ℕ, ◌≤◌, ◌<◌}
use lib.ListN.{take}
use Rattle.rounding.specs.Format.{binary32, units}
use Rattle.enclosure.specs.Demand.{Kept}
use Rattle.enclosure.specs.Fraction.{In}
use Rattle.enclosure.specs.Methods.{Range}
use Rattle.refusals.specs.declared.Refusal.{Refusal}
use Rattle.refusals.specs.Answer.{Answer, gives, refuses}
use Rattle.refusals.proofs.Answers.{gives_injective, then_tells, naming_tells, next_tells}
use Rattle.sheets.specs.Layout.{columns_of}
use Rattle.sheets.specs.Writing.{write_of}
use Rattle.sheets.proofs.Rooms.{length_small}
use Rattle.matrices.specs.Matrix.{cell_at}
use Rattle.matrices.specs.Checks.{check_method, chosen}
use Rattle.job.specs.Factor.{Factor, matrix_in, read_as}
use Rattle.job.specs.Fold.{product_in, step_of, fold_from, sheets_product}
use Rattle.job.specs.Delivery.{written_of, out_of, BackOf}
use Rattle.job.specs.Job.{job_product}
use Rattle.job.specs.Train.{sheets_in, train_product}
use Rattle.job.specs.Demand.{cell_in, Delivered, JobKeeps}
use Rattle.job.specs.TrainDemand.{Fractions, PickedFrom, Carried, TrainKeeps}
use Rattle.job.proofs.Tells.{read_tells, Stepped, step_tells}
use Rattle.job.proofs.Trains.{train_tells}
use Rattle.job.proofs.Writing.{Delivers}
use Rattle.job.proofs.Backs.{Back, back}
use Rattle.job.proofs.Keeping.{step_keeps, product_keeps, product_encloses}

-- ---- a writing that is not refused: the product F, and the sheet that reads back as it
record Wrote (A : Answer Factor) (room k : ℕ) : Type 0 where
  F : Factor
  product : A ≡ gives F
  answer : write_of F.rows F.columns F.lowers F.uppers room ≡ gives k

written_tells : (n : ℕ) (A : Answer Factor) (room k : ℕ) → gives k ≡ written_of n A room → Wrote A room k
unfolding written_of
written_tells n A room k e =
    let t = next_tells A _ k (sym e) in
    record { F = t.0; product = t.1; answer = naming_tells n _ k t.2 }

pub written_small : (n : ℕ) (A : Answer Factor) (room k : ℕ) → gives k ≡ written_of n A room → k ≤ 16400
written_small n A room k e =
    let w = written_tells n A room k e in
    length_small w.F.rows w.F.columns w.F.lowers w.F.uppers room k w.answer

reads_back : (A : Answer Factor) (room k : ℕ) (w : Wrote A room k) (out : List ℕ) → BackOf A (gives k) out → Back w.F (take k out)
unfolding BackOf
reads_back A room k w out t = back w.F room k w.answer out (rw w.product at t)

-- ---- a job whose product is P keeps K, where K holds of every sheet that reads back as P
module _ (n room : ℕ) (P : Answer Factor) (K : Answer ℕ → List ℕ → Type 0) (given : (F : Factor) (k : ℕ) (out : List ℕ) → P ≡ gives F → Back F (take k out) → K (gives k) out)
    (none : (x : Refusal) (out : List ℕ) → K (refuses x) out) where
  keeps : (r : Answer ℕ) (out : List ℕ) → r ≡ written_of n P room → BackOf P r out → K r out
  keeps (gives k) out e t =
      let w = written_tells n P room k e in
      given w.F k out w.product (reads_back P room k w out t)
  keeps (refuses x) out e t = none x out

  -- the code's product A is P
  pub ends : (A : Answer Factor) (r : Answer ℕ) (d out : List ℕ) → A ≡ P → Delivers n A room r d out → (r ≡ written_of n P room) × ((out ≡ out_of P r d) × K r out)
  ends A r d out e t =
      let z = subst (λ B. Delivers n B room r d out) e t in
      (z.0, (z.1.0, keeps r out z.0 z.1.1))

-- ---- the sheet job
job_delivers : (method : ℕ) (a b s : List ℕ) (F : Factor) → job_product method a b ≡ gives F → Back F s → Delivered method a b s
unfolding job_product sheets_product fold_from
job_delivers method a b s F e k =
    let t = next_tells (read_as 1 a) _ F (then_tells (check_method method) _ F e).1 in
    let w = read_tells 1 a t.0 t.1 in
    let u = next_tells (step_of method 3 2 t.0 b) (λ Y. gives Y) F t.2 in
    let step : Stepped method (matrix_in a) F b =
    subst (λ X. Stepped method X F b) w.matrix (subst (λ Z. Stepped method t.0 Z b) (gives_injective u.2) (step_tells method 3 2 t.0 b u.0 u.1)) in
    let m = step_keeps step in
    let z : Back (product_in method (matrix_in a) (matrix_in b)) s = subst (λ Z. Back Z s) step.matrix k in
    record {
      first = w.answer;
      second = m.reads;
      inner = m.fits;
      reads = z.answer;
      keeps = λ i j hi hj.
          subst (λ r. Kept (chosen method) (columns_of a) (cell_in (matrix_in a) i) (λ l. cell_in (matrix_in b) l j) r) (sym (z.ranges i j hi hj)) (m.keeps i j hi hj);
    }

pub job_given : (method : ℕ) (a b : List ℕ) (F : Factor) (k : ℕ) (out : List ℕ) → job_product method a b ≡ gives F → Back F (take k out) → JobKeeps method a b (gives k) out
unfolding JobKeeps
job_given method a b F k out e h = job_delivers method a b (take k out) F e h

pub job_none : (method : ℕ) (a b : List ℕ) (x : Refusal) (out : List ℕ) → JobKeeps method a b (refuses x) out
unfolding JobKeeps
job_none method a b x out = tt

-- ---- a train
picked_back : (F : Factor) (s : List ℕ) (x : Fractions) → Back F s → PickedFrom F x → PickedFrom (matrix_in s) x
unfolding cell_at
picked_back F s x k h i hi j hj =
    let p : i < F.rows = subst (λ c. i < c) k.rows hi in
    let q : j < F.columns = subst (λ c. j < c) k.columns hj in
    subst (λ (r : Range). In (units binary32) r.lower r.upper (x i j)) (sym (k.ranges i j p q)) (h i p j q)

carried : (method : ℕ) (ss : List (List ℕ)) (s : List ℕ) (F : Factor) → sheets_product method 9 ss ≡ gives F → Back F s → Carried method ss s
carried method ss s F e k =
    record {
      steps = product_keeps method 9 ss F e;
      last = F;
      product = e;
      reads = k.answer;
      ranges = k.ranges;
      encloses = λ picks h. picked_back F s _ k (product_encloses method 9 ss F e picks h);
    }

pub train_given : (method count : ℕ) (s : List ℕ) (F : Factor) (k : ℕ) (out : List ℕ) → train_product method count s ≡ gives F → Back F (take k out) → TrainKeeps method count s (gives k) out
unfolding TrainKeeps
train_given method count s F k out e h = carried method (sheets_in count s) (take k out) F (train_tells method count s F e) h

pub train_none : (method count : ℕ) (s : List ℕ) (x : Refusal) (out : List ℕ) → TrainKeeps method count s (refuses x) out
unfolding TrainKeeps
train_none method count s x out = tt
