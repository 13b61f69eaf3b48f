-- What a product leaves on each way out: refused by a check, by method 1, and by methods 3, 4, 5 and 7.
use Rattle.std.specs.Prelude.{Some, None}
use mathlib.Core.Path.{◌≡◌, refl, sym, ap, subst, ◌∙◌}
use mathlib.Core.Bool.{Bool, true, false, cond}
use mathlib.Core.List.{List, ◌++◌}
use mathlib.Core.Option.{Option}
use Prim.Native.Nat.{ℕ, ◌+◌, ◌-◌, ◌*◌, ◌/◌, ◌%◌, ◌≤◌, ◌<◌}
use native.Mathlib.Nat.{mod-lt, div-lt_iff_lt-mul}
use native.Mathlib.Omega.{arith}
use lib.Dec.{ltb}
use lib.ListN.{drop, replicate}
use lib.Seq.{drop-drop, drop_at}
use borrow.Author.Tests.{ltb-true, ltb-false, eq-eqb, ne_eqb}
use Rattle.enclosure.specs.Methods.{Method, Range, classical}
use Rattle.refusals.specs.declared.reason.Reason.TheVariants.{TooLarge}
use Rattle.refusals.specs.declared.Refusal.{Refusal}
use Rattle.refusals.specs.Refusal.{of_cell}
use Rattle.refusals.specs.Answer.{Answer, refuses, done}
use Rattle.intervals.specs.Slices.{zeros}
use Rattle.matrices.specs.Lists.{tabulate, front}
use Rattle.matrices.specs.Matrix.{mid_at, rad_at}
use Rattle.products.specs.MidRad.{entry_from}
use Rattle.matrices.specs.Entries.{entry_at, refused, lower_of, upper_of, stop_of}
use Rattle.products.specs.Written.{Found, place_of, Written}
use Rattle.matrices.specs.Checks.{Given, chosen, check_method, check_shapes, check_of}
use Rattle.matrices.specs.Methods.{method_answer}
use Rattle.matrices.proofs.MethodLaws.{refused_method}
use Rattle.refusals.proofs.Answers.{then_refuses}
use Rattle.matrices.specs.Product.{Left, entries, cells, stop, product_of, result_after, work_after}
use Rattle.products.specs.Written.{InReach, Finished, answer_at, cleared_at}
use Rattle.matrices.proofs.Firsts.{first_le}
use Rattle.matrices.proofs.Fronts.{tabulate_length}
use Rattle.products.proofs.EntryExt.{ByMidRad}
use Rattle.products.proofs.Chosen.{chosen_1}
use Rattle.products.proofs.MidRads.{Converted, entries_from}
use Rattle.products.proofs.WrittenExt.{written_ext}

-- clearing forgets what was written in front
zeros_front : (n c : ℕ) (f : ℕ → ℕ) (d : List ℕ) → c ≤ n → zeros n (front c f d) ≡ zeros n d
zeros_front n c f d h = ap (λ (l : List ℕ). replicate n 0 ++ l) rest
  where
    rest : drop n (front c f d) ≡ drop n d
    rest =
        let s : c + (n - c) ≡ n = omega arith in
        let w : drop c (front c f d) ≡ drop c d = drop_at (tabulate c f) (drop c d) c (tabulate_length c f) in
        subst (λ (t : ℕ). drop t (front c f d) ≡ drop t d) s
        (sym (drop-drop (n - c) c (front c f d)) ∙ ap (λ (l : List ℕ). drop (n - c) l) w ∙ drop-drop (n - c) c d)

stop_le : (E : ℕ → Option Range) (n : ℕ) → stop_of E n ≤ n
unfolding stop_of
stop_le E n = first_le (λ c. refused (E c)) n

-- the place that is told is in reach
pub reached : {E : ℕ → Option Range} {m n : ℕ} {lo up lo' up' : List ℕ} {p : Found} → Written E m n lo up p lo' up' → m ≤ 32 → 1 ≤ n → n ≤ 32 → InReach p
reached {E = E} {m = m} {n = n} w hm hn hk = subst InReach (sym w.place) (go (ltb (stop_of E (m * n)) (m * n)) refl)
  where
    go : (b : Bool) → ltb (stop_of E (m * n)) (m * n) ≡ b → InReach (cond b (Some (record { row = stop_of E (m * n) / n; column = stop_of E (m * n) % n })) None)
    go true t =
        let row : stop_of E (m * n) / n < m = (div-lt_iff_lt-mul hn).1 (ltb-true _ _ t) in
        let column : stop_of E (m * n) % n < n = mod-lt (stop_of E (m * n)) hn in
        (omega arith, omega arith)
    go false t = tt

-- refused by a check
pub left_refused : (g : Given) (z : Answer (Unit {0})) (x : Refusal) (ma ra mb rb lo up : List ℕ) → check_of g ≡ refuses x → z ≡ refuses x → Left g ma ra mb rb lo up z ma ra mb rb lo up
unfolding product_of work_after result_after
left_refused g z x ma ra mb rb lo up e f =
    record { answer = rw (f, e); a_mids = rw e; a_rads = rw e; b_mids = rw e; b_rads = rw e; lowers = rw e; uppers = rw e }

-- refused for its method's number, which is checked first
pub number_refused : (g : Given) (r : Refusal) → refuses r ≡ method_answer g.method → check_of g ≡ refuses r
unfolding check_of check_shapes
number_refused g r e = sym (then_refuses (check_shapes g) _ r (sym (then_refuses (check_method g.method) _ r (sym (refused_method g.method r e)))))

-- accepted by the checks
module _ (g : Given) (ok : check_of g ≡ done) where
  abbrev row : ℕ
  row = stop g / g.b_columns

  abbrev column : ℕ
  column = stop g % g.b_columns

  abbrev place : Found
  place = place_of g.a_rows g.b_columns (stop g)

  -- ---- the entries were written up to the first that is refused, then kept or cleared
  answer_is : (p : Found) (r : Answer (Unit {0})) → p ≡ place → r ≡ answer_at p → r ≡ product_of g
  unfolding product_of
  answer_is p r e f = f ∙ ap answer_at e ∙ rw ok (go (ltb (stop g) (cells g)))
    where
      go : (b : Bool) → answer_at (cond b (Some (record { row = row; column = column })) None) ≡ cond b (refuses (of_cell TooLarge 3 row column)) done
      go true = refl
      go false = refl

  result_is : (bound : Option Range → ℕ) (p : Found) (d d' d'' : List ℕ) → p ≡ place → d' ≡ front (stop g) (λ c. bound (entries g c)) d → d'' ≡ cleared_at p (cells g) d'
      → d'' ≡ result_after g bound d
  unfolding result_after
  result_is bound p d d' d'' e w f =
      f ∙ ap (λ q. cleared_at q (cells g) d') e ∙ ap (λ l. cleared_at place (cells g) l) w ∙ rw ok (go (ltb (stop g) (cells g)) refl)
    where
      h : ℕ → ℕ
      h c = bound (entries g c)

      le : stop g ≤ cells g
      le = stop_le (entries g) (cells g)

      go : (b : Bool) → ltb (stop g) (cells g) ≡ b
          → cleared_at (cond b (Some (record { row = row; column = column })) None) (cells g) (front (stop g) h d) ≡ cond b (zeros (cells g) d) (front (cells g) h d)
      go true t = zeros_front (cells g) (stop g) h d le
      go false t =
          let all : cells g ≤ stop g = ltb-false (stop g) (cells g) t in
          let same : stop g ≡ cells g = omega (arith, le) in
          ap (λ (n : ℕ). front n h d) same

  -- ---- the work cells
  kept_is : (n : ℕ) (f : ℕ → ℕ) (d : List ℕ) → g.method ≡ 1 → d ≡ work_after g n f d
  unfolding work_after
  kept_is n f d e = rw (ok, eq-eqb g.method 1 e)

  converted_is : (n : ℕ) (f : ℕ → ℕ) (d d' : List ℕ) → (g.method ≡ 1 → ⊥) → d' ≡ front n f d → d' ≡ work_after g n f d
  unfolding work_after
  converted_is n f d d' e w = rw (ok, ne_eqb g.method 1 e) w

  -- ---- all of it
  pub left_classical : (ma ra mb rb lo up : List ℕ) (p : Found) (lo' up' : List ℕ) (r : Answer (Unit {0})) (lo'' up'' : List ℕ) → g.method ≡ 1
      → Written (entry_at classical g.a_columns g.b_columns g.A g.B) g.a_rows g.b_columns lo up p lo' up'
      → Finished p (cells g) lo' up' r lo'' up'' → Left g ma ra mb rb lo up r ma ra mb rb lo'' up''
  left_classical ma ra mb rb lo up p lo' up' r lo'' up'' e w f =
      let by : Method → Type 0 = λ (m : Method). Written (entry_at m g.a_columns g.b_columns g.A g.B) g.a_rows g.b_columns lo up p lo' up' in
      let v : Written (entries g) g.a_rows g.b_columns lo up p lo' up' = subst by (chosen_1 g.method e) w in
      record {
        answer = answer_is p r v.place f.answer;
        a_mids = kept_is _ _ ma e;
        a_rads = kept_is _ _ ra e;
        b_mids = kept_is _ _ mb e;
        b_rads = kept_is _ _ rb e;
        lowers = result_is lower_of p lo lo' lo'' v.place v.lowers f.lowers;
        uppers = result_is upper_of p up up' up'' v.place v.uppers f.uppers;
      }

  module _ (ma' ra' mb' rb' : List ℕ) (a : Converted g.A (g.a_rows * g.a_columns) ma' ra') (b : Converted g.B (g.a_columns * g.b_columns) mb' rb') where
    pub left_converted : {x : Method} (ma ra mb rb lo up : List ℕ) (p : Found) (lo' up' : List ℕ) (r : Answer (Unit {0})) (lo'' up'' : List ℕ) → (g.method ≡ 1 → ⊥) → x ≡ chosen g.method → ByMidRad x
        → ma' ≡ front (g.a_rows * g.a_columns) (mid_at g.A) ma → ra' ≡ front (g.a_rows * g.a_columns) (rad_at g.A) ra
        → mb' ≡ front (g.b_rows * g.b_columns) (mid_at g.B) mb → rb' ≡ front (g.b_rows * g.b_columns) (rad_at g.B) rb
        → Written (entry_from x g.a_columns g.b_columns ma' ra' mb' rb') g.a_rows g.b_columns lo up p lo' up'
        → Finished p (cells g) lo' up' r lo'' up'' → Left g ma ra mb rb lo up r ma' ra' mb' rb' lo'' up''
    left_converted {x} ma ra mb rb lo up p lo' up' r lo'' up'' e is c em er fm fr w f =
        let from : Method → Type 0 = λ (m : Method). Written (entry_at m g.a_columns g.b_columns g.A g.B) g.a_rows g.b_columns lo up p lo' up' in
        let v : Written (entries g) g.a_rows g.b_columns lo up p lo' up' =
        subst from is (written_ext (entry_from x g.a_columns g.b_columns ma' ra' mb' rb') (entry_at x g.a_columns g.b_columns g.A g.B) g.a_rows g.b_columns (entries_from g.a_rows g.a_columns g.b_columns a b x c) w) in
        record {
          answer = answer_is p r v.place f.answer;
          a_mids = converted_is _ _ ma ma' e em;
          a_rads = converted_is _ _ ra ra' e er;
          b_mids = converted_is _ _ mb mb' e fm;
          b_rads = converted_is _ _ rb rb' e fr;
          lowers = result_is lower_of p lo lo' lo'' v.place v.lowers f.lowers;
          uppers = result_is upper_of p up up' up'' v.place v.uppers f.uppers;
        }
