-- Laws of digits: they are put in from the right, and how many there are. Assumes nothing.
use mathlib.Core.Path.{◌≡◌, refl, sym, ap, ap₂, ◌∙◌}
use mathlib.Core.Bool.{Bool, true, false, cond}
use mathlib.Core.List.{List, [], ◌∷◌, ◌++◌, append_assoc}
use Prim.Native.Nat.{ℕ, zero, suc, ◌+◌, ◌-◌, ◌/◌, ◌%◌, ◌^◌, ◌≤◌, ◌<◌}
use native.Mathlib.Nat.{pow-suc}
use native.Mathlib.Omega.{arith}
use lib.Dec.{ltb}
use borrow.Author.Tests.{lt-ltb, le-ltb}
use lib.ListN.{length, drop, set, length-append}
use lib.Seq.{drop-cons, lt-length-set, get_or-set_same, drop-set-lt}
use Rattle.print_product.specs.Digits.{digit, digits, digit_count_to, digit_count, decimal, hexadecimal}
use Rattle.print_product.specs.Put.{Put}

-- ---- one digit, and k of them

pub digits_length : (b k n : ℕ) → length (digits b k n) ≡ k
unfolding digits
digits_length b zero n = refl
digits_length b (suc k) n = length-append (digits b k (n / b)) (digit (n % b) ∷ []) ∙ rw (digits_length b k (n / b)) (omega arith)

-- ---- the last digit is put in, what is left stands on its left

pub drop_set : (s : List ℕ) (i v : ℕ) → i < length s → drop i (set s i v) ≡ v ∷ drop (suc i) s
drop_set s i v h =
    drop-cons (set s i v) i 0 (lt-length-set s i v h) ∙ ap₂ ◌∷◌ (get_or-set_same s i v 0 h) (drop-set-lt (suc i) s i v (omega arith))

pub digits_more : (b n i j : ℕ) (s : List ℕ) → i ≡ suc j → i ≤ length s → digits b i n ++ drop i s ≡ digits b j (n / b) ++ drop j (set s j (digit (n % b)))
unfolding digits
digits_more b n i j s e h = rw (e, drop_set s j (digit (n % b)) (omega arith)) (append_assoc (digits b j (n / b)) (digit (n % b) ∷ []) (drop (suc j) s))

-- the loop at its end: the byte e stands behind k digits
pub digits_end : (b k n e rest i : ℕ) (d out : List ℕ) → k < length d → i ≡ 0
    → digits b k n ++ drop k (set d k e) ≡ digits b i rest ++ drop i out → Put (digits b k n ++ (e ∷ [])) d (k + 1) out
unfolding digits
digits_end b k n e rest i d out h z f =
    let D : List ℕ = digits b k n in
    let m : length (D ++ (e ∷ [])) ≡ suc k = length-append D (e ∷ []) ∙ ap (λ x. x + 1) (digits_length b k n) ∙ omega arith in
    let s : D ++ (e ∷ drop (suc k) d) ≡ out = ap (λ l. D ++ l) (sym (drop_set d k e h)) ∙ f ∙ ap (λ j. digits b j rest ++ drop j out) z in
    record { size = omega (arith, m); left = sym s ∙ sym (append_assoc D (e ∷ []) (drop (suc k) d)) ∙ ap (λ j. (D ++ (e ∷ [])) ++ drop j d) (sym m) }

-- ---- how many decimal digits a number has

one_digit : (t n : ℕ) → n < 10 → 1 ≡ digit_count_to t n
unfolding digit_count_to
one_digit zero n h = refl
one_digit (suc t) n h = rw (lt-ltb n 10 h)

one_more : (k t m n : ℕ) → 10 ≤ n → t ≡ suc m → k ≡ digit_count_to m (n / 10) → suc k ≡ digit_count_to t n
unfolding digit_count_to
one_more k t m n h e f = rw (e, le-ltb n 10 h, f)

pub count_one : (n : ℕ) → n < 10 → 1 ≡ digit_count n
count_one n h = one_digit n n h

pub count_two : (n : ℕ) → 10 ≤ n → n < 100 → 2 ≡ digit_count n
count_two n h k = one_more 1 n (n - 1) n h (omega arith) (one_digit (n - 1) (n / 10) (omega arith))

pub count_three : (n : ℕ) → 100 ≤ n → n < 1000 → 3 ≡ digit_count n
count_three n h k =
    one_more 2 n (n - 1) n (omega arith) (omega arith) (one_more 1 (n - 1) (n - 2) (n / 10) (omega arith) (omega arith) (one_digit (n - 2) (n / 10 / 10) (omega arith)))

pub count_four : (n : ℕ) → 1000 ≤ n → n < 10000 → 4 ≡ digit_count n
count_four n h k =
    one_more 3 n (n - 1) n (omega arith) (omega arith) (one_more 2 (n - 1) (n - 2) (n / 10) (omega arith) (omega arith)
    (one_more 1 (n - 2) (n - 3) (n / 10 / 10) (omega arith) (omega arith) (one_digit (n - 3) (n / 10 / 10 / 10) (omega arith))))

pub digit_count_below : (k t n : ℕ) → n < 10 ^ suc k → digit_count_to t n ≤ suc k
unfolding digit_count_to
digit_count_below k zero n h = omega arith
digit_count_below zero (suc t) n h = rw (lt-ltb n 10 (omega arith)) (omega arith)
digit_count_below (suc k) (suc t) n h = go (ltb n 10) (digit_count_below k t (n / 10) (omega (arith, pow-suc 10 (suc k))))
  where
    go : (b : Bool) → digit_count_to t (n / 10) ≤ suc k → cond b 1 (suc (digit_count_to t (n / 10))) ≤ suc (suc k)
    go true p = omega arith
    go false p = omega arith

pub below_ten : (n : ℕ) → n < 10 → digit_count n ≤ 1
below_ten n h = digit_count_below 0 n n h

pub below_hundred : (n : ℕ) → n < 100 → digit_count n ≤ 2
below_hundred n h = digit_count_below 1 n n h

pub below_thousand : (n : ℕ) → n < 1000 → digit_count n ≤ 3
below_thousand n h = digit_count_below 2 n n h

-- ---- fields, with the byte that ends them

pub decimal_length : (n e : ℕ) → length (decimal n ++ (e ∷ [])) ≡ digit_count n + 1
decimal_length n e = length-append (decimal n) (e ∷ []) ∙ ap (λ k. k + 1) (digits_length 10 (digit_count n) n)

pub hexadecimal_length : (p e : ℕ) → length (hexadecimal p ++ (e ∷ [])) ≡ 9
hexadecimal_length p e = length-append (hexadecimal p) (e ∷ []) ∙ ap (λ k. k + 1) (digits_length 16 8 p)
