-- The width of method 4 over naturals. Z is the sum of the reaches' products, Y that of |mA| × |mB|, X what Z exceeds Y by; XR the sum of the
-- radius's terms and QR the radius; Er, Eu, Ed are the errors of the radius and of the two centres; W the width, Wd the exact one, all but W
-- in 1 / Q of a unit; S and T are the sums of the products and of the sums of the largest magnitudes.
use mathlib.Core.Path.{◌≡◌, ap}
use Prim.Native.Nat.{ℕ, ◌+◌, ◌-◌, ◌*◌, ◌≤◌}
use native.Mathlib.Omega.{arith}
use native.Mathlib.Nat.{mul-le-mul_left, mul-le-mul_right, le_of_mul-le-mul_left}

-- twice the radius, and the errors of the centres
unrounded_width : (P Q k Z Y X XR Er Eu Ed QR : ℕ) → X + Y ≡ Z → QR ≤ XR + Er → 64 * (P * Er) ≤ (130 * k + 64) * XR + 130 * k * (P * Q)
    → 64 * (P * Eu) ≤ (65 * k + 64) * Y + 65 * k * (P * Q) → 64 * (P * Ed) ≤ (65 * k + 64) * Y + 65 * k * (P * Q)
    → P * XR ≤ (P + 1) * X → 260 * k + 128 ≤ P → 1 ≤ k
    → P * (2 * QR + Eu + Ed) ≤ 2 * P * X + (5 * k + 4) * Z + 7 * k * (P * Q)
unrounded_width P Q k Z Y X XR Er Eu Ed QR e h₁ h₂ h₃ h₄ h₅ h₆ h₇ =
    let s : P * ((260 * k + 128) * XR) ≤ P * ((260 * k + 129) * X) = omega (arith, mul-le-mul_left (260 * k + 128) h₅, mul-le-mul_right X h₆) in
    let t : (260 * k + 128) * XR ≤ (260 * k + 129) * X = le_of_mul-le-mul_left s (omega arith) in
    let b : P * QR ≤ P * (XR + Er) = mul-le-mul_left P h₁ in
    omega (arith, mul-le-mul_right X h₇, ap (λ z. k * z) e, ap (λ z. P * z) e)

-- with the rounding of the two ends
rounded_width : (P Q k Z Y X W₀ W : ℕ) → X + Y ≡ Z → P * W₀ ≤ 2 * P * X + (5 * k + 4) * Z + 7 * k * (P * Q) → P * (Q * W) ≤ (P + 1) * W₀ + 2 * Y
    → 5 * k + 4 ≤ P → P * (Q * W) ≤ 2 * P * X + (5 * k + 9) * Z + 7 * k * (P * Q) + 7 * k * Q
rounded_width P Q k Z Y X W₀ W e h₁ h₂ h₃ =
    let s : P * W₀ ≤ P * (2 * X + Z + 7 * k * Q) = omega (arith, mul-le-mul_right Z h₃) in
    let t : W₀ ≤ 2 * X + Z + 7 * k * Q = le_of_mul-le-mul_left s (omega arith) in
    omega arith

-- in terms of the cells as handed in
width_of_cells : (P Q k Z Y X W Wd S T : ℕ) → X + Y ≡ Z → P * (Q * W) ≤ 2 * P * X + (5 * k + 9) * Z + 7 * k * (P * Q) + 7 * k * Q
    → 4 * (P * Z) ≤ 4 * (P * Y) + 3 * (P * Wd) + 28 * S + (6 * P + 8) * T + 4 * (P * k) → P * Z ≤ (P + 5) * S + (P + 2) * T + P * k
    → k ≤ 32 → 4 ≤ Q → 8388608 ≤ P
    → 2 * (P * (Q * W)) ≤ 3 * (P * Wd) + 16 * (k + 4) * S + 8 * (P * T) + 16 * k * (P * Q)
width_of_cells P Q k Z Y X W Wd S T e h₁ h₂ h₃ k≤ Q≥ P≥ =
    let c : 5 * (5 * k + 9) ≤ P = omega arith in
    let two : 2 ≤ P = omega arith in
    let s : P * ((5 * k + 9) * Z) ≤ P * ((5 * k + 10) * S + (5 * k + 9) * (2 * T + k)) =
    omega (arith, mul-le-mul_left (5 * k + 9) h₃, mul-le-mul_right S c, mul-le-mul_left ((5 * k + 9) * T) two) in
    let t : (5 * k + 9) * Z ≤ (5 * k + 10) * S + (5 * k + 9) * (2 * T + k) = le_of_mul-le-mul_left s (omega arith) in
    let d : 20 * k + 44 ≤ 2 * P = omega arith in
    let u : 4 * (P * k) + 10 * (k * k) + 18 * k + 14 * k * Q ≤ 2 * (k * (P * Q)) =
    omega (arith, mul-le-mul_left k k≤, mul-le-mul_left (k * P) Q≥, mul-le-mul_left (k * Q) P≥, mul-le-mul_left k Q≥) in
    omega (arith, mul-le-mul_right T d, ap (λ z. P * z) e)

pub four_steps : (P Q k Z Y XR Er Eu Ed QR W Wd S T : ℕ) → Y ≤ Z → QR ≤ XR + Er → 64 * (P * Er) ≤ (130 * k + 64) * XR + 130 * k * (P * Q)
    → 64 * (P * Eu) ≤ (65 * k + 64) * Y + 65 * k * (P * Q) → 64 * (P * Ed) ≤ (65 * k + 64) * Y + 65 * k * (P * Q)
    → P * XR + (P + 1) * Y ≤ (P + 1) * Z → P * (Q * W) ≤ (P + 1) * (2 * QR + Eu + Ed) + 2 * Y
    → 4 * (P * Z) ≤ 4 * (P * Y) + 3 * (P * Wd) + 28 * S + (6 * P + 8) * T + 4 * (P * k) → P * Z ≤ (P + 5) * S + (P + 2) * T + P * k
    → 1 ≤ k → k ≤ 32 → 4 ≤ Q → 8388608 ≤ P
    → 2 * (P * (Q * W)) ≤ 3 * (P * Wd) + 16 * (k + 4) * S + 8 * (P * T) + 16 * k * (P * Q)
four_steps P Q k Z Y XR Er Eu Ed QR W Wd S T y h₁ h₂ h₃ h₄ h₅ h₆ h₇ h₈ k≥ k≤ Q≥ P≥ =
    let X : ℕ = Z - Y in
    let e : X + Y ≡ Z = omega arith in
    let x : P * XR ≤ (P + 1) * X = omega (arith, ap (λ z. (P + 1) * z) e) in
    let d = unrounded_width P Q k Z Y X XR Er Eu Ed QR e h₁ h₂ h₃ h₄ x (omega arith) k≥ in
    let f = rounded_width P Q k Z Y X (2 * QR + Eu + Ed) W e d h₆ (omega arith) in
    width_of_cells P Q k Z Y X W Wd S T e f h₇ h₈ k≤ Q≥ P≥
