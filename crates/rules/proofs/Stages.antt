-- Going through the stages: what holds at each stage number holds at every number that is one.
use Prim.Native.Nat.{ℕ, suc, ◌≤◌, ◌<◌, suc-le-suc}
use mathlib.Core.Path.{sym, subst}
use native.Mathlib.Nat.{not-suc-le-zero}
use native.Mathlib.Omega.{arith}
use native.Mathlib.Decide.{ℕ_discrete}

-- what holds at m and below it holds below m + 1
pub and_at {ℓ} : (P : ℕ → Type ℓ) (m : ℕ) → P m → ((n : ℕ) → n < m → P n) → (n : ℕ) → n < suc m → P n
and_at P m here below n h = elim (ℕ_discrete n m) [ yes e ↦ subst P (sym e) here | no ne ↦ below n (omega arith) ]

pub none_below {ℓ} : (P : ℕ → Type ℓ) (n : ℕ) → n < 0 → P n
none_below P n h = absurd (not-suc-le-zero h)

-- the stages of a rebalance, 0 to 5
pub rebalance-cases {ℓ} : (P : ℕ → Type ℓ) → P 0 → P 1 → P 2 → P 3 → P 4 → P 5 → (n : ℕ) → n ≤ 5 → P n
rebalance-cases P p0 p1 p2 p3 p4 p5 n h = and_at P 5 p5 (and_at P 4 p4 (and_at P 3 p3 (and_at P 2 p2 (and_at P 1 p1 (and_at P 0 p0 (none_below P)))))) n (suc-le-suc h)

-- the stages of a task, 0 to 23
pub stage_cases {ℓ} :
    (P : ℕ → Type ℓ)
    → P 0
    → P 1
    → P 2
    → P 3
    → P 4
    → P 5
    → P 6
    → P 7
    → P 8
    → P 9
    → P 10
    → P 11
    → P 12
    → P 13
    → P 14
    → P 15
    → P 16
    → P 17
    → P 18
    → P 19
    → P 20
    → P 21
    → P 22
    → P 23
    → (n : ℕ) → n ≤ 23 → P n
stage_cases P p0 p1 p2 p3 p4 p5 p6 p7 p8 p9 p10 p11 p12 p13 p14 p15 p16 p17 p18 p19 p20 p21 p22 p23 n h =
    let b5 : (m : ℕ) → m < 6 → P m = λ m b. rebalance-cases P p0 p1 p2 p3 p4 p5 m (omega arith) in
    let b9 = and_at P 9 p9 (and_at P 8 p8 (and_at P 7 p7 (and_at P 6 p6 b5))) in
    let b14 = and_at P 14 p14 (and_at P 13 p13 (and_at P 12 p12 (and_at P 11 p11 (and_at P 10 p10 b9)))) in
    let b19 = and_at P 19 p19 (and_at P 18 p18 (and_at P 17 p17 (and_at P 16 p16 (and_at P 15 p15 b14)))) in
    and_at P 23 p23 (and_at P 22 p22 (and_at P 21 p21 (and_at P 20 p20 b19))) n (suc-le-suc h)
