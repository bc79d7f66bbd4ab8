-- A text put in parts is put as a whole.
use Prim.Native.Nat.{ℕ, ◌+◌, ◌≤◌}
use mathlib.Core.Path.{◌≡◌, refl, sym, ap, ◌∙◌}
use mathlib.Core.List.{List, ◌++◌, append_assoc}
use native.Mathlib.Omega.{arith}
use lib.ListN.{length, take, length-append}
use Rattle.script.specs.Puts.{Puts}

pub puts-more : {a b c t u : List ℕ} {n m k : ℕ} → Puts a b n t m → Puts b c m u k → Puts a c n (t ++ u) k
puts-more {a} {b} {c} {t} {u} {n} {m} {k} p q =
    record {
      keeps = q.keeps ∙ p.keeps;
      moves = λ h. go h (p.moves (first h));
      puts = λ h. put h (p.moves (first h));
    }
  where
    first : n + length (t ++ u) ≤ length a → n + length t ≤ length a
    first h = omega (arith, length-append t u)

    second : n + length (t ++ u) ≤ length a → m ≡ n + length t → m + length u ≤ length b
    second h e = let same = p.keeps in omega (arith, length-append t u)

    go : n + length (t ++ u) ≤ length a → m ≡ n + length t → k ≡ n + length (t ++ u)
    go h e = let next = q.moves (second h e) in omega (arith, length-append t u)

    put : n + length (t ++ u) ≤ length a → m ≡ n + length t → take k c ≡ take n a ++ (t ++ u)
    put h e = q.puts (second h e) ∙ ap (λ (x : List ℕ). x ++ u) (p.puts (first h)) ∙ append_assoc (take n a) t u

pub puts-same : {a b t u : List ℕ} {n m : ℕ} → Puts a b n t m → t ≡ u → Puts a b n u m
puts-same p e = rw (sym e) p
