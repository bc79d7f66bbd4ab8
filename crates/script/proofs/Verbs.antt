-- The verbs by their letters, and what the line asks that has one of them.
use Prim.Native.Nat.{ℕ, ◌<◌}
use mathlib.Core.Path.{◌≡◌, refl, sym, ap, ◌∙◌}
use mathlib.Core.Bool.{Bool, true, false, ◌&&◌}
use mathlib.Core.List.{List, [], ◌∷◌, ◌++◌, map}
use native.Mathlib.Omega.{arith}
use lib.Dec.{eqb}
use lib.ListN.{length}
use lib.Pointwise.{pointwise}
use borrow.Author.Tests.{eqb-true}
use Rattle.std.specs.Prelude.{Option, Some, None, nat_eq}
use Rattle.rules.specs.Words.{pick, ◌and◌}
use Rattle.script.specs.declared.line.Asked.{Asked}
use Rattle.script.specs.declared.line.Asked.TheVariants.{NoCall}
use Rattle.script.specs.declared.line.Verb.{Verb}
use Rattle.script.specs.declared.line.Verb.TheVariants.{Start, Step, Begin, Rebalance, Tables}
use Rattle.script.specs.Lines.{same, comment, value, is_number, all_numbers, start, step, begin, rebalance, tables, call, asked}
use Rattle.script.specs.Reading.{name, verb_of, call_of}
use Rattle.script.proofs.Digits.{and-false}
use Rattle.script.proofs.Words.{differ}

-- ---- words that are the same
pub and_left : (a b : Bool) → (a and b) ≡ true → a ≡ true
and_left true b h = refl
and_left false b h = h

pub and_right : (a b : Bool) → (a and b) ≡ true → b ≡ true
and_right true b h = h
and_right false b h = absurd (differ (sym h))

pub same_is : (w v : List ℕ) → same w v ≡ pointwise nat_eq w v
unfolding same
same_is [] [] = refl
same_is [] (b ∷ v) = refl
same_is (a ∷ w) [] = refl
same_is (a ∷ w) (b ∷ v) = go (eqb a b) (same_is w v)
  where
    go : (t : Bool) → same w v ≡ pointwise nat_eq w v → (t and same w v) ≡ (t && pointwise nat_eq w v)
    go true e = e
    go false e = refl

same-equal : (w v : List ℕ) → same w v ≡ true → w ≡ v
unfolding same
same-equal [] [] h = refl
same-equal [] (b ∷ v) h = absurd (differ (sym h))
same-equal (a ∷ w) [] h = absurd (differ (sym h))
same-equal (a ∷ w) (b ∷ v) h = let head = eqb-true a b (and_left (eqb a b) (same w v) h) in let tail = same-equal w v (and_right (eqb a b) (same w v) h) in cc

too-long : (w v : List ℕ) → length v < length w → same w v ≡ false
unfolding same
too-long [] v h = absurd (omega arith)
too-long (a ∷ w) [] h = refl
too-long (a ∷ w) (b ∷ v) h = rw (too-long w v (omega arith)) (and-false (eqb a b))

-- ---- verbs
pub is_named : (w : List ℕ) (v : Verb) → verb_of w ≡ Some v → w ≡ name v
is_named w v h = go (same w start) refl (same w step) refl (same w begin) refl (same w rebalance) refl (same w tables) refl h
  where
    go : (a : Bool) → same w start ≡ a → (b : Bool) → same w step ≡ b → (c : Bool) → same w begin ≡ c → (d : Bool) → same w rebalance ≡ d → (e : Bool) → same w tables ≡ e → pick a (Some Start) (pick b (Some Step) (pick c (Some Begin) (pick d (Some Rebalance) (pick e (Some Tables) None)))) ≡ Some v → w ≡ name v
    go true p b q c r d s e t h = same-equal w start p ∙ (let i : Start ≡ v = cc in ap name i)
    go false p true q c r d s e t h = same-equal w step q ∙ (let i : Step ≡ v = cc in ap name i)
    go false p false q true r d s e t h = same-equal w begin r ∙ (let i : Begin ≡ v = cc in ap name i)
    go false p false q false r true s e t h = same-equal w rebalance s ∙ (let i : Rebalance ≡ v = cc in ap name i)
    go false p false q false r false s true t h = same-equal w tables t ∙ (let i : Tables ≡ v = cc in ap name i)
    go false p false q false r false s false t h = let z : ◌≡◌ {A = Option Verb} None (Some v) = h in cc

-- a word that is no verb asks nothing, whatever stands after it
pub unnamed : (w : List ℕ) (ws : List (List ℕ)) → verb_of w ≡ None → call w ws ≡ NoCall
unfolding call
unnamed w ws h = go (same w start) refl (same w step) refl (same w begin) refl (same w rebalance) refl (same w tables) refl h
  where
    none : same w start ≡ false → same w step ≡ false → same w begin ≡ false → same w rebalance ≡ false → same w tables ≡ false → (ws : List (List ℕ)) → call w ws ≡ NoCall
    none p q r s t [] = rw (s, t)
    none p q r s t (a ∷ []) = rw (q, r)
    none p q r s t (a ∷ b ∷ []) = refl
    none p q r s t (a ∷ b ∷ c ∷ []) = refl
    none p q r s t (a ∷ b ∷ c ∷ d ∷ []) = refl
    none p q r s t (a ∷ b ∷ c ∷ d ∷ e ∷ []) = rw p
    none p q r s t (a ∷ b ∷ c ∷ d ∷ e ∷ f ∷ ws) = refl

    go : (a : Bool) → same w start ≡ a → (b : Bool) → same w step ≡ b → (c : Bool) → same w begin ≡ c → (d : Bool) → same w rebalance ≡ d → (e : Bool) → same w tables ≡ e → pick a (Some Start) (pick b (Some Step) (pick c (Some Begin) (pick d (Some Rebalance) (pick e (Some Tables) None)))) ≡ None → call w ws ≡ NoCall
    go true p b q c r d s e t h = let z : ◌≡◌ {A = Option Verb} (Some Start) None = h in cc
    go false p true q c r d s e t h = let z : ◌≡◌ {A = Option Verb} (Some Step) None = h in cc
    go false p false q true r d s e t h = let z : ◌≡◌ {A = Option Verb} (Some Begin) None = h in cc
    go false p false q false r true s e t h = let z : ◌≡◌ {A = Option Verb} (Some Rebalance) None = h in cc
    go false p false q false r false s true t h = let z : ◌≡◌ {A = Option Verb} (Some Tables) None = h in cc
    go false p false q false r false s false t h = none p q r s t ws

pub long_unnamed : (w : List ℕ) → 9 < length w → verb_of w ≡ None
long_unnamed w h = rw (too-long w start (omega arith), too-long w step (omega arith), too-long w begin (omega arith), too-long w rebalance (omega arith), too-long w tables (omega arith))

-- a call with more numbers than a start has is none
call_long : (w : List ℕ) (ws : List (List ℕ)) → 5 < length ws → call w ws ≡ NoCall
unfolding call
call_long w [] h = absurd (omega arith)
call_long w (a ∷ []) h = absurd (omega arith)
call_long w (a ∷ b ∷ []) h = absurd (omega arith)
call_long w (a ∷ b ∷ c ∷ []) h = absurd (omega arith)
call_long w (a ∷ b ∷ c ∷ d ∷ []) h = absurd (omega arith)
call_long w (a ∷ b ∷ c ∷ d ∷ e ∷ []) h = absurd (omega arith)
call_long w (a ∷ b ∷ c ∷ d ∷ e ∷ f ∷ ws) h = refl

-- what a verb asks with its numbers
call_is : (v : Verb) (ws : List (List ℕ)) → call (name v) ws ≡ call_of v (map value ws)
unfolding call same
call_is Start [] = refl
call_is Start (a ∷ []) = refl
call_is Start (a ∷ b ∷ []) = refl
call_is Start (a ∷ b ∷ c ∷ []) = refl
call_is Start (a ∷ b ∷ c ∷ d ∷ []) = refl
call_is Start (a ∷ b ∷ c ∷ d ∷ e ∷ []) = refl
call_is Start (a ∷ b ∷ c ∷ d ∷ e ∷ f ∷ ws) = refl
call_is Step [] = refl
call_is Step (a ∷ []) = refl
call_is Step (a ∷ b ∷ []) = refl
call_is Step (a ∷ b ∷ c ∷ []) = refl
call_is Step (a ∷ b ∷ c ∷ d ∷ []) = refl
call_is Step (a ∷ b ∷ c ∷ d ∷ e ∷ []) = refl
call_is Step (a ∷ b ∷ c ∷ d ∷ e ∷ f ∷ ws) = refl
call_is Begin [] = refl
call_is Begin (a ∷ []) = refl
call_is Begin (a ∷ b ∷ []) = refl
call_is Begin (a ∷ b ∷ c ∷ []) = refl
call_is Begin (a ∷ b ∷ c ∷ d ∷ []) = refl
call_is Begin (a ∷ b ∷ c ∷ d ∷ e ∷ []) = refl
call_is Begin (a ∷ b ∷ c ∷ d ∷ e ∷ f ∷ ws) = refl
call_is Rebalance [] = refl
call_is Rebalance (a ∷ []) = refl
call_is Rebalance (a ∷ b ∷ []) = refl
call_is Rebalance (a ∷ b ∷ c ∷ []) = refl
call_is Rebalance (a ∷ b ∷ c ∷ d ∷ []) = refl
call_is Rebalance (a ∷ b ∷ c ∷ d ∷ e ∷ []) = refl
call_is Rebalance (a ∷ b ∷ c ∷ d ∷ e ∷ f ∷ ws) = refl
call_is Tables [] = refl
call_is Tables (a ∷ []) = refl
call_is Tables (a ∷ b ∷ []) = refl
call_is Tables (a ∷ b ∷ c ∷ []) = refl
call_is Tables (a ∷ b ∷ c ∷ d ∷ []) = refl
call_is Tables (a ∷ b ∷ c ∷ d ∷ e ∷ []) = refl
call_is Tables (a ∷ b ∷ c ∷ d ∷ e ∷ f ∷ ws) = refl

no-comment : (v : Verb) → comment (name v) ≡ false
no-comment Start = refl
no-comment Step = refl
no-comment Begin = refl
no-comment Rebalance = refl
no-comment Tables = refl

pub asks_verb : (v : Verb) (ws : List (List ℕ)) → all_numbers ws ≡ true → asked (name v ∷ ws) ≡ call_of v (map value ws)
asks_verb v ws g = rw (no-comment v, g) (call_is v ws)

pick-same : (t : Bool) (x : Asked) → pick t x x ≡ x
pick-same true x = refl
pick-same false x = refl

-- ---- lines that are no call
pub asks_unnamed : (w : List ℕ) (ws : List (List ℕ)) → comment w ≡ false → verb_of w ≡ None → asked (w ∷ ws) ≡ NoCall
asks_unnamed w ws c h = rw (c, unnamed w ws h) (pick-same (all_numbers ws) NoCall)

pub asks_long : (v : Verb) (ws : List (List ℕ)) → 5 < length ws → asked (name v ∷ ws) ≡ NoCall
asks_long v ws h = rw (no-comment v, call_long (name v) ws h) (pick-same (all_numbers ws) NoCall)

bad-in : (done : List (List ℕ)) (w : List ℕ) (ws : List (List ℕ)) → is_number w ≡ false → all_numbers (done ++ (w ∷ ws)) ≡ false
unfolding all_numbers
bad-in [] w ws h = rw h
bad-in (d ∷ ds) w ws h = rw (bad-in ds w ws h) (and-false (is_number d))

pub asks_bad : (v : Verb) (done : List (List ℕ)) (w : List ℕ) (ws : List (List ℕ)) → is_number w ≡ false → asked (name v ∷ (done ++ (w ∷ ws))) ≡ NoCall
asks_bad v done w ws h = rw (no-comment v, bad-in done w ws h)
