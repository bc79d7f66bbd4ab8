-- The words of a line, one byte more, and lines whose answer is settled whatever follows.
use Prim.Native.Nat.{ℕ}
use mathlib.Core.Path.{◌≡◌, refl, sym, ap, ◌∙◌}
use mathlib.Core.Bool.{Bool, true, false}
use mathlib.Core.List.{List, [], ◌∷◌, ◌++◌, append_assoc, append-nil}
use native.Mathlib.Omega.{arith}
use Rattle.rules.specs.Words.{pick}
use Rattle.script.specs.declared.line.Asked.{Asked}
use Rattle.script.specs.declared.line.Asked.TheVariants.{Nothing}
use Rattle.script.specs.Lines.{blank, before, words_from, words, meaning}
use Rattle.script.specs.Reading.{filled, OnlyBlanks, Settled}

pub differ : ◌≡◌ {A = Bool} true false → ⊥
differ e = let z : ◌≡◌ {A = ℕ} 0 1 = cc in omega arith

-- ---- one byte more
pub word-grows : (w : List ℕ) (b : ℕ) (l : List ℕ) → blank b ≡ false → words_from w (b ∷ l) ≡ words_from (w ++ (b ∷ [])) l
unfolding words_from
word-grows w b l e = rw e

pub word-ends : (w : List ℕ) (b : ℕ) (l : List ℕ) → blank b ≡ true → words_from w (b ∷ l) ≡ before w (words l)
unfolding words_from
word-ends w b l e = rw e

pub longer : (l : List ℕ) (b : ℕ) (rest : List ℕ) → (l ++ (b ∷ [])) ++ rest ≡ l ++ (b ∷ rest)
longer l b rest = append_assoc l (b ∷ []) rest

-- ---- a line of blanks
pub blank_more : (l : List ℕ) (b : ℕ) → blank b ≡ true → OnlyBlanks l → OnlyBlanks (l ++ (b ∷ []))
blank_more l b e o rest = ap words (longer l b rest) ∙ o (b ∷ rest) ∙ word-ends [] b rest e

pub blank_end : (l : List ℕ) → OnlyBlanks l → meaning l ≡ Nothing
unfolding words_from
blank_end l o = let none : words l ≡ [] = ap words (sym (append-nil l)) ∙ o [] in rw none

-- ---- a line that is settled
pub settled_end : (x : Asked) (l : List ℕ) → Settled x l → meaning l ≡ x
settled_end x l s = ap meaning (sym (append-nil l)) ∙ s []

-- ---- what is so of a word that has begun, however it goes on
pub record Leads (P : List ℕ → Type 0) (ws : List (List ℕ)) : Type 0 where
  pub word : List ℕ
  pub others : List (List ℕ)
  pub leads : ws ≡ word ∷ others
  pub has : P word

module _ (P : List ℕ → Type 0) (more : (w : List ℕ) (b : ℕ) → P w → P (w ++ (b ∷ []))) (begun : (w : List ℕ) → P w → filled w ≡ true) where
  alone : (w : List ℕ) (ws : List (List ℕ)) → P w → filled w ≡ true → Leads P (before w ws)
  alone [] ws p f = absurd (differ (sym f))
  alone (c ∷ w) ws p f = record { word = c ∷ w; others = ws; leads = refl; has = p }

  pub leads-on : (rest w : List ℕ) → P w → Leads P (words_from w rest)
  unfolding words_from
  leads-on [] w p = alone w [] p (begun w p)
  leads-on (b ∷ rest) w p = go (λ v q. leads-on rest v q) (blank b)
    where
      go : ((v : List ℕ) → P v → Leads P (words_from v rest)) → (t : Bool) → Leads P (pick t (before w (words_from [] rest)) (words_from (w ++ (b ∷ [])) rest))
      go next true = alone w (words_from [] rest) p (begun w p)
      go next false = next (w ++ (b ∷ [])) (more w b p)

pub filled_more : (w : List ℕ) (b : ℕ) → filled (w ++ (b ∷ [])) ≡ true
filled_more [] b = refl
filled_more (c ∷ w) b = refl

pub before_filled : (w : List ℕ) (ws : List (List ℕ)) → filled w ≡ true → before w ws ≡ w ∷ ws
before_filled [] ws f = absurd (differ (sym f))
before_filled (c ∷ w) ws f = refl

pub before_more : (w : List ℕ) (ws : List (List ℕ)) → before w ws ≡ before w [] ++ ws
before_more [] ws = refl
before_more (c ∷ w) ws = refl

pub last_word : (w : List ℕ) → words_from w [] ≡ before w []
unfolding words_from
last_word w = refl
