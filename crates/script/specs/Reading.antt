-- What the state knows of the bytes of a line that it has taken.
use Rattle.std.specs.Prelude.{ℕ, ◌≡◌, Bool, true, false, List, [], ◌∷◌, ◌++◌, map, take, Option, Some, None, is_some, unwrap_or}
use Rattle.rules.specs.Words.{pick}
use Rattle.script.specs.declared.line.Asked.{Asked}
use Rattle.script.specs.declared.line.Asked.TheVariants as asks
use Rattle.script.specs.declared.line.Line.{Line}
use Rattle.script.specs.declared.line.Line.TheVariants.{Blank, Remark, NoCall, First, Call}
use Rattle.script.specs.declared.numbers.Numbers.{Numbers}
use Rattle.script.specs.declared.line.Verb.{Verb}
use Rattle.script.specs.declared.line.Verb.TheVariants.{Start, Step, Begin, Rebalance, Tables}
use Rattle.script.specs.declared.word.Word.{Word}
use Rattle.script.specs.Lines.{words_from, words, same, comment, value, is_number, all_numbers, start, step, begin, rebalance, tables, meaning}

abbrev pub letters_of : Word → List ℕ
letters_of w = take w.count w.letters

abbrev pub values_of : Numbers → List ℕ
values_of s = take s.count s.values

-- ---- the verbs
abbrev pub name : Verb → List ℕ
name Start = start
name Step = step
name Begin = begin
name Rebalance = rebalance
name Tables = tables

abbrev pub verb_of : List ℕ → Option Verb
verb_of w =
    pick (same w start) (Some Start)
    (pick (same w step) (Some Step)
    (pick (same w begin) (Some Begin)
    (pick (same w rebalance) (Some Rebalance)
    (pick (same w tables) (Some Tables) None))))

-- what a verb asks with the numbers after it
abbrev pub call_of : Verb → List ℕ → Asked
call_of Start (n ∷ op ∷ k ∷ a ∷ f ∷ []) = asks.Start n op k a f
call_of Step (n ∷ []) = asks.Step n
call_of Begin (k ∷ []) = asks.Begin k
call_of Rebalance [] = asks.Rebalance
call_of Tables [] = asks.Tables
call_of v ns = asks.NoCall

-- ---- what has been read
abbrev pub filled : List ℕ → Bool
filled [] = false
filled (b ∷ w) = true

-- the bytes l are blanks, if there are any
abbrev pub OnlyBlanks : List ℕ → Type 0
OnlyBlanks l = (rest : List ℕ) → words (l ++ rest) ≡ words rest

-- a line that begins with l asks the same whatever follows
abbrev pub Settled : Asked → List ℕ → Type 0
Settled x l = (rest : List ℕ) → meaning (l ++ rest) ≡ x

-- l ends in its first word, which is no remark's
pub record InFirst (w : Word) (l : List ℕ) : Type 0 where
  pub splits : (rest : List ℕ) → words (l ++ rest) ≡ words_from (letters_of w) rest
  pub begun : filled (letters_of w) ≡ true
  pub plain : comment (letters_of w) ≡ false

-- l has the verb and numbers after it: `done` have ended, `word` is the one that has begun, if any
pub record InCall (v : Verb) (s : Numbers) (n : Option ℕ) (l : List ℕ) : Type 0 where
  pub done : List (List ℕ)
  pub word : List ℕ
  pub splits : (rest : List ℕ) → words (l ++ rest) ≡ name v ∷ (done ++ words_from word rest)
  pub numbers : all_numbers done ≡ true
  pub values : map value done ≡ values_of s
  pub begun : filled word ≡ is_some n
  pub number : is_number word ≡ true
  pub value_so_far : value word ≡ unwrap_or n 0

-- the state has taken the bytes of l
abbrev pub Reads : Line → List ℕ → Type 0
Reads Blank l = OnlyBlanks l
Reads Remark l = Settled asks.Nothing l
Reads NoCall l = Settled asks.NoCall l
Reads (First w) l = InFirst w l
Reads (Call v s n) l = InCall v s n l
