-- What a line of a script asks: its words, the verb among the five that are calls, and its numbers.
use Rattle.std.specs.Prelude.{ℕ, ◌+◌, ◌*◌, ◌-◌, Bool, true, false, List, [], ◌∷◌, ◌++◌, eqb, leb}
use Rattle.rules.specs.Words.{pick, ◌and◌, ◌or◌}
use Rattle.script.specs.declared.line.Asked.{Asked}
use Rattle.script.specs.declared.line.Asked.TheVariants.{Nothing, NoCall, Start, Step, Begin, Rebalance, Tables}

-- ---- words, apart by spaces and tabs
abbrev pub blank : ℕ → Bool
blank b = eqb b 32 or eqb b 9

-- a word before others; an empty one is none
abbrev pub before : List ℕ → List (List ℕ) → List (List ℕ)
before [] ws = ws
before (b ∷ w) ws = (b ∷ w) ∷ ws

-- the words of a line of which the last word has begun
unfoldable pub words_from : List ℕ → List ℕ → List (List ℕ)
words_from w [] = before w []
words_from w (b ∷ l) = let ended = before w (words_from [] l) in let longer = words_from (w ++ (b ∷ [])) l in pick (blank b) ended longer

abbrev pub words : List ℕ → List (List ℕ)
words l = words_from [] l

-- the same word
unfoldable pub same : List ℕ → List ℕ → Bool
same [] [] = true
same [] (b ∷ v) = false
same (a ∷ w) [] = false
same (a ∷ w) (b ∷ v) = eqb a b and same w v

-- begins with #
abbrev pub comment : List ℕ → Bool
comment [] = false
comment (b ∷ w) = eqb b 35

-- ---- numbers, in decimal, leading zeros allowed, up to 2^64-1
abbrev pub is_digit : ℕ → Bool
is_digit b = leb 48 b and leb b 57

unfoldable pub all_digits : List ℕ → Bool
all_digits [] = true
all_digits (b ∷ w) = is_digit b and all_digits w

unfoldable pub value_from : ℕ → List ℕ → ℕ
value_from v [] = v
value_from v (b ∷ w) = value_from (v * 10 + (b - 48)) w

abbrev pub value : List ℕ → ℕ
value w = value_from 0 w

abbrev pub is_number : List ℕ → Bool
is_number w = all_digits w and leb (value w) 18446744073709551615

unfoldable pub all_numbers : List (List ℕ) → Bool
all_numbers [] = true
all_numbers (w ∷ ws) = is_number w and all_numbers ws

-- ---- the calls, in ASCII
abbrev pub start : List ℕ
start = 115 ∷ 116 ∷ 97 ∷ 114 ∷ 116 ∷ []

abbrev pub step : List ℕ
step = 115 ∷ 116 ∷ 101 ∷ 112 ∷ []

abbrev pub begin : List ℕ
begin = 98 ∷ 101 ∷ 103 ∷ 105 ∷ 110 ∷ []

abbrev pub rebalance : List ℕ
rebalance = 114 ∷ 101 ∷ 98 ∷ 97 ∷ 108 ∷ 97 ∷ 110 ∷ 99 ∷ 101 ∷ []

abbrev pub tables : List ℕ
tables = 116 ∷ 97 ∷ 98 ∷ 108 ∷ 101 ∷ 115 ∷ []

-- a verb and its numbers
unfoldable pub call : List ℕ → List (List ℕ) → Asked
call v [] = pick (same v rebalance) Rebalance (pick (same v tables) Tables NoCall)
call v (a ∷ []) = pick (same v step) (Step (value a)) (pick (same v begin) (Begin (value a)) NoCall)
call v (a ∷ b ∷ []) = NoCall
call v (a ∷ b ∷ c ∷ []) = NoCall
call v (a ∷ b ∷ c ∷ d ∷ []) = NoCall
call v (a ∷ b ∷ c ∷ d ∷ e ∷ []) = pick (same v start) (Start (value a) (value b) (value c) (value d) (value e)) NoCall
call v (a ∷ b ∷ c ∷ d ∷ e ∷ f ∷ ws) = NoCall

abbrev pub asked : List (List ℕ) → Asked
asked [] = Nothing
asked (v ∷ ws) = pick (comment v) Nothing (pick (all_numbers ws) (call v ws) NoCall)

-- a line, without the newline that ends it
abbrev pub meaning : List ℕ → Asked
meaning l = asked (words l)
