-- What the state knows, one byte more and at the line's end.
use Prim.Native.Nat.{ℕ, ◌+◌, ◌*◌, ◌-◌, ◌^◌, ◌<◌, ◌≤◌}
use mathlib.Core.Logic.{◌⊎◌, inl, inr}
use mathlib.Core.Path.{◌≡◌, refl, sym, ap, ◌∙◌}
use mathlib.Core.Bool.{Bool, true, false}
use mathlib.Core.List.{List, [], ◌∷◌, ◌++◌, append_assoc, append-nil, map}
use native.Mathlib.Omega.{arith}
use lib.Dec.{eqb, leb}
use lib.ListN.{length, length-append}
use borrow.Author.Tests.{le-leb, lt-leb}
use Rattle.std.proofs.lemmas.List.{map-append, length-map}
use Rattle.std.specs.Prelude.{Option, Some, None, is_some, IsSome, unwrap_or, option_to_list}
use Rattle.rules.specs.Words.{◌and◌}
use Rattle.script.specs.declared.line.Asked.TheVariants.{Nothing, NoCall}
use Rattle.script.specs.declared.line.Line.{Line}
use Rattle.script.specs.declared.line.Line.TheVariants.{Blank, Remark}
use Rattle.script.specs.declared.line.Verb.{Verb}
use Rattle.script.specs.declared.numbers.Numbers.{Numbers}
use Rattle.script.specs.declared.word.Word.{Word}
use Rattle.script.specs.Lines.{blank, before, words_from, words, comment, is_digit, all_digits, value_from, value, is_number, all_numbers, asked, meaning}
use Rattle.script.specs.Reading.{letters_of, values_of, name, verb_of, call_of, filled, OnlyBlanks, Settled, InFirst, InCall, Reads}
use Rattle.script.proofs.Digits.{value-snoc, numbers-snoc, number-snoc}
use Rattle.script.proofs.Verbs.{is_named, long_unnamed, asks_verb, asks_unnamed, asks_long, asks_bad}
use Rattle.script.proofs.Words.{differ, word-grows, word-ends, longer, leads-on, filled_more, before_filled, before_more, last_word, blank_end, settled_end}

-- ---- the first word
remark_begins : (l : List ℕ) → OnlyBlanks l → Settled Nothing (l ++ (35 ∷ []))
remark_begins l o rest =
    let first = leads-on (λ (w : List ℕ). comment w ≡ true) (λ w b c. still w b c) (λ w c. some w c) rest (35 ∷ []) refl in
    ap asked (ap words (longer l 35 rest) ∙ o (35 ∷ rest) ∙ word-grows [] 35 rest refl ∙ first.leads) ∙ rw first.has
  where
    still : (w : List ℕ) (b : ℕ) → comment w ≡ true → comment (w ++ (b ∷ [])) ≡ true
    still [] b c = absurd (differ (sym c))
    still (a ∷ w) b c = c

    some : (w : List ℕ) → comment w ≡ true → filled w ≡ true
    some [] c = c
    some (a ∷ w) c = refl

pub remark_from : (l : List ℕ) (b : ℕ) → b ≡ 35 → OnlyBlanks l → Settled Nothing (l ++ (b ∷ []))
remark_from l b e o = rw e (remark_begins l o)

pub word_begins : (l : List ℕ) (b : ℕ) (w : Word) → blank b ≡ false → eqb b 35 ≡ false → letters_of w ≡ b ∷ [] → OnlyBlanks l → InFirst w (l ++ (b ∷ []))
word_begins l b w e c q o =
    record {
      splits = λ rest. ap words (longer l b rest) ∙ o (b ∷ rest) ∙ word-grows [] b rest e ∙ ap (λ (v : List ℕ). words_from v rest) (sym q);
      begun = ap filled q;
      plain = ap comment q ∙ c;
    }

module _ (w : Word) (l : List ℕ) (b : ℕ) (r : InFirst w l) where
  first-grows : blank b ≡ false → (rest : List ℕ) → words ((l ++ (b ∷ [])) ++ rest) ≡ words_from (letters_of w ++ (b ∷ [])) rest
  first-grows e rest = ap words (longer l b rest) ∙ r.splits (b ∷ rest) ∙ word-grows (letters_of w) b rest e

  first-ends : blank b ≡ true → (rest : List ℕ) → words ((l ++ (b ∷ [])) ++ rest) ≡ letters_of w ∷ words rest
  first-ends e rest = ap words (longer l b rest) ∙ r.splits (b ∷ rest) ∙ word-ends (letters_of w) b rest e ∙ before_filled (letters_of w) (words rest) r.begun

  still-plain : (v : List ℕ) → filled v ≡ true → comment v ≡ false → comment (v ++ (b ∷ [])) ≡ false
  still-plain [] f c = absurd (differ (sym f))
  still-plain (a ∷ v) f c = c

  pub word_goes_on : (more : Word) → blank b ≡ false → letters_of more ≡ letters_of w ++ (b ∷ []) → InFirst more (l ++ (b ∷ []))
  word_goes_on more e q =
      record {
        splits = λ rest. first-grows e rest ∙ ap (λ (v : List ℕ). words_from v rest) (sym q);
        begun = ap filled q ∙ filled_more (letters_of w) b;
        plain = ap comment q ∙ still-plain (letters_of w) r.begun r.plain;
      }

  pub word_too_long : blank b ≡ false → 9 ≤ length (letters_of w) → Settled NoCall (l ++ (b ∷ []))
  word_too_long e n rest =
      let first = leads-on (λ (v : List ℕ). (9 < length v) × (comment v ≡ false)) (λ v a p. still v a p) (λ v p. some v p.0) rest (letters_of w ++ (b ∷ [])) (omega (arith, length-append (letters_of w) (b ∷ [])), still-plain (letters_of w) r.begun r.plain) in
      ap asked (first-grows e rest ∙ first.leads) ∙ asks_unnamed first.word first.others first.has.1 (long_unnamed first.word first.has.0)
    where
      some : (v : List ℕ) → 9 < length v → filled v ≡ true
      some [] h = absurd (omega arith)
      some (a ∷ v) h = refl

      still : (v : List ℕ) (a : ℕ) → (9 < length v) × (comment v ≡ false) → (9 < length (v ++ (a ∷ []))) × (comment (v ++ (a ∷ [])) ≡ false)
      still [] a p = let h = p.0 in absurd (omega arith)
      still (x ∷ v) a p = let h = p.0 in (omega (arith, length-append (x ∷ v) (a ∷ [])), p.1)

  pub verb_ends : (v : Verb) (s : Numbers) → blank b ≡ true → verb_of (letters_of w) ≡ Some v → values_of s ≡ [] → InCall v s None (l ++ (b ∷ []))
  unfolding all_numbers all_digits value_from
  verb_ends v s e q z =
      record {
        done = [];
        word = [];
        splits = λ rest. first-ends e rest ∙ ap (λ (x : List ℕ). x ∷ words rest) (is_named (letters_of w) v q);
        numbers = refl;
        values = sym z;
        begun = refl;
        number = refl;
        value_so_far = refl;
      }

  pub no_verb_ends : blank b ≡ true → verb_of (letters_of w) ≡ None → Settled NoCall (l ++ (b ∷ []))
  no_verb_ends e q rest = ap asked (first-ends e rest) ∙ asks_unnamed (letters_of w) (words rest) r.plain q

module _ (w : Word) (l : List ℕ) (r : InFirst w l) where
  first-alone : words l ≡ letters_of w ∷ []
  first-alone = ap words (sym (append-nil l)) ∙ r.splits [] ∙ last_word (letters_of w) ∙ before_filled (letters_of w) [] r.begun

  pub verb_alone : (v : Verb) → verb_of (letters_of w) ≡ Some v → meaning l ≡ call_of v []
  unfolding all_numbers
  verb_alone v q = ap asked (first-alone ∙ ap (λ (x : List ℕ). x ∷ []) (is_named (letters_of w) v q)) ∙ asks_verb v [] refl

  pub no_verb_alone : verb_of (letters_of w) ≡ None → meaning l ≡ NoCall
  no_verb_alone q = ap asked first-alone ∙ asks_unnamed (letters_of w) [] r.plain q

-- ---- the numbers
ended-numbers : (done : List (List ℕ)) (word : List ℕ) → all_numbers done ≡ true → is_number word ≡ true → all_numbers (done ++ before word []) ≡ true
ended-numbers done [] d n = ap all_numbers (append-nil done) ∙ d
ended-numbers done (c ∷ w) d n = numbers-snoc done (c ∷ w) ∙ rw (d, n)

ended-values : (done : List (List ℕ)) (word : List ℕ) (n : Option ℕ) → filled word ≡ is_some n → value word ≡ unwrap_or n 0 → map value (done ++ before word []) ≡ map value done ++ option_to_list n
ended-values done [] None f v = ap (map value) (append-nil done) ∙ sym (append-nil (map value done))
ended-values done [] (Some x) f v = absurd (differ (sym f))
ended-values done (c ∷ w) None f v = absurd (differ f)
ended-values done (c ∷ w) (Some x) f v = map-append value done ((c ∷ w) ∷ []) ∙ ap (λ (y : ℕ). map value done ++ (y ∷ [])) v

is-filled : (n : Option ℕ) (word : List ℕ) → IsSome n → filled word ≡ is_some n → filled word ≡ true
is-filled None word i f = absurd (differ (sym i))
is-filled (Some x) word i f = f

over-five : (done ws : List (List ℕ)) (word : List ℕ) → 5 ≤ length done → filled word ≡ true → 5 < length (done ++ before word ws)
over-five done ws [] h f = absurd (differ (sym f))
over-five done ws (c ∷ w) h f = omega (arith, length-append done ((c ∷ w) ∷ ws))

module _ (v : Verb) (s : Numbers) (n : Option ℕ) (l : List ℕ) (r : InCall v s n l) where
  all-ended : words l ≡ name v ∷ (r.done ++ before r.word [])
  all-ended = ap words (sym (append-nil l)) ∙ r.splits [] ∙ ap (λ (x : List (List ℕ)). name v ∷ (r.done ++ x)) (last_word r.word)

  all-values : (more : Numbers) → values_of more ≡ values_of s ++ option_to_list n → map value (r.done ++ before r.word []) ≡ values_of more
  all-values more q = ended-values r.done r.word n r.begun r.value_so_far ∙ ap (λ (x : List ℕ). x ++ option_to_list n) r.values ∙ sym q

  five-done : 5 ≤ length (values_of s) → 5 ≤ length r.done
  five-done h = let count = ap length (sym r.values) ∙ length-map r.done value in omega arith

  pub call_alone : (more : Numbers) → values_of more ≡ values_of s ++ option_to_list n → meaning l ≡ call_of v (values_of more)
  call_alone more q = ap asked all-ended ∙ asks_verb v (r.done ++ before r.word []) (ended-numbers r.done r.word r.numbers r.number) ∙ ap (call_of v) (all-values more q)

  pub too_many_alone : 5 ≤ length (values_of s) → IsSome n → meaning l ≡ NoCall
  too_many_alone h i = ap asked all-ended ∙ asks_long v (r.done ++ before r.word []) (over-five r.done [] r.word (five-done h) (is-filled n r.word i r.begun))

  module _ (b : ℕ) where
    call-ends : blank b ≡ true → (rest : List ℕ) → words ((l ++ (b ∷ [])) ++ rest) ≡ name v ∷ (r.done ++ before r.word (words rest))
    call-ends e rest = ap words (longer l b rest) ∙ r.splits (b ∷ rest) ∙ ap (λ (x : List (List ℕ)). name v ∷ (r.done ++ x)) (word-ends r.word b rest e)

    call-grows : blank b ≡ false → (rest : List ℕ) → words ((l ++ (b ∷ [])) ++ rest) ≡ name v ∷ (r.done ++ words_from (r.word ++ (b ∷ [])) rest)
    call-grows e rest = ap words (longer l b rest) ∙ r.splits (b ∷ rest) ∙ ap (λ (x : List (List ℕ)). name v ∷ (r.done ++ x)) (word-grows r.word b rest e)

    pub number_ends : (more : Numbers) → blank b ≡ true → values_of more ≡ values_of s ++ option_to_list n → InCall v more None (l ++ (b ∷ []))
    unfolding all_digits value_from
    number_ends more e q =
        record {
          done = r.done ++ before r.word [];
          word = [];
          splits = λ rest. call-ends e rest ∙ ap (λ (x : List (List ℕ)). name v ∷ x) (ap (λ (x : List (List ℕ)). r.done ++ x) (before_more r.word (words rest)) ∙ sym (append_assoc r.done (before r.word []) (words rest)));
          numbers = ended-numbers r.done r.word r.numbers r.number;
          values = all-values more q;
          begun = refl;
          number = refl;
          value_so_far = refl;
        }

    pub too_many : blank b ≡ true → 5 ≤ length (values_of s) → IsSome n → Settled NoCall (l ++ (b ∷ []))
    too_many e h i rest = ap asked (call-ends e rest) ∙ asks_long v (r.done ++ before r.word (words rest)) (over-five r.done (words rest) r.word (five-done h) (is-filled n r.word i r.begun))

    module _ (x : ℕ) (q : x ≡ unwrap_or n 0) where
      grown-value : value (r.word ++ (b ∷ [])) ≡ x * 10 + (b - 48)
      grown-value = value-snoc 0 r.word b ∙ ap (λ (y : ℕ). y * 10 + (b - 48)) (r.value_so_far ∙ sym q)

      grown-number : is_number (r.word ++ (b ∷ [])) ≡ (is_digit b and leb (x * 10 + (b - 48)) 18446744073709551615)
      grown-number = number-snoc r.word b ∙ rw (r.number, r.value_so_far ∙ sym q)

      pub number_goes_on : (y : ℕ) → blank b ≡ false → is_digit b ≡ true → x * 10 + (b - 48) < 2 ^ 64 → y ≡ x * 10 + (b - 48) → InCall v s (Some y) (l ++ (b ∷ []))
      number_goes_on y e d h z =
          record {
            done = r.done;
            word = r.word ++ (b ∷ []);
            splits = call-grows e;
            numbers = r.numbers;
            values = r.values;
            begun = filled_more r.word b;
            number = grown-number ∙ rw (d, le-leb (x * 10 + (b - 48)) 18446744073709551615 (omega arith));
            value_so_far = grown-value ∙ sym z;
          }

      no-digit : (d : Bool) → is_digit b ≡ d → ((is_digit b ≡ true) × (x * 10 + (b - 48) < 2 ^ 64) → ⊥) → (d and leb (x * 10 + (b - 48)) 18446744073709551615) ≡ false
      no-digit false e h = refl
      no-digit true e h = lt-leb (x * 10 + (b - 48)) 18446744073709551615 (not-below (x * 10 + (b - 48)) (λ m. h (e, m)))
        where
          not-below : (m : ℕ) → (m < 2 ^ 64 → ⊥) → 18446744073709551615 < m
          not-below m f = omega arith

      pub no_number : blank b ≡ false → ((is_digit b ≡ true) × (x * 10 + (b - 48) < 2 ^ 64) → ⊥) → Settled NoCall (l ++ (b ∷ []))
      no_number e h rest =
          let bad = grown-number ∙ no-digit (is_digit b) refl h in
          let last = leads-on (λ (w : List ℕ). (filled w ≡ true) × (is_number w ≡ false)) (λ w a p. (filled_more w a, number-snoc w a ∙ rw p.1)) (λ w p. p.0) rest (r.word ++ (b ∷ [])) (filled_more r.word b, bad) in
          ap asked (call-grows e rest ∙ ap (λ (ws : List (List ℕ)). name v ∷ (r.done ++ ws)) last.leads) ∙ asks_bad v r.done last.word last.others last.has.1

-- a line of blanks, or a remark
pub asks_nothing : (s : Line) (l : List ℕ) → (s ≡ Blank) ⊎ (s ≡ Remark) → Reads s l → Nothing ≡ meaning l
asks_nothing s l (inl e) r = sym (blank_end l (rw e at r))
asks_nothing s l (inr e) r = sym (settled_end Nothing l (rw e at r))
