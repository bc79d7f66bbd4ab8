-- What is read at a row, and that writing row i is `set` of row i: one law over the row's width serves all tables.
use Prim.Native.Nat.{ℕ, zero, suc, ◌+◌, ◌*◌, ◌-◌, ◌≤◌, ◌<◌}
use mathlib.Core.Path.{◌≡◌, refl, sym, ap, ◌∙◌}
use mathlib.Core.List.{List, [], ◌∷◌, ◌++◌, append_assoc}
use mathlib.Core.Logic.{◌≢◌, ◌⊎◌, inl, inr, ⊎_elim}
use native.Mathlib.Nat.{add-zero, zero-add, suc-add, le_of_suc-le-suc, not-suc-le-zero, suc-mul, mul-le-mul_right}
use native.Mathlib.Numerals.{add-one}
use native.Mathlib.Omega.{arith}
use native.Mathlib.Decide.{dec_lt}
use lib.ListN.{length, get_or, set, take, drop, get_or-append, get_or-eq_default}
use lib.Seq.{sets, sets-eq, get_or-append-add, get_or-take, get_or-drop, length-take-le, set_out}
use Rattle.rows.specs.Rows.{rows_from}

ne-lt-or-lt : (a b : ℕ) → a ≢ b → (a < b) ⊎ (b < a)
ne-lt-or-lt a b n = go (dec_lt a b)
  where
    go : Dec (a < b) → (a < b) ⊎ (b < a)
    go (yes h) = inl h
    go (no h) = inr (omega arith)

-- a walk of so many steps, one step on
pub one_less {ℓ} : {A : Type ℓ} (f : ℕ → A) (steps n : ℕ) → f (steps - n - 1) ≡ f (steps - (n + 1))
one_less f steps n = ap f (omega arith)

-- entry e of chunk c, of m chunks of n entries
pub row_below : (m n c e : ℕ) → c < m → e < n → c * n + e < m * n
row_below m n c e h k = omega (arith, mul-le-mul_right n h, suc-mul c n)

-- words of different rows differ
pub rows-differ : (n c d e f : ℕ) → c ≢ d → e < n → f < n → c * n + e ≢ d * n + f
rows-differ n c d e f h k l q = ⊎_elim (below c d e f k q) (below d c f e l (sym q)) (ne-lt-or-lt c d h)
  where
    below : (a b i j : ℕ) → i < n → a * n + i ≡ b * n + j → a < b → ⊥
    below a b i j p q r = omega (arith, mul-le-mul_right n r, suc-mul a n)

-- all entries of chunk c
pub rows-below : (m n c : ℕ) → c < m → c * n + n ≤ m * n
rows-below m n c h = omega (arith, mul-le-mul_right n h, suc-mul c n)

module _ {A : Type 0} where
  pub length-rows : (f : ℕ → A) (i n : ℕ) → length (rows_from f i n) ≡ n
  unfolding rows_from
  length-rows f i zero = refl
  length-rows f i (suc n) = ap suc (length-rows f (i + 1) n)

  from : (f : ℕ → A) (i n j : ℕ) (d : A) → j < n → get_or (rows_from f i n) j d ≡ f (i + j)
  unfolding rows_from
  from f i zero j d h = absurd (not-suc-le-zero h)
  from f i (suc n) zero d h = ap f (sym (add-zero i))
  from f i (suc n) (suc j) d h =
      from f (i + 1) n j d (le_of_suc-le-suc h) ∙ ap f (omega arith)

  -- the row that is read is the row
  pub row_read : (f : ℕ → A) (n j : ℕ) (d : A) → j < n → get_or (rows_from f 0 n) j d ≡ f j
  row_read f n j d h = from f 0 n j d h ∙ ap f (zero-add j)

  -- a row of tables that are the same
  pub row_same : (f g : ℕ → A) (n j : ℕ) (d : A) → j < n → rows_from f 0 n ≡ rows_from g 0 n → f j ≡ g j
  row_same f g n j d h e = sym (row_read f n j d h) ∙ ap (λ (l : List A). get_or l j d) e ∙ row_read g n j d h

  -- the rows from i on, of n
  pub rows_step : (f : ℕ → A) (n i : ℕ) → i < n → rows_from f i (n - i) ≡ f i ∷ rows_from f (i + 1) (n - (i + 1))
  unfolding rows_from
  rows_step f n i h = go (n - i) (n - (i + 1)) (omega arith)
    where
      go : (m k : ℕ) → m ≡ k + 1 → rows_from f i m ≡ f i ∷ rows_from f (i + 1) k
      go m k e = rw (e, add-one)

  pub rows-done : (f : ℕ → A) (n i : ℕ) → n ≤ i → rows_from f i (n - i) ≡ []
  unfolding rows_from
  rows-done f n i h = go (n - i) (omega arith)
    where
      go : (m : ℕ) → m ≡ 0 → rows_from f i m ≡ []
      go m e = rw e

  pub drop-rows : (f : ℕ → A) (n i : ℕ) → i ≤ n → drop i (rows_from f 0 n) ≡ rows_from f i (n - i)
  unfolding rows_from
  drop-rows f n i h = go i 0 n (n - i) (omega arith) ∙ ap (λ (k : ℕ). rows_from f k (n - i)) (zero-add i)
    where
      go : (j k m r : ℕ) → m ≡ j + r → drop j (rows_from f k m) ≡ rows_from f (k + j) r
      go zero k m r e = rw (e, zero-add, add-zero)
      go (suc j) k m r e = rw (e, suc-add) (go j (k + 1) (j + r) r refl ∙ ap (λ (i : ℕ). rows_from f i r) (omega arith))

  -- a number past the table
  pub row-past : (f : ℕ → A) (n j : ℕ) (d : A) → n ≤ j → get_or (rows_from f 0 n) j d ≡ d
  row-past f n j d h = get_or-eq_default (rows_from f 0 n) d (rw length-rows h)

  pub set_past : (f : ℕ → A) (n j : ℕ) (x : A) → n ≤ j → rows_from f 0 n ≡ set (rows_from f 0 n) j x
  set_past f n j x h = sym (set_out (rows_from f 0 n) j x (rw length-rows h))

  same_from : (f g : ℕ → A) (i n : ℕ) → ((k : ℕ) → i ≤ k → k < i + n → g k ≡ f k) → rows_from g i n ≡ rows_from f i n
  unfolding rows_from
  same_from f g i zero q = refl
  same_from f g i (suc n) q =
      let here : g i ≡ f i = q i (omega arith) (omega arith) in
      let on : rows_from g (i + 1) n ≡ rows_from f (i + 1) n = same_from f g (i + 1) n (λ k h l. q k (omega arith) (omega arith)) in
      cc

  -- rows that agree
  pub row-alike : (f g : ℕ → A) (n : ℕ) → ((k : ℕ) → k < n → f k ≡ g k) → rows_from f 0 n ≡ rows_from g 0 n
  row-alike f g n q = same_from g f 0 n (λ k h l. q k (omega arith))

  set-from : (f g : ℕ → A) (i n j : ℕ) (x : A) → g (i + j) ≡ x → ((k : ℕ) → k ≢ i + j → g k ≡ f k) → rows_from g i n ≡ set (rows_from f i n) j x
  unfolding rows_from
  set-from f g i zero j x p q = refl
  set-from f g i (suc n) zero x p q =
      let here : g i ≡ x = ap g (sym (add-zero i)) ∙ p in
      let on : rows_from g (i + 1) n ≡ rows_from f (i + 1) n = same_from f g (i + 1) n (λ k h l. q k (λ e. absurd (omega arith))) in
      cc
  set-from f g i (suc n) (suc j) x p q =
      let e : i + suc j ≡ i + 1 + j = omega arith in
      let here : g i ≡ f i = q i (λ e. absurd (omega arith)) in
      let on : rows_from g (i + 1) n ≡ set (rows_from f (i + 1) n) j x = set-from f g (i + 1) n j x (ap g (sym e) ∙ p) (λ k h. q k (λ e'. h (e' ∙ e))) in
      cc

  -- rows that differ at row j alone
  pub row-set : (f g : ℕ → A) (n j : ℕ) (x : A) → g j ≡ x → ((k : ℕ) → k ≢ j → g k ≡ f k) → rows_from g 0 n ≡ set (rows_from f 0 n) j x
  row-set f g n j x p q = set-from f g 0 n j x (ap g (zero-add j) ∙ p) (λ k h. q k (λ e. h (e ∙ sym (zero-add j))))

-- ---- so many words to a row: a run of stores at row i is read at row i, and no other row sees it
module _ (w : ℕ) (ws vs : List ℕ) (i : ℕ) (wide : length vs ≡ w) (fits : i * w + w ≤ length ws) where
  after : List ℕ
  after = sets ws (i * w) vs

  split : after ≡ take (i * w) ws ++ (vs ++ drop (i * w + w) ws)
  unfolding after
  split = rw (← wide) (sets-eq vs ws (i * length vs) (rw wide fits) ∙ append_assoc (take (i * length vs) ws) vs (drop (i * length vs + length vs) ws))

  long : length (take (i * w) ws) ≡ i * w
  long = length-take-le (i * w) ws (omega arith)

  -- a word of the row
  pub stored : (o : ℕ) → o < w → get_or (sets ws (i * w) vs) (i * w + o) 0 ≡ get_or vs o 0
  unfolding after
  stored o h =
      ap (λ (l : List ℕ). get_or l (i * w + o) 0) split
      ∙ ap (λ (n : ℕ). get_or (take (i * w) ws ++ (vs ++ drop (i * w + w) ws)) (n + o) 0) (sym long)
      ∙ get_or-append-add (take (i * w) ws) (vs ++ drop (i * w + w) ws) o 0
      ∙ get_or-append vs (drop (i * w + w) ws) 0 o (rw wide h)

  before : (n : ℕ) → n < i * w → get_or (sets ws (i * w) vs) n 0 ≡ get_or ws n 0
  unfolding after
  before n h =
      ap (λ (l : List ℕ). get_or l n 0) split
      ∙ get_or-append (take (i * w) ws) (vs ++ drop (i * w + w) ws) 0 n (rw long h)
      ∙ get_or-take (i * w) ws n 0 h

  -- a word past the row
  pub behind : (n : ℕ) → get_or (sets ws (i * w) vs) (i * w + (w + n)) 0 ≡ get_or ws (i * w + w + n) 0
  unfolding after
  behind n =
      ap (λ (l : List ℕ). get_or l (i * w + (w + n)) 0) split
      ∙ ap (λ (m : ℕ). get_or (take (i * w) ws ++ (vs ++ drop (i * w + w) ws)) (m + (w + n)) 0) (sym long)
      ∙ get_or-append-add (take (i * w) ws) (vs ++ drop (i * w + w) ws) (w + n) 0
      ∙ ap (λ (m : ℕ). get_or (vs ++ drop (i * w + w) ws) (m + n) 0) (sym wide)
      ∙ get_or-append-add vs (drop (i * w + w) ws) n 0
      ∙ get_or-drop (i * w + w) ws n 0

  -- a word of another row
  pub kept : (j o : ℕ) → j ≢ i → o < w → get_or (sets ws (i * w) vs) (j * w + o) 0 ≡ get_or ws (j * w + o) 0
  kept j o n h = ⊎_elim lower higher (ne-lt-or-lt j i n)
    where
      lower : j < i → get_or (sets ws (i * w) vs) (j * w + o) 0 ≡ get_or ws (j * w + o) 0
      lower l = before (j * w + o) (omega (arith, mul-le-mul_right w l, suc-mul j w))

      higher : i < j → get_or (sets ws (i * w) vs) (j * w + o) 0 ≡ get_or ws (j * w + o) 0
      higher l =
          let r : ℕ = j * w + o - (i * w + w) in
          let b : suc i * w ≤ j * w = mul-le-mul_right w l in
          let e : j * w + o ≡ i * w + (w + r) = omega (arith, suc-mul i w) in
          let e' : j * w + o ≡ i * w + w + r = omega (arith, suc-mul i w) in
          ap (λ (m : ℕ). get_or (sets ws (i * w) vs) m 0) e ∙ behind r ∙ ap (λ (m : ℕ). get_or ws m 0) (sym e')
