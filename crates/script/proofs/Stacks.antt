-- A stack's words one by one, as its line tells them.
use Prim.Native.Nat.{ℕ, ◌+◌, ◌<◌, ◌≤◌}
use mathlib.Core.Path.{◌≡◌, refl}
use mathlib.Core.List.{List, [], ◌∷◌, ◌++◌}
use mathlib.Core.Logic.{◌≢◌}
use borrow.Author.Tests.{eq-eqb, ne_eqb}
use lib.Chars.{codes}
use lib.ListN.{length, get_or, drop}
use Rattle.std.proofs.lemmas.List.{drop_more, drop_all}
use Rattle.std.specs.Fmt.{decimal}
use Rattle.script.specs.Texts.{stacked_text}

module _ (l : List ℕ) (i : ℕ) where
  pub stacked-end : length l ≤ i → stacked_text (drop i l) ≡ []
  unfolding stacked_text
  stacked-end h = rw (drop_all i l h) refl

  pub stacked-none : i < length l → get_or l i 0 ≡ 18446744073709551615 → stacked_text (drop i l) ≡ []
  unfolding stacked_text
  stacked-none h e = rw (drop_more l i 0 h, eq-eqb _ _ e) refl

  pub stacked-next : i < length l → get_or l i 0 ≢ 18446744073709551615 → stacked_text (drop i l) ≡ codes " " ++ (decimal (get_or l i 0) ++ stacked_text (drop (i + 1) l))
  unfolding stacked_text
  stacked-next h e = rw (drop_more l i 0 h, ne_eqb _ _ e) refl
