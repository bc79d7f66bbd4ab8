-- Tests as the code makes them, and as the rules say them.
use mathlib.Core.Path.{◌≡◌, refl, sym, ◌∙◌}
use mathlib.Core.Bool.{Bool, true, false, ◌&&◌, ◌||◌, false≢true}
use Rattle.rules.specs.Words.{pick}

pub and_is : (a b : Bool) → a && b ≡ pick a b false
and_is true b = refl
and_is false b = refl

pub or_is : (a b : Bool) → a || b ≡ pick a true b
or_is true b = refl
or_is false b = refl

pub and-and : (a b c : Bool) → pick (pick a b false) c false ≡ pick a (pick b c false) false
and-and true b c = refl
and-and false b c = refl

pub and-true : (a : Bool) → pick a true false ≡ a
and-true true = refl
and-true false = refl

pub and-false : (a : Bool) → pick a false false ≡ false
and-false true = refl
and-false false = refl

pub and_left : (a b : Bool) → pick a b false ≡ true → a ≡ true
and_left true b h = refl
and_left false b h = h

pub and_right : (a b : Bool) → pick a b false ≡ true → b ≡ true
and_right true b h = h
and_right false b h = absurd (false≢true h)

-- what a test by `&` gave
pub and_both : (a b : Bool) → a && b ≡ true → (a ≡ true) × (b ≡ true)
and_both a b h = let h' : pick a b false ≡ true = sym (and_is a b) ∙ h in (and_left a b h', and_right a b h')

pub and-gives : (a b t : Bool) → a && b ≡ t → pick a b false ≡ t
and-gives a b t h = sym (and_is a b) ∙ h

-- what a test by `|` gave
pub or-gives : (a b t : Bool) → a || b ≡ t → pick a true b ≡ t
or-gives a b t h = sym (or_is a b) ∙ h

-- two tests before a third, made together
pub both-fail : (a b c : Bool) → a && b ≡ false → pick a (pick b c false) false ≡ false
both-fail true b c h = rw h
both-fail false b c h = refl

pub both_hold : (a b c : Bool) → a && b ≡ true → pick a (pick b c false) false ≡ c
both_hold true b c h = rw h
both_hold false b c h = absurd (false≢true h)
