-- The handles that are left while those named and held are struck off: a bit for each, that of handle n the bit n / 128 of word n % 128 (document 02, E4).
use Rattle.std.specs.Prelude.{ℕ, ◌/◌, ◌%◌, ◌^◌, ◌<◌, ◌≡◌, Bool, List, get_or, Option, Some, None, IfSome}
use Rattle.rules.specs.declared.Sizes.{Sizes}
use Rattle.rules.specs.declared.HandleNo.{HandleNo}
use Rattle.rules.specs.Words.{pick, no_handle}

-- the most handles
abbrev pub room : ℕ
room = 4672

-- a number's binary digit
abbrev pub digit : ℕ → ℕ → ℕ
digit w i = w / 2 ^ i % 2

-- the handle's bit: 1 while it is left
abbrev pub bit_at : List ℕ → ℕ → ℕ
bit_at w h = digit (get_or w (h % 128) 0) (h / 128)

-- of the handles exactly those of which the test says so are struck off
pub record Struck (before after : List ℕ) (off : ℕ → Bool) : Type 0 where
  pub bits : (h : ℕ) → h < room → bit_at after h ≡ pick (off h) 0 (bit_at before h)

-- the word has the bits of the first n
pub record Joined (w : List ℕ) (n any : ℕ) : Type 0 where
  pub fits : any < 2 ^ 64
  pub none : (b : ℕ) → digit any b ≡ 0 → (i : ℕ) → i < n → digit (get_or w i 0) b ≡ 0
  pub some : (b : ℕ) → digit any b ≡ 1 → (i : ℕ) × (i < n) × (digit (get_or w i 0) b ≡ 1)

-- the first of the words that has the bit, where one does
abbrev pub First : List ℕ → ℕ → Option ℕ → Type 0
First w b (Some i) = (i < 128) × ((j : ℕ) → j < i → digit (get_or w j 0) b ≡ 0) × (digit (get_or w i 0) b ≡ 1)
First w b None = (j : ℕ) → j < 128 → digit (get_or w j 0) b ≡ 0

-- no handle under the number is left, and the handle of the number is where it is one
pub record Lowest (w : List ℕ) (n : ℕ) : Type 0 where
  pub under : (h : ℕ) → h < room → h < n → bit_at w h ≡ 0
  pub here : n < room → bit_at w n ≡ 1

-- the number of the lowest handle left, or none where no handle is
abbrev pub LowestLeft : List ℕ → Option ℕ → Type 0
LowestLeft w (Some n) = Lowest w n
LowestLeft w None = Lowest w room

-- the handle's number, or none
abbrev pub named : Option HandleNo → HandleNo
named (Some h) = h
named None = no_handle

-- it is the handle that the rules name, and one of the table where there is one
abbrev pub Taken : Sizes → Option HandleNo → HandleNo → Type 0
Taken z o h = (named o ≡ h) × IfSome o (λ x. x.0 < z.handles)
