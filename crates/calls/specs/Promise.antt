-- What each call promises of its report and of every word of the lent tables (document 01, "How tightly each call is promised").
use Rattle.std.specs.Prelude.{ℕ, ◌+◌, ◌*◌, ◌≡◌, Bool, true, false, List, eqb, length}
use Rattle.rules.specs.declared.Sizes.{Sizes}
use Rattle.rules.specs.declared.Report.{Report}
use Rattle.rules.specs.declared.Report.TheVariants as report
use Rattle.rules.specs.Words.{◌and◌}
use Rattle.rules.specs.Told.{told}
use Rattle.rules.specs.Tables.{Tables}
use Rattle.rules.specs.Layout.{tables}
use Rattle.rules.specs.Rebalance.{Outcome, gives}
use Rattle.rules.specs.Calls.{Call, fresh, calls}
use Rattle.rows.specs.Rows.{Lend}

-- the words of every table that a host lends
pub record Lending : Type 0 where
  pub directory : List ℕ
  pub tasks : List ℕ
  pub chunks : List ℕ
  pub entries : List ℕ
  pub values : List ℕ
  pub marks : List ℕ

abbrev pub lending : List ℕ → List ℕ → List ℕ → List ℕ → List ℕ → List ℕ → Lending
lending d ts cs es vs ms = record { directory = d; tasks = ts; chunks = cs; entries = es; values = vs; marks = ms }

-- as they are lent to a call, and as it leaves them: the words of each slice, at the moment that its contract names
module _ (d ts cs es vs ms : Lend) where
  abbrev pub words_lent : Lending
  words_lent = lending d ts cs es vs ms

  abbrev pub words_left : Lending
  words_left = lending d ts cs es vs ms

-- the tables that the words are
abbrev pub tables_of : Sizes → Lending → Tables
tables_of z w = tables z w.directory w.tasks w.chunks w.entries w.values w.marks

-- each slice has the length that the sizes ask
abbrev pub lent : Sizes → Lending → Bool
lent z w =
    eqb (length w.directory) (6 + z.chunks * 2)
    and eqb (length w.tasks) (z.tasks * 11 + z.tasks * z.entries)
    and eqb (length w.chunks) (z.chunks * 6)
    and eqb (length w.entries) (z.chunks * z.entries * 3)
    and eqb (length w.values) z.handles
    and eqb (length w.marks) z.handles

-- on the words before the report and the words after are those of a rule; slices of another length are refused by 10 and left as found
pub record Obeys (z : Sizes) (rule : Tables → Outcome) (before after : Lending) (r : Report) : Type 0 where
  pub refuses : lent z before ≡ false → (told r ≡ told (report.Refused 10)) × (after ≡ before)
  pub reports : lent z before ≡ true → told r ≡ told (rule (tables_of z before)).report
  pub leaves : lent z before ≡ true → tables_of z after ≡ (rule (tables_of z before)).tables
  pub lends : lent z before ≡ true → lent z after ≡ true

-- a call promises what the rules do, and `fresh` to make the fresh directory over whatever the words held
abbrev pub Promise : Sizes → Call → Lending → Lending → Report → Type 0
Promise z c = Obeys z (λ s. calls z s c)

abbrev pub Makes : Sizes → Lending → Lending → Report → Type 0
Makes z = Obeys z (λ s. gives (fresh z) report.Done)
