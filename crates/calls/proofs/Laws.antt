-- A promise from its parts: refused by 10, or done as the rules do.
use Prim.Native.Nat.{ℕ, ◌+◌, ◌*◌}
use mathlib.Core.Path.{◌≡◌, refl, sym, ap, ◌∙◌}
use mathlib.Core.Bool.{Bool, true, false, true≢false}
use lib.Dec.{eqb}
use lib.ListN.{length}
use borrow.Author.Tests.{eqb-true, eq-eqb}
use Rattle.std.proofs.Common.{Result, Ok, Err}
use Rattle.rules.specs.declared.Sizes.{Sizes}
use Rattle.rules.specs.declared.Refusal.{Refusal}
use Rattle.rules.specs.declared.Report.{Report}
use Rattle.rules.specs.declared.Report.TheVariants as report
use Rattle.rules.specs.Words.{◌and◌}
use Rattle.rules.specs.Told.{told}
use Rattle.rules.specs.Kinds.{number_of, told_by}
use Rattle.rules.specs.Rebalance.{Outcome, gives}
use Rattle.rules.specs.Shape.{shape}
use Rattle.rules.specs.Calls.{Call, does, calls}
use Rattle.rules.proofs.Tests.{and_left, and_right}
use Rattle.rows.specs.Rows.{Lent}
use Rattle.rows.specs.declared.shaped.Shaped.{Shaped}
use Rattle.calls.specs.Promise.{Lending, tables_of, lent, Promise}
use Rattle.calls.specs.Readied.{words_of, Readied}

leading : (a b : ℕ) (rest : Bool) → (eqb a b and rest) ≡ true → a ≡ b
leading a b rest t = eqb-true a b (and_left (eqb a b) rest t)

-- the lengths, by name
pub lent-lengths : (z : Sizes) (w : Lending) → lent z w ≡ true → Lent z w.directory w.tasks w.chunks w.entries w.values w.marks
lent-lengths z w t =
    let a1 = and_right (eqb (length w.directory) (6 + z.chunks * 2)) _ t in
    let a2 = and_right (eqb (length w.tasks) (z.tasks * 11 + z.tasks * z.entries)) _ a1 in
    let a3 = and_right (eqb (length w.chunks) (z.chunks * 6)) _ a2 in
    let a4 = and_right (eqb (length w.entries) (z.chunks * z.entries * 3)) _ a3 in
    record {
      directory = leading (length w.directory) (6 + z.chunks * 2) _ t;
      tasks = leading (length w.tasks) (z.tasks * 11 + z.tasks * z.entries) _ a1;
      chunks = leading (length w.chunks) (z.chunks * 6) _ a2;
      entries = leading (length w.entries) (z.chunks * z.entries * 3) _ a3;
      values = leading (length w.values) z.handles _ a4;
      marks = eqb-true (length w.marks) z.handles (and_right (eqb (length w.values) z.handles) _ a4);
    }

pub lengths-lent : (z : Sizes) (w : Lending) → Lent z w.directory w.tasks w.chunks w.entries w.values w.marks → lent z w ≡ true
lengths-lent z w l = rw (eq-eqb _ _ l.directory, eq-eqb _ _ l.tasks, eq-eqb _ _ l.chunks, eq-eqb _ _ l.entries, eq-eqb _ _ l.values, eq-eqb _ _ l.marks)

-- ---- slices that are as long as they were
pub record Long (a b : Lending) : Type 0 where
  pub directory : length b.directory ≡ length a.directory
  pub tasks : length b.tasks ≡ length a.tasks
  pub chunks : length b.chunks ≡ length a.chunks
  pub entries : length b.entries ≡ length a.entries
  pub values : length b.values ≡ length a.values
  pub marks : length b.marks ≡ length a.marks

pub still-lent : (z : Sizes) (a b : Lending) → lent z a ≡ true → Long a b → lent z b ≡ true
still-lent z a b e l = rw (l.directory, l.tasks, l.chunks, l.entries, l.values, l.marks) e

-- ---- the words that are ready are those of the tables as they are lent
pub ready-words : (z : Sizes) (w : Lending) (s : Shaped) → Readied z w (Ok s) → (P : Sizes → Lending → Type 0) → P s.lent.z (words_of s.lent) → P z w
ready-words z w s t P p = rw (← t.0, ← t.1) p

module _ (z : Sizes) (c : Call) (before : Lending) where
  -- the words are not lent as asked, or fail the shape
  unready : (lent z before and shape z (tables_of z before)) ≡ false → Promise z c before before (report.Refused 10)
  unfolding calls
  unready t = go (lent z before) refl t
    where
      go : (b : Bool) → lent z before ≡ b → (b and shape z (tables_of z before)) ≡ false → Promise z c before before (report.Refused 10)
      go false e t = record { refuses = λ h. (refl, refl); reports = λ h. absurd (true≢false (sym h ∙ e)); leaves = λ h. absurd (true≢false (sym h ∙ e)); lends = λ h. h }
      go true e t = record { refuses = λ h. absurd (true≢false (sym e ∙ h)); reports = λ h. rw t; leaves = λ h. rw t; lends = λ h. h }

  pub refused : (why : Refusal) → Readied z before (Err why) → (r : Result Report Refusal) → told_by r ≡ report.Refused (number_of why) → Promise z c before before (told_by r)
  refused why t r e = rw (e, t.0) (unready t.1)

  -- the words are lent as asked and have the shape, and the call does what the rules do
  pub done : (s : Shaped) → Readied z before (Ok s) → (after : Lending) (r : Report) → gives (tables_of z after) r ≡ does z (tables_of z before) c → Long before after → Promise z c before after r
  unfolding calls
  done s t after r o long =
      let l = ready-words z before s t (λ y w. lent y w ≡ true) (lengths-lent s.lent.z (words_of s.lent) s.lent.lends) in
      let h = ready-words z before s t (λ y w. shape y (tables_of y w) ≡ true) s.shaped in
      record {
        refuses = λ e. absurd (true≢false (sym l ∙ e));
        reports = λ e. rw h (ap (λ (o : Outcome). told o.report) o);
        leaves = λ e. rw h (ap (λ (o : Outcome). o.tables) o);
        lends = λ e. still-lent z before after e long;
      }
