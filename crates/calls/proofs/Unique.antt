-- Two outcomes that a promise allows are equal: the report, and every word.
use Prim.Native.Nat.{ℕ, ◌*◌}
use mathlib.Core.Path.{◌≡◌, refl, sym, ap, ◌∙◌}
use mathlib.Core.Bool.{Bool, true, false}
use mathlib.Core.List.{List}
use Rattle.rules.specs.declared.Sizes.{Sizes}
use Rattle.rules.specs.declared.Report.{Report}
use Rattle.rules.specs.Told.{told}
use Rattle.rules.specs.Tables.{Tables}
use Rattle.rules.specs.Rebalance.{Outcome}
use Rattle.rules.proofs.Told.{told-injective}
use Rattle.rows.proofs.Layouts.{directory-same, task-same, chunk-same, entry-same}
use Rattle.calls.specs.Promise.{Lending, lending, tables_of, lent, Obeys}
use Rattle.calls.proofs.Laws.{lent-lengths}

same-words : (d d' ts ts' cs cs' es es' vs vs' ms ms' : List ℕ) → d ≡ d' → ts ≡ ts' → cs ≡ cs' → es ≡ es' → vs ≡ vs' → ms ≡ ms' → lending d ts cs es vs ms ≡ lending d' ts' cs' es' vs' ms'
same-words d d' ts ts' cs cs' es es' vs vs' ms ms' p q r s t u = cc

-- words lent as asked are told apart by their tables
pub tables-words : (z : Sizes) (a b : Lending) → lent z a ≡ true → lent z b ≡ true → tables_of z a ≡ tables_of z b → a ≡ b
tables-words z a b p q e =
    let la = lent-lengths z a p in
    let lb = lent-lengths z b q in
    same-words _ _ _ _ _ _ _ _ _ _ _ _
    (directory-same z.chunks _ _ la.directory lb.directory (ap (λ (s : Tables). s.directory) e) (ap (λ (s : Tables). s.index) e))
    (task-same z _ _ la.tasks lb.tasks (ap (λ (s : Tables). s.tasks) e) (ap (λ (s : Tables). s.stacks) e))
    (chunk-same z.chunks _ _ la.chunks lb.chunks (ap (λ (s : Tables). s.chunks) e))
    (entry-same (z.chunks * z.entries) _ _ la.entries lb.entries (ap (λ (s : Tables). s.entries) e))
    (ap (λ (s : Tables). s.values) e)
    (ap (λ (s : Tables). s.marks) e)

-- two outcomes, each refused by 10 and as found, or with the same report and the same tables
module _ (z : Sizes) (before a b : Lending) (r q : Report) where
  agree : (lent z before ≡ false → (told r ≡ told q) × (a ≡ b)) → (lent z before ≡ true → (told r ≡ told q) × (tables_of z a ≡ tables_of z b) × (lent z a ≡ true) × (lent z b ≡ true)) → (r ≡ q) × (a ≡ b)
  agree out inside = go (lent z before) refl
    where
      go : (t : Bool) → lent z before ≡ t → (r ≡ q) × (a ≡ b)
      go false e = (told-injective r q (out e).0, (out e).1)
      go true e = let i = inside e in (told-injective r q i.0, tables-words z a b i.2 i.3 i.1)

  pub obeys-by : (rule : Tables → Outcome) → Obeys z rule before a r → Obeys z rule before b q → (r ≡ q) × (a ≡ b)
  obeys-by rule p o =
      agree (λ e. ((p.refuses e).0 ∙ sym (o.refuses e).0, (p.refuses e).1 ∙ sym (o.refuses e).1))
      (λ e. (p.reports e ∙ sym (o.reports e), p.leaves e ∙ sym (o.leaves e), p.lends e, o.lends e))

pub obeys-unique : (z : Sizes) (rule : Tables → Outcome) (before a b : Lending) (r q : Report) → Obeys z rule before a r → Obeys z rule before b q → (r ≡ q) × (a ≡ b)
obeys-unique z rule before a b r q = obeys-by z before a b r q rule
