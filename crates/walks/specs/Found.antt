-- What a walk along a list, or through the rows of a table, has found.
use Rattle.std.specs.Prelude.{ℕ, Option, Some, None, IfSome, ◌≡◌, ◌<◌, Bool, eqb}
use Rattle.rules.specs.declared.Sizes.{Sizes}
use Rattle.rules.specs.declared.Task.{Task}
use Rattle.rules.specs.declared.ChunkNo.{ChunkNo}
use Rattle.rules.specs.declared.EntryNo.{EntryNo}
use Rattle.rules.specs.Words.{no_chunk, no_entry, ◌and◌}

-- the entry's number, or none
abbrev pub named : Option EntryNo → EntryNo
named (Some e) = e
named None = no_entry

-- it is the entry that the rules name, and one of a chunk's where there is one
abbrev pub Found : Sizes → Option EntryNo → EntryNo → Type 0
Found z o e = (named o ≡ e) × IfSome o (λ x. x.0 < z.entries)

-- the chunk's number, or none
abbrev pub numbered : Option ChunkNo → ChunkNo
numbered (Some c) = c
numbered None = no_chunk

-- it is the chunk that the rules name, and one of so many where there is one
abbrev pub FoundChunk : ℕ → Option ChunkNo → ChunkNo → Type 0
FoundChunk n o c = (numbered o ≡ c) × IfSome o (λ x. x.0 < n)

-- the task is published, and holds the chunk
unfoldable pub publishes_on : ChunkNo → Task → Bool
publishes_on c t = eqb t.published 1 and eqb t.chunk.0 c.0
