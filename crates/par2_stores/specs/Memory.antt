-- A store in memory: its contents, and the counts of its failures, of calls that can't be done, and of writing calls.
use Rattle.std.specs.Prelude.{ℕ}
use Rattle.par2_spec.specs.Prelude.{Contents}
use Rattle.par2_stores.specs.declared.memory.MemoryStore.{MemoryStore}

-- the files and the journal
abbrev pub memory_contents : MemoryStore → Contents
memory_contents store = record { files = store.folder.files; journal = store.journal }

-- the number of the store's failures
abbrev pub memory_failures : MemoryStore → ℕ
memory_failures store = store.failures.count

-- the number of calls that can't be done
abbrev pub memory_impossible : MemoryStore → ℕ
memory_impossible store = store.impossible.count

-- the number of writing calls
abbrev pub memory_writing_calls : MemoryStore → ℕ
memory_writing_calls store = store.writing_calls.count
