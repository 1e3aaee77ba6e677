use Rattle.std.proofs.Common.{◌≡◌, drop, map}
use Rattle.pg_files.specs.MemStore.{files, stored_file, file_at}
use Rattle.pg_files.proofs.mem_store.MemStore.place_of.Given as goal

abbrev pub invariant-loop-place : goal.invariant-loop-place
invariant-loop-place g l = file_at (map stored_file (drop l.place l.self.files.items)) l.path
    ≡ file_at (files l.self) l.path
