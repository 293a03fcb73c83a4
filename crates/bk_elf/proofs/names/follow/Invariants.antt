use Rattle.std.proofs.Common.{◌≡◌, drop}
use Rattle.std.specs.Str.{bytes_eq}
use Rattle.bk_elf.proofs.Naming.{bytes_named}
use Rattle.bk_elf.proofs.names.follow.Given as goal

-- the bytes that are left are the names that are left where all are
abbrev pub invariant-loop-name : goal.invariant-loop-name
invariant-loop-name l = bytes_eq l.rest (bytes_named (drop l.name-index l.names)) ≡ bytes_eq l.bytes (bytes_named l.names)
