use Rattle.std.proofs.Common.{◌≡◌, drop}
use Rattle.bk_elf.specs.Loading.{types_at}
use Rattle.bk_elf.proofs.Signing.{joined}
use Rattle.bk_elf.proofs.signatures.types_at.Given as goal

-- the types so far and those of the places that are left
abbrev pub invariant-loop-place : goal.invariant-loop-place
invariant-loop-place l = joined l.types.items (types_at l.codes (drop l.place-index l.places)) ≡ types_at l.codes l.places
