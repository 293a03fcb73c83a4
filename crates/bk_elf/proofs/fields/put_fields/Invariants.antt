use Rattle.std.proofs.Common.{◌≡◌, ◌++◌, drop}
use Rattle.bk_elf.specs.Fields.{spelled}
use Rattle.bk_elf.proofs.fields.put_fields.Given as goal

-- what is written and the fields that are left
abbrev pub invariant-loop-field : goal.invariant-loop-field
invariant-loop-field l = l.out.items ++ spelled (drop l.field-index l.fields) ≡ l.initial.out.items ++ spelled l.fields
